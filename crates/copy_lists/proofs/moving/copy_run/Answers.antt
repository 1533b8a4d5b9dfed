use Rattle.std.proofs.Common.{◌≡◌, sym, ◌∙◌, ap, arith}
use Rattle.copy_lists.specs.Moving.{put, bytes_in}
use Rattle.copy_lists.proofs.Places.{run_there}
use Rattle.copy_lists.proofs.Runs.{held_first, extents_differ, never_none, run_copied}
use Rattle.copy_lists.proofs.moving.copy_run.Goals as goal

pub copy-requires-clause-apart : goal.copy-requires-clause-apart
copy-requires-clause-apart c =
    extents_differ c.args.from.now c.args.to.now c.args.ground.now c.args.source c.args.target c.in-Some-Some.source c.in-Some-Some.target c.requires.areas
    (held_first c.args.from.now c.args.source c.args.left c.requires.read c.requires.some) (held_first c.args.to.now c.args.target c.args.left c.requires.written c.requires.some)
    (sym c.find.ensures.place ∙ c.in-Some-Some.is-0) (sym c.find-2.ensures.place ∙ c.in-Some-Some.is-1)

pub copy-requires-clause-read : goal.copy-requires-clause-read
copy-requires-clause-read c =
    let there = run_there c.args.from.now c.args.ground.now c.args.source c.in-Some-Some.source c.requires.areas.from_placed (sym c.find.ensures.place ∙ c.in-Some-Some.is-0) in
    (there.0, omega (arith, there.1, c.min.ensures, c.from.ensures, c.min-len.ensures))

pub copy-requires-clause-written : goal.copy-requires-clause-written
copy-requires-clause-written c =
    let there = run_there c.args.to.now c.args.ground.now c.args.target c.in-Some-Some.target c.requires.areas.to_placed (sym c.find-2.ensures.place ∙ c.in-Some-Some.is-1) in
    (there.0, omega (arith, there.1, c.min.ensures, c.from.ensures, c.min-len.ensures))

pub returns-in-Some-Some-clause-copied : goal.returns-in-Some-Some-clause-copied
returns-in-Some-Some-clause-copied c =
    let same : c.from-in-Some-Some.result ≡ c.min-len.result = omega (arith, c.from-in-Some-Some.ensures) in
    c.copy.ensures
    ∙ (run_copied c.args.from.now c.args.to.now c.args.ground.now c.args.source c.args.target c.min-len.result c.in-Some-Some.source c.in-Some-Some.target c.requires.areas
    (held_first c.args.to.now c.args.target c.args.left c.requires.written c.requires.some)
    (sym c.find.ensures.place ∙ c.in-Some-Some.is-0) (sym c.find-2.ensures.place ∙ c.in-Some-Some.is-1) (omega (arith, c.min.ensures, c.from.ensures, c.min-len.ensures)) (omega (arith, c.min.ensures, c.from.ensures, c.min-len.ensures))
    ∙ ap (λ n. put c.args.to.now c.args.ground.now c.args.target (bytes_in c.args.from.now c.args.ground.now c.args.source n)) (sym same))

pub returns-in_default-clause-copied : goal.returns-in_default-clause-copied
returns-in_default-clause-copied c =
    absurd (never_none c.args.to.now c.args.target c.requires.areas.to_sound (held_first c.args.to.now c.args.target c.args.left c.requires.written c.requires.some) (sym c.find-2.ensures.place ∙ c.in_default.is-1))

pub returns-in_default-2-clause-copied : goal.returns-in_default-2-clause-copied
returns-in_default-2-clause-copied c =
    absurd (never_none c.args.from.now c.args.source c.requires.areas.from_sound (held_first c.args.from.now c.args.source c.args.left c.requires.read c.requires.some) (sym c.find.ensures.place ∙ c.in_default.is-0))
