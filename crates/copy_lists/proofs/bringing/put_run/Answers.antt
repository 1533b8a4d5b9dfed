use Rattle.std.proofs.Common.{◌≡◌, length, take, sym, ◌∙◌, arith}
use Rattle.std.proofs.lemmas.List.{length-take-le}
use Rattle.copy_lists.proofs.Brought.{run_brought}
use Rattle.copy_lists.proofs.Places.{run_there}
use Rattle.copy_lists.proofs.Runs.{held_first, never_none}
use Rattle.copy_lists.proofs.bringing.put_run.Goals as goal

pub put-requires : goal.put-requires
put-requires c =
    let there = run_there c.args.map.now c.args.ground.now c.args.at c.in-Some.place c.requires.placed (sym c.find.ensures.place ∙ c.in-Some.is) in
    let long : length (take c.min-len.result c.args.bytes.now) ≡ c.min-len.result = length-take-le c.min-len.result c.args.bytes.now (omega (arith, c.min-len.ensures)) in
    (there.0, omega (arith, there.1, long, c.min-len.ensures))

pub returns-in-Some-clause-put : goal.returns-in-Some-clause-put
returns-in-Some-clause-put c =
    let long : length (take c.min-len.result c.args.bytes.now) ≡ c.min-len.result = length-take-le c.min-len.result c.args.bytes.now (omega (arith, c.min-len.ensures)) in
    c.put.ensures
    ∙ run_brought c.args.map.now c.args.ground.now c.args.at (take c.min-len.result c.args.bytes.now) c.in-Some.place c.requires.sound c.requires.placed
    (held_first c.args.map.now c.args.at (length c.args.bytes.now) c.requires.private c.requires.some) (sym c.find.ensures.place ∙ c.in-Some.is) (omega (arith, long, c.min-len.ensures))

pub returns-in-None-clause-put : goal.returns-in-None-clause-put
returns-in-None-clause-put c =
    absurd (never_none c.args.map.now c.args.at c.requires.sound (held_first c.args.map.now c.args.at (length c.args.bytes.now) c.requires.private c.requires.some) (sym c.find.ensures.place ∙ c.in-None.is))
