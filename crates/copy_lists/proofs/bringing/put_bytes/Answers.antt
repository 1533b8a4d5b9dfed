use Rattle.std.proofs.Common.{◌≡◌, ◌+◌, ◌-◌, List, ℕ, length, take, drop, sym, ap, ◌∙◌, arith}
use Rattle.std.proofs.lemmas.List.{length-drop}
use Rattle.machine_desc.proofs.Parts.{regions_parts}
use Rattle.fresh_load.proofs.Places.{all_still_placed}
use Rattle.fresh_load.specs.Placed.{sizes_of}
use Rattle.copy_lists.specs.Moving.{put}
use Rattle.copy_lists.proofs.Brought.{more_put, rest_taken, rest_private}
use Rattle.copy_lists.proofs.Places.{private_below}
use Rattle.copy_lists.proofs.Putting.{put_none, put_sizes}
use Rattle.copy_lists.proofs.bringing.put_bytes.Goals as goal

pub loop-done-init : goal.loop-done-init
loop-done-init c = record { within = omega arith; put_so_far = sym (put_none c.args.map.now c.args.ground.now c.args.at) }

pub overflow_add-at : goal.overflow_add-at
overflow_add-at c = omega (arith, private_below c.args.map.now c.args.at (length c.args.bytes.now) c.loop-done.done (regions_parts c.args.map.now c.requires.sound).within c.requires.private c.loop-done-test.true)

pub put_run-done-requires-clause-placed : goal.put_run-done-requires-clause-placed
put_run-done-requires-clause-placed c =
    all_still_placed c.args.ground.now c.loop-done.ground c.args.map.now
    (ap sizes_of c.loop-done.invariant.put_so_far ∙ put_sizes c.args.map.now c.args.ground.now c.args.at (take c.loop-done.done c.args.bytes.now))
    c.requires.placed

pub put_run-done-requires-clause-private : goal.put_run-done-requires-clause-private
put_run-done-requires-clause-private c = rest_private c.args.map.now c.args.at c.loop-done.done c.args.bytes.now c.requires.private c.loop-done.invariant.within

pub loop-done-preserved : goal.loop-done-preserved
loop-done-preserved c =
    let left : List ℕ = drop c.loop-done.done c.args.bytes.now in
    let same : take (length c.args.bytes.now - c.loop-done.done) left ≡ left = rest_taken c.loop-done.done c.args.bytes.now in
    record {
      within = omega (arith, c.loop-done.invariant.within, c.put_run-done.ensures.most, ap length same, length-drop c.loop-done.done c.args.bytes.now);
      put_so_far =
          c.put_run-done.ensures.put
          ∙ (ap (λ (bytes : List ℕ). put c.args.map.now c.loop-done.ground (c.args.at + c.loop-done.done) (take c.put_run-done.result bytes)) same
          ∙ more_put c.args.map.now c.args.ground.now c.loop-done.ground c.args.at c.loop-done.done c.put_run-done.result c.args.bytes.now c.loop-done.invariant.within c.loop-done.invariant.put_so_far);
    }
