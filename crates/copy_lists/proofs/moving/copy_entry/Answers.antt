use Rattle.std.proofs.Common.{◌+◌, ◌-◌, ◌≤◌, ◌∙◌, sym, ap, arith}
use Rattle.machine_desc.proofs.Parts.{regions_parts}
use Rattle.fresh_load.specs.Placed.{sizes_of}
use Rattle.copy_lists.specs.Moving.{bytes_in}
use Rattle.copy_lists.proofs.Places.{private_below, private_part}
use Rattle.copy_lists.proofs.Putting.{put_none, put_sizes}
use Rattle.copy_lists.proofs.Runs.{areas_stay, more_copied}
use Rattle.copy_lists.proofs.moving.copy_entry.Goals as goal

pub loop-done-init : goal.loop-done-init
loop-done-init c = record { within = omega arith; copied = sym (put_none c.args.to.now c.args.ground.now c.args.entry.now.target) }

pub overflow_add-entry : goal.overflow_add-entry
overflow_add-entry c =
    omega (arith, private_below c.args.from.now c.args.entry.now.source c.args.entry.now.size c.loop-done.done (regions_parts c.args.from.now c.requires.areas.from_sound).within c.requires.read c.loop-done-test.true)

pub overflow_add-entry-in-loop-done : goal.overflow_add-entry-in-loop-done
overflow_add-entry-in-loop-done c =
    omega (arith, private_below c.args.to.now c.args.entry.now.target c.args.entry.now.size c.loop-done.done (regions_parts c.args.to.now c.requires.areas.to_sound).within c.requires.written c.loop-done-test.true)

pub copy_run-done-requires-clause-areas : goal.copy_run-done-requires-clause-areas
copy_run-done-requires-clause-areas c =
    areas_stay c.args.from.now c.args.to.now c.args.ground.now c.loop-done.ground
    (ap sizes_of c.loop-done.invariant.copied ∙ put_sizes c.args.to.now c.args.ground.now c.args.entry.now.target (bytes_in c.args.from.now c.args.ground.now c.args.entry.now.source c.loop-done.done))
    c.requires.areas

pub copy_run-done-requires-clause-read : goal.copy_run-done-requires-clause-read
copy_run-done-requires-clause-read c =
    private_part c.args.from.now c.args.entry.now.source c.args.entry.now.size c.loop-done.done (c.args.entry.now.size - c.loop-done.done) c.requires.read (omega (arith, c.loop-done.invariant.within))

pub copy_run-done-requires-clause-written : goal.copy_run-done-requires-clause-written
copy_run-done-requires-clause-written c =
    private_part c.args.to.now c.args.entry.now.target c.args.entry.now.size c.loop-done.done (c.args.entry.now.size - c.loop-done.done) c.requires.written (omega (arith, c.loop-done.invariant.within))

pub loop-done-preserved : goal.loop-done-preserved
loop-done-preserved c =
    let most : c.loop-done.done + c.copy_run-done.result ≤ c.args.entry.now.size = omega (arith, c.loop-done.invariant.within, c.copy_run-done.ensures.most) in
    record {
      within = most;
      copied =
          c.copy_run-done.ensures.copied
          ∙ more_copied c.args.from.now c.args.to.now c.args.ground.now c.loop-done.ground c.args.entry.now.source c.args.entry.now.target c.loop-done.done c.copy_run-done.result c.requires.areas
          (private_part c.args.from.now c.args.entry.now.source c.args.entry.now.size c.loop-done.done c.copy_run-done.result c.requires.read most)
          c.loop-done.invariant.copied;
    }
