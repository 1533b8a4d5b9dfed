use Rattle.std.proofs.Common.{◌∙◌}
use Rattle.copy_lists.proofs.Runs.{areas_stay}
use Rattle.copy_lists.proofs.Entries.{entry_private, next_copied, next_sizes, next_others}
use Rattle.copy_lists.proofs.moving.sg_copy.Goals as goal

pub copy_entry-requires-clause-areas : goal.copy_entry-requires-clause-areas
copy_entry-requires-clause-areas c =
    areas_stay c.args.from.now c.args.to.now c.args.ground.now c.loop-i.ground c.loop-i.invariant.sizes (record {
      from_sound = c.requires.from_sound;
      to_sound = c.requires.to_sound;
      from_placed = c.requires.from_placed;
      to_placed = c.requires.to_placed;
      apart = c.requires.apart;
    })

pub copy_entry-requires-clause-read : goal.copy_entry-requires-clause-read
copy_entry-requires-clause-read c = (entry_private c.args.from.now c.args.to.now c.args.list.now c.loop-i.i c.entry.result c.requires.entries c.entry.ensures).0

pub copy_entry-requires-clause-written : goal.copy_entry-requires-clause-written
copy_entry-requires-clause-written c = (entry_private c.args.from.now c.args.to.now c.args.list.now c.loop-i.i c.entry.result c.requires.entries c.entry.ensures).1

pub loop-i-preserved : goal.loop-i-preserved
loop-i-preserved c = record {
  rest =
      next_copied c.args.from.now c.args.to.now c.args.list.now c.loop-i.ground c.copy_entry.new.ground c.loop-i.i c.entry.result c.entry.ensures c.copy_entry.ensures
      ∙ c.loop-i.invariant.rest;
  sizes = next_sizes c.args.from.now c.args.to.now c.loop-i.ground c.copy_entry.new.ground c.entry.result c.copy_entry.ensures ∙ c.loop-i.invariant.sizes;
  others =
      λ extent h.
      next_others c.args.from.now c.args.to.now c.loop-i.ground c.copy_entry.new.ground c.entry.result extent c.copy_entry.ensures h ∙ c.loop-i.invariant.others extent h;
}
