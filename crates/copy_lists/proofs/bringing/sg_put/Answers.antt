use Rattle.std.proofs.Common.{take, ap, ◌∙◌}
use Rattle.fresh_load.specs.Placed.{sizes_of}
use Rattle.fresh_load.proofs.Places.{all_still_placed}
use Rattle.copy_lists.proofs.Brought.{target_private, next_brought}
use Rattle.copy_lists.proofs.Putting.{put_sizes}
use Rattle.copy_lists.proofs.bringing.sg_put.Goals as goal

pub put_entry-left-requires-clause-placed : goal.put_entry-left-requires-clause-placed
put_entry-left-requires-clause-placed c = all_still_placed c.args.ground.now c.loop-i.ground c.args.map.now c.loop-i.invariant.sizes c.requires.placed

pub put_entry-left-requires-clause-private : goal.put_entry-left-requires-clause-private
put_entry-left-requires-clause-private c = target_private c.args.map.now c.args.list.now c.loop-i.i c.entry.result c.requires.private c.entry.ensures

pub loop-i-preserved : goal.loop-i-preserved
loop-i-preserved c = record {
  rest =
      next_brought c.args.map.now c.args.list.now c.loop-i.left.now c.put_entry-left.result.now c.loop-i.ground c.put_entry-left.new.ground c.loop-i.i c.entry.result c.entry.ensures c.put_entry-left.ensures.put c.put_entry-left.ensures.left
      ∙ c.loop-i.invariant.rest;
  sizes =
      ap sizes_of c.put_entry-left.ensures.put
      ∙ (put_sizes c.args.map.now c.loop-i.ground c.entry.result.target (take c.entry.result.size c.loop-i.left.now) ∙ c.loop-i.invariant.sizes);
}
