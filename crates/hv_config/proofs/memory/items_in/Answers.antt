use Rattle.std.proofs.Common.{rules, ◌≡◌, ◌+◌, ◌/◌, length, arith}
use Rattle.std.proofs.lemmas.List.FromFn.{map-range_with_len_more}
use Rattle.hv_config.specs.Cells.{width}
use Rattle.hv_config.specs.Memory.{item_at, items_in}
use Rattle.hv_config.proofs.memory.items_in.Goals as goal

pub loop-k-preserved : goal.loop-k-preserved
loop-k-preserved c =
    let more = map-range_with_len_more (item_at c.args.address c.args.size c.args.reg.now) 0 c.loop-k.k c.loop-k.k (omega arith) in
    rw (more, ← c.loop-k.invariant, ← c.item_at.ensures) c.in_ok-push.ensures.items

pub returns : goal.returns
unfolding items_in
returns c =
    let end : c.loop-k.k ≡ length c.args.reg.now / (width c.args.address + width c.args.size) = search (rules, arith) in
    rw (← end) c.loop-k.invariant
