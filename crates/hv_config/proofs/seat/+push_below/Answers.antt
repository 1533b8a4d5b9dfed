use Rattle.std.proofs.Common.{◌++◌, List, ap, sym, ◌∙◌}
use Rattle.std.proofs.lemmas.List.{append-nil}
use Rattle.hv_config.specs.Seat.{Seat}
use Rattle.hv_config.proofs.Seats.{all_below, nothing_below, children_below}
use Rattle.hv_config.proofs.seat.+push_below.Goals as goal

pub returns-then-is_stranger : goal.returns-then-is_stranger
returns-then-is_stranger t c =
    rw (nothing_below c.args.node.now c.args.role c.args.before.now (sym c.is_stranger.ensures ∙ c.if-is_stranger.true)) (sym (append-nil _))

pub loop-child-init : goal.loop-child-init
loop-child-init t c =
    ap (λ (seats : List Seat). c.args.seats.now.items ++ seats)
    (ap (all_below c.args.role c.args.before.now) c.deref-child-items.ensures.value
    ∙ sym (children_below c.args.node.now c.args.role c.args.before.now (sym c.is_stranger.ensures ∙ c.if-is_stranger.false)))
