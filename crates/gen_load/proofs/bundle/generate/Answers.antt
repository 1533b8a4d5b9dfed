use Rattle.std.proofs.Common.{◌≡◌, length, ap, ◌∙◌, arith}
use Rattle.std.specs.List.{list_all}
use Rattle.gen_load.specs.Draws.{starts_of, order_of}
use Rattle.gen_load.specs.Laws.{are_below}
use Rattle.gen_load.proofs.Drawing.{count-few, starts-small, order-below, starts-known, order-known}
use Rattle.gen_load.proofs.Bundles.{bundle_is}
use Rattle.gen_load.proofs.bundle.generate.Goals as goal

starts : (c : goal.After-deref) → c.in_ok-starts.starts.items ≡ starts_of c.args.number
starts c = starts-known c.args.number c.count_of-count.result c.next-state.result c.in_ok-starts.starts.items c.count_of-count.ensures c.next-state.ensures c.in_ok-starts.ensures.list

pub images-requires-clause-few : goal.images-requires-clause-few
images-requires-clause-few c =
    let is : c.deref.result.now ≡ starts_of c.args.number = c.deref.ensures.value ∙ starts c in
    let many = (starts-small c.args.number).0 in
    let few = count-few c.args.number in
    omega (arith, ap length is, many, few)

pub images-requires-clause-small : goal.images-requires-clause-small
images-requires-clause-small c =
    ap (list_all (are_below 32768)) (c.deref.ensures.value ∙ starts c) ∙ (starts-small c.args.number).1

order : (c : goal.After-deref-2) → c.in_ok-order.order.items ≡ order_of c.args.number
order c =
    order-known c.args.number c.count_of-count.result c.next-state.result c.drawn.new.state c.in_ok-order.order.items c.count_of-count.ensures c.next-state.ensures
    c.in_ok-starts.ensures.state c.in_ok-order.ensures.list

pub script-requires : goal.script-requires
script-requires c = ap (list_all (are_below 10)) (c.deref-2.ensures.value ∙ order c) ∙ order-below c.args.number 10 (omega arith)

pub returns : goal.returns
returns c =
    bundle_is c.args.number c.count_of-count.result (record { config = c.in_ok-config.field-0; hardware = c.in_ok-hardware.field-0; images = c.in_ok-images.field-0; script = c.in_ok-script.field-0 }) c.deref.result.now c.deref-2.result.now c.count_of-count.ensures c.in_ok-config.ensures c.in_ok-hardware.ensures
    c.in_ok-images.ensures (c.deref.ensures.value ∙ starts-known c.args.number c.count_of-count.result c.next-state.result c.in_ok-starts.starts.items c.count_of-count.ensures c.next-state.ensures c.in_ok-starts.ensures.list)
    c.in_ok-script.ensures
    (c.deref-2.ensures.value ∙ order-known c.args.number c.count_of-count.result c.next-state.result c.drawn.new.state c.in_ok-order.order.items c.count_of-count.ensures c.next-state.ensures
    c.in_ok-starts.ensures.state c.in_ok-order.ensures.list)
