use Rattle.guest_tree.proofs.Guests.{children-are}
use Rattle.guest_tree.proofs.tree.children.Goals as goal

pub returns : goal.returns
returns c =
    let config = c.args.config.now in
    rw (c.in_ok-push-5.ensures.items, c.in_ok-push-4.ensures.items, c.in_ok-push-3.ensures.items, c.in_ok-push-2.ensures.items, c.in_ok-push.ensures.items, c.new-nodes.ensures.items)
    (children-are config c.args.part.now c.in_ok-cpus.field-0 c.in_ok-memory.field-0 c.in_ok-pic.field-0 c.in_ok-hypervisor.field-0 c.in_ok-chosen.field-0
    (c.in_ok-cpus.ensures config) c.in_ok-memory.ensures c.in_ok-pic.ensures c.in_ok-hypervisor.ensures c.in_ok-chosen.ensures)
