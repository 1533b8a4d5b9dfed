use Rattle.std.proofs.lemmas.Result.{on_ok_weaker}
use Rattle.guest_tree.proofs.Made.{pushed-twice}
use Rattle.guest_tree.proofs.handles.push_interrupts.Goals as goal

pub returns : goal.returns
returns c = on_ok_weaker c.push_number.result (λ is. pushed-twice c.args.properties.now.items c.push.new.properties.items c.push_number.new.properties.items _ _ c.in_ok-push.ensures is) c.push_number.ensures
