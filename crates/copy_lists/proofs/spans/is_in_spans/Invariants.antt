use Rattle.std.proofs.Common.{◌≡◌, ◌-◌}
use Rattle.copy_lists.specs.Spans.{is_in_spans}
use Rattle.copy_lists.proofs.spans.is_in_spans.Given as goal

abbrev pub invariant-loop-next : goal.invariant-loop-next
invariant-loop-next l = is_in_spans l.spans l.next (l.end - l.next) ≡ is_in_spans l.spans l.at l.size

abbrev pub decreases-loop-next : goal.decreases-loop-next
decreases-loop-next l = l.end - l.next
