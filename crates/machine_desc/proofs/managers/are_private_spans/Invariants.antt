use Rattle.std.proofs.Common.{◌≡◌, ◌≤◌, drop, length}
use Rattle.machine_desc.specs.Joined.{are_private_spans}
use Rattle.machine_desc.proofs.managers.are_private_spans.Given as goal

abbrev pub invariant-loop-region : goal.invariant-loop-region
invariant-loop-region l =
    (are_private_spans (drop l.next l.spans) (drop l.region-index l.regions) ≡ are_private_spans l.spans l.regions) × (l.next ≤ length l.spans)
