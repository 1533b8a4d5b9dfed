use Rattle.std.proofs.Common.{◌≡◌, drop}
use Rattle.std.specs.List.{list_any}
use Rattle.machine_desc.specs.Joined.{spans_meet, extent_spans}
use Rattle.machine_desc.proofs.extents.meets_any.Given as goal

abbrev pub invariant-loop-i : goal.invariant-loop-i
invariant-loop-i l =
    list_any (spans_meet (record { at = l.real; size = l.size })) (extent_spans (drop l.i l.reals) (drop l.i l.sizes))
    ≡ list_any (spans_meet (record { at = l.real; size = l.size })) (extent_spans l.reals l.sizes)
