use Rattle.std.proofs.Common.{◌≡◌, [], take, drop}
use Rattle.machine_desc.specs.Ranges.{none_meets}
use Rattle.machine_desc.specs.Joined.{spans_meet, extent_spans}
use Rattle.machine_desc.proofs.extents.are_apart.Given as goal

abbrev pub invariant-loop-i : goal.invariant-loop-i
invariant-loop-i l =
    none_meets spans_meet (extent_spans (take l.i l.reals) (take l.i l.sizes)) (extent_spans (drop l.i l.reals) (drop l.i l.sizes))
    ≡ none_meets spans_meet [] (extent_spans l.reals l.sizes)
