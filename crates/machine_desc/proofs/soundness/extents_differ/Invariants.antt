use Rattle.std.proofs.Common.{◌≡◌, [], take, drop}
use Rattle.machine_desc.specs.Ranges.{none_meets}
use Rattle.machine_desc.specs.Sound.{have_extent}
use Rattle.machine_desc.proofs.soundness.extents_differ.Given as goal

abbrev pub invariant-loop-i : goal.invariant-loop-i
invariant-loop-i l = none_meets have_extent (take l.i l.regions) (drop l.i l.regions) ≡ none_meets have_extent [] l.regions
