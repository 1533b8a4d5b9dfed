use Rattle.std.proofs.Common.{◌≡◌, ◌-◌, ◌^◌, min, take, sum_by, count_by}
use Rattle.machine_desc.specs.declared.wiring.Bell.{Bell}
use Rattle.machine_desc.specs.Joined.{same_ref}
use Rattle.machine_desc.proofs.bells.receivers_at.Given as goal

abbrev pub invariant-loop-bell : goal.invariant-loop-bell
invariant-loop-bell l =
    l.count ≡ min (sum_by (λ (bell : Bell). count_by (same_ref (record { part = l.part; handle = l.handle })) bell.receivers) (take l.bell-index l.bells)) (2 ^ 64 - 1)
