-- What two partitions know of one another: the two ends of a channel, and a manager of the partition that it manages.
use Rattle.std.specs.Prelude.{◌≡◌, ℕ, ◌≤◌, List, length, Some}
use Rattle.machine_desc.specs.declared.wiring.PortRef.{PortRef}
use Rattle.machine_desc.specs.declared.wiring.End.{End}
use Rattle.machine_desc.specs.declared.wiring.End.TheVariants.{Part, Console}
use Rattle.machine_desc.specs.Joined.{AreJoined}
use Rattle.partition.specs.Port.{End as OwnEnd, end_at, channel_size}
use Rattle.partition.specs.Machine.{Machine}
use Rattle.network.specs.Network.{Network, far_of, managed_by}
use Rattle.network.specs.World.{machine_at}
use Rattle.network.specs.Turn.{Script, is_running, run}

-- the partition's own end at a handle
abbrev pub own_end : List Machine → PortRef → OwnEnd
own_end machines ref = end_at (machine_at machines ref.part).ports ref.handle

pub record DoAgree (network : Network) (machines : List Machine) : Type 0 where
  -- what is outstanding at one end is what waits at the other
  pub channel : (one other : PortRef) → far_of network one.part one.handle ≡ Some (Part other) → (own_end machines one).outstanding ≡ length (own_end machines other).received
  -- to a console nothing is outstanding
  pub console : (one : PortRef) (console : ℕ) → far_of network one.part one.handle ≡ Some (Console console) → (own_end machines one).outstanding ≡ 0
  -- no more waits than a channel takes
  pub bounded : (one : PortRef) (other : End) → far_of network one.part one.handle ≡ Some other → length (own_end machines one).received ≤ channel_size
  -- a manager knows whether its partition runs
  pub manager : (one : PortRef) (part : ℕ) → managed_by network one.part one.handle ≡ Some part → (own_end machines one).runs ≡ is_running (machine_at machines part).inner.state

-- After each turn they agree, where the descriptions are joined.
abbrev pub PartitionsAgree : Type 0
PartitionsAgree = (network : Network) (script : Script) (turns : ℕ) → AreJoined network.descs network.wiring → DoAgree network (run network script turns).after.machines
