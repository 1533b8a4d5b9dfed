-- What a partition's machine has of its handles before the first turn.
use Rattle.std.specs.Prelude.{◌≡◌, ℕ, ◌<◌, length, map}
use Rattle.machine_desc.specs.Joined.{AreJoined}
use Rattle.partition.specs.Port as port
use Rattle.network.specs.Network.{Network, desc_at}
use Rattle.system.specs.Board.{Lines, kinds_of, ends_of, wires_at}
use Rattle.system.specs.Wired.{opening_lines}

-- It is what it has as a machine by itself.
pub record OpensFresh (network : Network) (lines : Lines) (part : ℕ) : Type 0 where
  pub kinds : kinds_of (wires_at lines.wires part) ≡ port.kinds_of (desc_at network part).ports
  pub ends : ends_of lines.channels lines.running (wires_at lines.wires part) ≡ map port.fresh_end (desc_at network part).ports

abbrev pub PartitionsOpenFresh : Type 0
PartitionsOpenFresh =
    (network : Network) (part : ℕ) → AreJoined network.descs network.wiring → part < length network.descs → OpensFresh network (opening_lines network.descs network.wiring) part
