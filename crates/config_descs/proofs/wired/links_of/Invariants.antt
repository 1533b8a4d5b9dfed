use Rattle.std.proofs.Common.{◌≡◌, ◌≤◌, ◌++◌, drop}
use Rattle.config_descs.specs.Wired.{links_from}
use Rattle.config_descs.proofs.wired.links_of.Given as goal

abbrev pub invariant-loop-channel : goal.invariant-loop-channel
invariant-loop-channel l = (l.links ++ links_from l.parts l.number (drop l.channel-index l.channels) ≡ links_from l.parts 0 l.channels) × (l.number ≤ l.channel-index)
