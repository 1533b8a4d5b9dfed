use Rattle.std.proofs.Common.{◌≡◌, [], take, drop}
use Rattle.config_checks.specs.First.{first_from}
use Rattle.config_checks.specs.Channels.{misprinting_at}
use Rattle.config_checks.proofs.channels.misprinting_channel.Given as goal

abbrev pub invariant-loop-i : goal.invariant-loop-i
invariant-loop-i l =
    first_from misprinting_at (take l.i l.channels) (drop l.i l.channels) ≡ first_from misprinting_at [] l.channels
