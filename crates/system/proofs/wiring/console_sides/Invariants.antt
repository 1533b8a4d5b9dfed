use Rattle.std.proofs.Common.{◌≡◌, map}
use Rattle.std.specs.List.{range_with_len}
use Rattle.system.specs.Wired.{console_side}
use Rattle.system.proofs.wiring.console_sides.Given as goal

abbrev pub invariant-loop-console : goal.invariant-loop-console
invariant-loop-console l = l.consoles.items ≡ map (console_side l.links) (range_with_len 0 l.console)
