use Rattle.std.proofs.Common.{◌≡◌, map}
use Rattle.system.specs.System.{fresh_part}
use Rattle.system.proofs.beginning.fresh_parts.Given as goal

abbrev pub invariant-loop-desc : goal.invariant-loop-desc
invariant-loop-desc l = l.parts.items ≡ map fresh_part l.yielded
