use Rattle.std.proofs.Common.{◌≡◌, [], map}
use Rattle.std.specs.List.{range_with_len}
use Rattle.script.specs.Course.{given_to}
use Rattle.script.proofs.reading.no_inputs.Given as goal

abbrev pub invariant-loop-console : goal.invariant-loop-console
invariant-loop-console l = l.inputs.items ≡ map (given_to []) (range_with_len 0 l._console)
