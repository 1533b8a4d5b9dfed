use Rattle.std.proofs.Common.{◌≡◌, take}
use Rattle.dt_make.specs.Values.{cells}
use Rattle.dt_make.proofs.values.push_numbers.Given as goal

abbrev pub invariant-loop-number : goal.invariant-loop-number
invariant-loop-number l = l.value.items ≡ cells (take l.number-index l.numbers)
