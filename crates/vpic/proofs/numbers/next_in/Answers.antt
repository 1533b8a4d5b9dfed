use Rattle.std.proofs.Common.{◌≡◌, ◌+◌, ◌/◌, ◌^◌, ap, ◌∙◌, arith}
use Rattle.std.specs.Int.{w128, trailing_zeros}
use Rattle.vpic.specs.Numbers.{has}
use Rattle.vpic.proofs.Bits.{none_before, found_first}
use Rattle.vpic.proofs.numbers.next_in.Goals as goal

pub returns-clause-none : goal.returns-clause-none
returns-clause-none c = λ m low high. none_before c.args.set c.args.from m c.ranges.set.fits low (omega (arith, high, c.min.ensures))

pub returns-clause-found : goal.returns-clause-found
returns-clause-found c = λ below.
    let here : c.min.result ≡ c.args.from + trailing_zeros w128 (c.args.set / 2 ^ c.args.from) = omega (arith, below, c.min.ensures) in
    ap (has c.args.set) here ∙ found_first c.args.set c.args.from c.ranges.set.fits (omega (arith, below, here, c.requires.limit))
