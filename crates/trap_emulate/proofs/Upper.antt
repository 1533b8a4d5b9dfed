-- MAS7 keeps the upper four bits of a logical address.
use Rattle.mas.specs.declared.registers.Mas.{Mas}
use Rattle.mas.specs.declared.entry.Entry.{Entry}
use Rattle.mas.specs.Translation.{Fits, reporting}
use Rattle.std.proofs.Common.{◌≡◌, ℕ, ◌<◌, ◌^◌, ◌%◌, ◌/◌, bit_and, arith}
use Rattle.std.proofs.lemmas.Nat.{and_mask}

pub upper_bits : (v : ℕ) → v < 16 → bit_and v 0xF ≡ v
upper_bits v h = let e : bit_and v 0xF ≡ v % 2 ^ 4 = and_mask v 4 in omega (arith, e, h)

upper_small : (a : ℕ) → a < 2 ^ 36 → a / 2 ^ 32 < 16
upper_small a h = omega (arith, h)

pub reported_upper : (entry : Entry) (mas : Mas) → Fits entry → (reporting entry mas).m7 < 16
unfolding reporting
reported_upper entry mas fits = upper_small entry.rpn fits.rpn_small
