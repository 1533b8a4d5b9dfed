-- Small facts of numbers and truth values.
use Rattle.std.proofs.Common.{◌≡◌, ℕ, ◌+◌, ◌≤◌, Bool, true, false, ◌||◌, not, refl, arith}
use Rattle.std.specs.Prelude.{nat_le}
use Rattle.machine_desc.specs.Joined.{same_bool}

pub none-and : (n : ℕ) → 0 + n ≡ n
none-and n = omega arith

pub le-true : (n m : ℕ) → n ≤ m → nat_le n m ≡ true
le-true n m h = grind arith

pub or-none : (b : Bool) → (b || false) ≡ b
or-none true = refl
or-none false = refl

pub not_false : (b : Bool) → not b ≡ true → b ≡ false
not_false true e = absurd cc
not_false false e = refl

pub same-bool : (b : Bool) → same_bool b b ≡ true
same-bool true = refl
same-bool false = refl
