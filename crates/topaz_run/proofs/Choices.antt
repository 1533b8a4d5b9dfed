-- Choices by a test.
use Rattle.std.proofs.Common.{◌≡◌, ℕ, ◌<◌, ◌≤◌, Bool, true, false, nat_lt, cond, ap, arith}
use Rattle.std.proofs.lemmas.Bool.Decides.{nat_tests}

pub choose : {X : Type 0} (b : Bool) (x y : X) → b ≡ true → cond b x y ≡ x
choose b x y h = ap (λ c. cond c x y) h

pub pass : {X : Type 0} (b : Bool) (x y : X) → b ≡ false → cond b x y ≡ y
pass b x y h = ap (λ c. cond c x y) h

pub below : (a b : ℕ) → a < b → nat_lt a b ≡ true
below a b h = grind (arith, nat_tests)

pub not_below : (a b : ℕ) → b ≤ a → nat_lt a b ≡ false
not_below a b h = grind (arith, nat_tests)
