-- Numbers that count up, piece after piece.
use Rattle.std.proofs.Common.{◌≡◌, ℕ, ◌+◌, ◌&&◌, List, [], ◌∷◌, ◌++◌, length, arith}
use Rattle.machine_desc.specs.Sound.{counts_up}

pub counts_up_along : (next : ℕ) (front rest : List ℕ) → counts_up next (front ++ rest) ≡ (counts_up next front && counts_up (next + length front) rest)
counts_up_along next [] rest = grind arith
counts_up_along next (number ∷ front) rest = let h = counts_up_along (next + 1) front rest in grind (arith, h)
