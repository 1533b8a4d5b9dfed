-- Values written to one general register after the other.
use Rattle.std.proofs.Common.{◌≡◌, ℕ, zero, suc, ◌+◌, ◌<◌, ◌≤◌, List, [], ◌∷◌, length, slice_index, length-set, refl, ap, ◌∙◌, arith}
use Rattle.std.proofs.lemmas.List.{get_or-set_same, get_or-set_other}
use Rattle.guest_regs.specs.Registers.{Registers, gpr_of, with_gpr}
use Rattle.hcall_abi.specs.Reply.{with_gprs}

-- those below the first are as before
pub below : (n k : ℕ) (values : List ℕ) (registers : Registers) → k < n → gpr_of (with_gprs n values registers) k ≡ gpr_of registers k
below n k [] registers small = refl
below n k (value ∷ values) registers small =
    below (n + 1) k values (with_gpr registers n value) (omega (arith, small)) ∙ get_or-set_other registers.gpr n k value 0 (omega (arith, small))

-- those behind the last too
pub behind : (n k : ℕ) (values : List ℕ) (registers : Registers) → n + length values ≤ k → gpr_of (with_gprs n values registers) k ≡ gpr_of registers k
behind n k [] registers far = refl
behind n k (value ∷ values) registers far =
    behind (n + 1) k values (with_gpr registers n value) (omega (arith, far)) ∙ get_or-set_other registers.gpr n k value 0 (omega (arith, far))

-- the first value stands in register n, where there is one
pub first : (n value : ℕ) (values : List ℕ) (registers : Registers) → n < length registers.gpr → gpr_of (with_gprs n (value ∷ values) registers) n ≡ value
first n value values registers within =
    below (n + 1) n values (with_gpr registers n value) (omega arith) ∙ get_or-set_same registers.gpr n value 0 within

-- and each further one in its own
pub each : (n k : ℕ) (values : List ℕ) (registers : Registers) → n + length values ≤ length registers.gpr → k < length values → gpr_of (with_gprs n values registers) (n + k) ≡ slice_index values k
each n k [] registers within small = absurd (omega (arith, small))
each n zero (value ∷ values) registers within small =
    let here : n + 0 ≡ n = omega arith in
    ap (gpr_of (with_gprs n (value ∷ values) registers)) here ∙ first n value values registers (omega (arith, within))
each n (suc k) (value ∷ values) registers within small =
    let next : n + suc k ≡ n + 1 + k = omega arith in
    ap (gpr_of (with_gprs n (value ∷ values) registers)) next
    ∙ each (n + 1) k values (with_gpr registers n value) (omega (arith, within, length-set registers.gpr n value)) (omega (arith, small))

-- all else is as before
pub rest : (n : ℕ) (values : List ℕ) (registers : Registers) → record (with_gprs n values registers) { gpr = registers.gpr } ≡ registers
rest n [] registers = refl
rest n (value ∷ values) registers = ap (λ (r : Registers). record r { gpr = registers.gpr }) (rest (n + 1) values (with_gpr registers n value))
