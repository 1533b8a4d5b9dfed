-- How many bytes an access has.
use Rattle.std.proofs.Common.{◌≡◌, ℕ, ◌+◌, ◌-◌, ◌*◌, ◌≤◌, Bool, true, false, List, [], ◌∷◌, length, drop, Option, Some, None, refl, sym, ap, subst, ◌∙◌, arith, length-append}
use Rattle.std.specs.Bool.{MatchBool}
use Rattle.std.specs.Prelude.{slice_index}
use Rattle.std.specs.List.{flat_map}
use Rattle.std.specs.Int.{w32, to_be_bytes}
use Rattle.std.proofs.lemmas.List.{length-drop}
use Rattle.insn.specs.Fields.{rt_field}
use Rattle.insn.specs.declared.instruction.Op.{Op}
use Rattle.insn_alu.specs.declared.effect.Form.TheVariants as form
use Rattle.insn_alu.specs.declared.effect.Effect.{Effect}
use Rattle.insn_alu.specs.declared.effect.Effect.TheVariants.{Memory}
use Rattle.insn_alu.specs.declared.effect.Access.{Access}
use Rattle.insn_alu.specs.declared.transfer.Transfer.{Transfer}
use Rattle.insn_alu.specs.declared.transfer.Kind.{Kind}
use Rattle.insn_alu.specs.declared.transfer.Kind.TheVariants.{Byte, Half, SignedHalf, Word, ReversedHalf, ReversedWord, Words, Exclusive, Block}
use Rattle.insn_alu.specs.Transfers.{transfer_of, transfer_effect, accessed, size_of, stored_by, stored_bytes, IsFinishedBy, IsStore}
use Rattle.guest_regs.specs.Registers.{Registers}

size_small : (kind : Kind) (word : ℕ) → size_of kind word ≤ 128
size_small Byte word = omega arith
size_small Half word = omega arith
size_small SignedHalf word = omega arith
size_small Word word = omega arith
size_small ReversedHalf word = omega arith
size_small ReversedWord word = omega arith
size_small Words word = omega arith
size_small Exclusive word = omega arith
size_small Block word = omega arith

same_access : (a b : Access) → Memory a ≡ Memory b → a ≡ b
same_access a b e = cc

short : (t : Option Transfer) (word : ℕ) (registers : Registers) (access : Access) → transfer_effect t word registers ≡ Memory access → access.len ≤ 128
unfolding accessed
short None word registers access e = absurd cc
short (Some t) word registers access e = subst (λ (a : Access). a.len ≤ 128) (same_access _ _ e) (size_small t.kind word)

pub short_access : (operation : Op) (word : ℕ) (registers : Registers) (access : Access) → transfer_effect (transfer_of operation) word registers ≡ Memory access → access.len ≤ 128
short_access operation word registers access e = short (transfer_of operation) word registers access e

at_false : (b : Bool) (P Q : Type 0) → b ≡ false → Q → MatchBool b P Q
at_false true P Q e q = absurd cc
at_false false P Q e q = q

at_true : (b : Bool) (P Q : Type 0) → b ≡ true → P → MatchBool b P Q
at_true true P Q e p = p
at_true false P Q e p = absurd cc

finished : (effect : Effect) (access : Access) (bytes : List ℕ) → effect ≡ Memory access
    → MatchBool access.store (access.form ≡ form.Conditional → (length bytes ≡ 1) × (slice_index bytes 0 ≤ 1)) (length bytes ≡ access.len) → IsFinishedBy effect bytes
finished effect access bytes e m = subst (λ (f : Effect). IsFinishedBy f bytes) (sym e) m

pub load_finished : (effect : Effect) (access : Access) (bytes : List ℕ) → effect ≡ Memory access → access.store ≡ false → length bytes ≡ access.len → IsFinishedBy effect bytes
load_finished effect access bytes e is_load whole = finished effect access bytes e (at_false access.store _ _ is_load whole)

pub store_finished : (effect : Effect) (access : Access) (bytes : List ℕ) → effect ≡ Memory access → access.store ≡ true → (access.form ≡ form.Conditional → ⊥) → IsFinishedBy effect bytes
store_finished effect access bytes e is_store plain = finished effect access bytes e (at_true access.store _ _ is_store (λ c. absurd (plain c)))

pub told_finished : (effect : Effect) (access : Access) (bytes : List ℕ) → effect ≡ Memory access → access.store ≡ true → length bytes ≡ 1 → slice_index bytes 0 ≤ 1 → IsFinishedBy effect bytes
told_finished effect access bytes e is_store one told = finished effect access bytes e (at_true access.store _ _ is_store (λ c. (one, told)))

pub is_store : (effect : Effect) (access : Access) → effect ≡ Memory access → access.store ≡ true → IsStore effect
is_store effect access e store = subst IsStore (sym e) store

-- ---- a store stores as many bytes as it accesses

words_size : (xs : List ℕ) → length (flat_map (to_be_bytes w32) xs) ≡ 4 * length xs
words_size [] = refl
words_size (x ∷ xs) = length-append (to_be_bytes w32 x) (flat_map (to_be_bytes w32) xs) ∙ ap (λ n. 4 + n) (words_size xs) ∙ omega arith

stored_size : (kind : Kind) (word : ℕ) (registers : Registers) → length registers.gpr ≡ 32 → length (stored_bytes kind word registers) ≡ size_of kind word
unfolding stored_bytes
stored_size Byte word registers all = refl
stored_size Half word registers all = refl
stored_size SignedHalf word registers all = refl
stored_size Word word registers all = refl
stored_size ReversedHalf word registers all = refl
stored_size ReversedWord word registers all = refl
stored_size Words word registers all = words_size (drop (rt_field word) registers.gpr) ∙ ap (λ n. 4 * n) (length-drop (rt_field word) registers.gpr ∙ ap (λ n. n - rt_field word) all)
stored_size Exclusive word registers all = refl
stored_size Block word registers all = refl

whole : (t : Option Transfer) (word : ℕ) (registers : Registers) (access : Access) → transfer_effect t word registers ≡ Memory access → length registers.gpr ≡ 32 → length (stored_by t word registers) ≡ access.len
unfolding accessed
whole None word registers access e all = absurd cc
whole (Some t) word registers access e all = subst (λ (a : Access). length (stored_bytes t.kind word registers) ≡ a.len) (same_access _ _ e) (stored_size t.kind word registers all)

pub stored_whole : (operation : Op) (word : ℕ) (registers : Registers) (access : Access) → transfer_effect (transfer_of operation) word registers ≡ Memory access → length registers.gpr ≡ 32
    → length (stored_by (transfer_of operation) word registers) ≡ access.len
stored_whole operation word registers access e all = whole (transfer_of operation) word registers access e all
