-- What completes an access, by what the instruction moves.
use Rattle.std.specs.Prelude.{◌≡◌, ⊤, ℕ, ◌≤◌, Bool, List, length, slice_index}
use Rattle.std.specs.Bool.{MatchBool}
use Rattle.insn_alu.specs.declared.transfer.Kind.{Kind}
use Rattle.insn_alu.specs.declared.transfer.Kind.TheVariants.{Exclusive}
use Rattle.insn_alu.specs.Transfers.{size_of}

-- one byte, 0 or 1, for the store under a reservation
abbrev pub SaysWhether : Kind → List ℕ → Type 0
SaysWhether Exclusive bytes = (length bytes ≡ 1) × (slice_index bytes 0 ≤ 1)
SaysWhether _ bytes = ⊤

abbrev pub Finishes : Kind → Bool → ℕ → List ℕ → Type 0
Finishes kind store word bytes = MatchBool store (SaysWhether kind bytes) (length bytes ≡ size_of kind word)
