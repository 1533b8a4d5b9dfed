-- An access says what completes it.
use Rattle.std.proofs.Common.{◌≡◌, ℕ, ◌≤◌, Bool, true, false, List, length, slice_index, refl}
use Rattle.guest_regs.specs.Registers.{Registers}
use Rattle.insn_alu.specs.declared.effect.Effect.TheVariants.{Memory}
use Rattle.insn_alu.specs.declared.effect.Form.TheVariants as form
use Rattle.insn_alu.specs.declared.transfer.Transfer.{Transfer}
use Rattle.insn_alu.specs.declared.transfer.Kind.{Kind}
use Rattle.insn_alu.specs.declared.transfer.Kind.TheVariants.{Byte, Half, SignedHalf, Word, ReversedHalf, ReversedWord, Words, Exclusive, Block}
use Rattle.insn_alu.specs.Transfers.{form_of, IsFinishedBy, accessed}
use Rattle.insn_alu.specs.Completion.{SaysWhether, Finishes}

says_whether : (kind : Kind) (bytes : List ℕ) → (form_of kind true ≡ form.Conditional → (length bytes ≡ 1) × (slice_index bytes 0 ≤ 1)) → SaysWhether kind bytes
says_whether Byte bytes h = tt
says_whether Half bytes h = tt
says_whether SignedHalf bytes h = tt
says_whether Word bytes h = tt
says_whether ReversedHalf bytes h = tt
says_whether ReversedWord bytes h = tt
says_whether Words bytes h = tt
says_whether Exclusive bytes h = h refl
says_whether Block bytes h = tt

finishes_by : (transfer : Transfer) (store : Bool) (word : ℕ) (bytes : List ℕ) (registers : Registers) → transfer.store ≡ store → IsFinishedBy (Memory (accessed transfer word registers)) bytes → Finishes transfer.kind store word bytes
unfolding accessed
finishes_by transfer true word bytes registers is h = says_whether transfer.kind bytes (rw is at h)
finishes_by transfer false word bytes registers is h = rw is at h

pub finishes : (transfer : Transfer) (word : ℕ) (bytes : List ℕ) (registers : Registers) → IsFinishedBy (Memory (accessed transfer word registers)) bytes → Finishes transfer.kind transfer.store word bytes
finishes transfer word bytes registers h = finishes_by transfer transfer.store word bytes registers refl h
