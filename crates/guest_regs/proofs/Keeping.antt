-- Writes keep what the registers keep.
use Rattle.std.proofs.Common.{rules, ◌≡◌, ℕ, ◌%◌, bit_and, List, slice_index, slice_set, length-set, replicate, Bool, true, false, ◌&&◌, ◌||◌, zero, suc, if◌then◌else◌, refl, ◌∙◌, arith}
use Rattle.std.specs.Int.{w32, bit_not}
use Rattle.std.proofs.lemmas.Nat.{and_le_l}
use Rattle.std.proofs.lemmas.List.{length-replicate}
use Rattle.guest_regs.specs.declared.special.Special.{Special}
use Rattle.guest_regs.specs.declared.special.Special.TheVariants.{Xer, Lr, Ctr, Dec, Decar, Srr0, Srr1, Dear, Esr, Pid, Csrr0, Csrr1, Mcsrr0, Mcsrr1, Ivpr, Ivor, Sprg, Tsr, Tcr, Mas0, Mas1, Mas2, Mas3, Mas4, Mas6, Mas7, Hid0, L1csr0, L1csr1, Bucsr}
use Rattle.guest_regs.specs.Registers.{Registers, ivor_bits, in_problem_state, boot_registers}
use Rattle.guest_regs.specs.Special.{special_of, special_written, other_written, spr_write, Written, is_privileged, is_user_writable}
use Rattle.guest_regs.specs.declared.answer.WriteAnswer.TheVariants as write
use Rattle.guest_regs.specs.Kept.{IsWord, AreKept, AreWords}
use Rattle.guest_regs.proofs.Lists.{each_set}
use Rattle.guest_regs.proofs.Masks.{mask_twice, offset_set}

pub words_set : (count n value : ℕ) (values : List ℕ) → IsWord value → AreWords count values → AreWords count (slice_set values n value)
words_set count n value values small words = record {
  number = length-set values n value ∙ words.number;
  each = each_set IsWord value values n small words.each;
}

under_word : (value other : ℕ) → IsWord value → IsWord (bit_and value other)
under_word value other small = omega (arith, and_le_l value other)

zero_at : (count n : ℕ) → slice_index (replicate count 0) n ≡ 0
zero_at zero n = refl
zero_at (suc count) zero = refl
zero_at (suc count) (suc n) = zero_at count n

zero_word : (count n : ℕ) → IsWord (slice_index (replicate count 0) n)
zero_word count n = omega (arith, zero_at count n)

-- what a write leaves, by its two tests
abbrev the_written : Bool → Bool → Registers → Registers → Written
the_written refused done old new =
    if refused then record { answer = write.Privileged; after = old }
    else if done then record { answer = write.Done; after = new }
    else record { answer = write.Illegal; after = old }

other_keeps : (special : Special) (value : ℕ) (registers : Registers) → IsWord value → AreKept registers → AreKept (other_written special value registers)
unfolding other_written
other_keeps (Sprg n) value registers small kept = let words = words_set 8 n value registers.sprg small kept.sprg in search (rules, kept, words)
other_keeps Tsr value registers small kept = let word = under_word registers.tsr (bit_not w32 value) kept.tsr in search (rules, kept, word)
other_keeps Tcr value registers small kept = search (rules, small, kept)
other_keeps Mas0 value registers small kept = search (rules, small, kept)
other_keeps Mas1 value registers small kept = search (rules, small, kept)
other_keeps Mas2 value registers small kept = search (rules, small, kept)
other_keeps Mas3 value registers small kept = search (rules, small, kept)
other_keeps Mas4 value registers small kept = search (rules, small, kept)
other_keeps Mas6 value registers small kept = search (rules, small, kept)
other_keeps Mas7 value registers small kept = search (rules, kept, mask_twice)
other_keeps Hid0 value registers small kept = search (rules, small, kept)
other_keeps L1csr0 value registers small kept = search (rules, kept, mask_twice)
other_keeps L1csr1 value registers small kept = search (rules, kept, mask_twice)
other_keeps Bucsr value registers small kept = search (rules, kept, mask_twice)
other_keeps _ value registers small kept = kept

pub special_keeps : (special : Special) (value : ℕ) (registers : Registers) → IsWord value → AreKept registers → AreKept (special_written special value registers)
unfolding special_written
special_keeps Xer value registers small kept = search (rules, kept, mask_twice)
special_keeps Lr value registers small kept = search (rules, small, kept)
special_keeps Ctr value registers small kept = search (rules, small, kept)
special_keeps Dec value registers small kept = search (rules, small, kept)
special_keeps Decar value registers small kept = search (rules, small, kept)
special_keeps Srr0 value registers small kept = search (rules, small, kept)
special_keeps Srr1 value registers small kept = search (rules, small, kept)
special_keeps Dear value registers small kept = search (rules, small, kept)
special_keeps Esr value registers small kept = search (rules, small, kept)
special_keeps Pid value registers small kept = search (rules, kept, mask_twice)
special_keeps Csrr0 value registers small kept = search (rules, small, kept)
special_keeps Csrr1 value registers small kept = search (rules, small, kept)
special_keeps Mcsrr0 value registers small kept = search (rules, small, kept)
special_keeps Mcsrr1 value registers small kept = search (rules, small, kept)
special_keeps Ivpr value registers small kept = search (rules, kept, mask_twice)
special_keeps (Ivor n) value registers small kept =
    let words = words_set 16 n (bit_and value ivor_bits) registers.ivor (under_word value ivor_bits small) kept.ivor in
    let offsets : (k : ℕ) → bit_and (slice_index (slice_set registers.ivor n (bit_and value ivor_bits)) k) ivor_bits ≡ slice_index (slice_set registers.ivor n (bit_and value ivor_bits)) k = λ k. offset_set registers.ivor n value k kept.bits.ivor in
    search (rules, kept, words, offsets)
special_keeps other value registers small kept = other_keeps other value registers small kept

chosen_keeps : (refused done : Bool) (old new : Registers) → AreKept old → AreKept new → AreKept (the_written refused done old new).after
chosen_keeps true done old new h k = h
chosen_keeps false true old new h k = k
chosen_keeps false false old new h k = h

pub numbered_keeps : (number value : ℕ) (registers : Registers) → IsWord value → AreKept registers → AreKept (spr_write number value registers).after
unfolding spr_write
numbered_keeps number value registers small kept =
    chosen_keeps (is_privileged number && in_problem_state registers) (is_privileged number || is_user_writable (special_of number)) registers (special_written (special_of number) value registers) kept (special_keeps (special_of number) value registers small kept)

zeros_words : (count : ℕ) → AreWords count (replicate count 0)
zeros_words count = record { number = length-replicate count 0; each = λ n. zero_word count n }

pub start_keeps : (entry tree core : ℕ) → entry % 4 ≡ 0 → IsWord entry → IsWord tree → IsWord core → AreKept (boot_registers entry tree core)
unfolding boot_registers
start_keeps entry tree core aligned entry_fits tree_fits core_fits =
    let general : AreWords 32 (slice_set (slice_set (slice_set (replicate 32 0) 3 tree) 6 0x45504150) 7 0x04000000) =
    words_set 32 7 0x04000000 _ (omega arith) (words_set 32 6 0x45504150 _ (omega arith) (words_set 32 3 tree _ tree_fits (zeros_words 32)))
    in
    let offsets = zeros_words 16 in
    let software = zeros_words 8 in
    let none : (k : ℕ) → bit_and (slice_index (replicate 16 0) k) ivor_bits ≡ slice_index (replicate 16 0) k = λ k. rw (zero_at 16 k) refl in
    search (rules, aligned, entry_fits, tree_fits, core_fits, general, offsets, software, none)
