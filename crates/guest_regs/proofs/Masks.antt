-- Values under masks.
use Rattle.std.proofs.Common.{◌≡◌, ℕ, ◌≤◌, List, slice_index, slice_set, bit_and, bit_or, refl, ap, subst, ◌∙◌}
use Rattle.std.specs.Int.Bits.{and_self}
use Rattle.std.proofs.lemmas.Nat.{and_assoc, and_le_r, and_or_apart}
use Rattle.guest_regs.specs.Registers.{machine_state, ivor_bits}
use Rattle.guest_regs.proofs.Lists.{each_set}

-- a value under a mask stays as it is under it
pub mask_twice : (value bits : ℕ) → bit_and (bit_and value bits) bits ≡ bit_and value bits
mask_twice value bits = and_assoc bits value bits ∙ ap (bit_and value) (and_self bits)

pub masked_bound : (bits value : ℕ) → bit_and value bits ≡ value → value ≤ bits
masked_bound bits value h =
    let P : ℕ → Type 0 = λ v. v ≤ bits in
    subst P h (and_le_r value bits)

pub state_twice : (value : ℕ) → machine_state (machine_state value) ≡ machine_state value
state_twice value =
    ap (λ v. bit_or v 0x10000000) (and_or_apart 0x0002D030 (bit_and value 0x0002D030) 0x10000000 refl ∙ mask_twice value 0x0002D030)

pub offset_set : (offsets : List ℕ) (n value k : ℕ) → ((j : ℕ) → bit_and (slice_index offsets j) ivor_bits ≡ slice_index offsets j) → bit_and (slice_index (slice_set offsets n (bit_and value ivor_bits)) k) ivor_bits ≡ slice_index (slice_set offsets n (bit_and value ivor_bits)) k
offset_set offsets n value k each = each_set (λ v. bit_and v ivor_bits ≡ v) (bit_and value ivor_bits) offsets n (mask_twice value ivor_bits) each k
