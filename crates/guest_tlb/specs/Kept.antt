-- What the slots keep at all times.
use Rattle.std.specs.Prelude.{◌≡◌, ◌≢◌, ℕ, ◌/◌, ◌%◌, ◌^◌, ◌<◌, ◌⊎◌, false, List, length, IsTrue}
use Rattle.mas.specs.declared.entry.Entry.{Entry}
use Rattle.mas.specs.Translation.{Fits}
use Rattle.guest_tlb.specs.Translation.{meets, IsSound}
use Rattle.guest_tlb.specs.Slots.{tlb0_blank, entry_at}

-- No two different live translations meet, so that at most one translates an access.
pub record AreApart (slots : List Entry) : Type 0 where
  pub none_meet : (i j : ℕ) → i ≢ j → IsTrue (entry_at slots i).valid → IsTrue (entry_at slots j).valid → meets (entry_at slots i) (entry_at slots j) ≡ false

-- what each slot keeps, live or dead: its fields fit, a live one is sound, and one of TLB0 is of 4 KiB, unprotected, and in the
-- set of its page, unless it was never written
pub record IsKept (slot : ℕ) (entry : Entry) : Type 0 where
  pub fits : Fits entry
  pub sound : IsTrue entry.valid → IsSound entry
  pub tlb0_size : slot < 512 → entry.tsize ≡ 1
  pub tlb0_open : slot < 512 → entry.iprot ≡ false
  pub tlb0_set : slot < 512 → (entry ≡ tlb0_blank) ⊎ (entry.epn / 2 ^ 12 % 128 ≡ slot / 4)

-- so many slots, each of which keeps that, and no two of which meet
pub record AreKept (slots : List Entry) : Type 0 where
  pub count : length slots ≡ 576
  pub each : (slot : ℕ) → IsKept slot (entry_at slots slot)
  pub apart : AreApart slots
