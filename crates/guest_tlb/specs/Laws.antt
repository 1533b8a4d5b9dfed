-- What the definitions mean over all changes.
use Rattle.std.specs.Prelude.{◌≡◌, ◌≢◌, ◌↔◌, ℕ, ◌/◌, ◌%◌, ◌^◌, ◌<◌, Bool, List, length, Option, IsTrue, IsFalse, Contains, MatchOption, None, Some}
use Rattle.std.specs.List.Sorted.{IsStrictlyIncreasing}
use Rattle.mas.specs.declared.registers.Mas.{Mas}
use Rattle.mas.specs.declared.entry.Entry.{Entry}
use Rattle.mas.specs.Translation.{reporting}
use Rattle.guest_tlb.specs.Translation.{matches, meets}
use Rattle.guest_tlb.specs.Slots.{entry_at, named_slot, naming, initial_slots, search_of, lookup_of}
use Rattle.guest_tlb.specs.Invalidation.{invalidated, ended_slots, ends_all, ends_pid, ends_address, after_write, ended_by_write}
use Rattle.guest_tlb.specs.Kept.{AreApart, AreKept}

-- Live translations that don't meet still don't after a write, and after an invalidation by any test; after a reset none meet.
abbrev pub WritesKeepApart : Type 0
WritesKeepApart = (mas : Mas) (slots : List Entry) → AreApart slots → AreApart (after_write mas slots)

abbrev pub InvalidationsKeepApart : Type 0
InvalidationsKeepApart = (ends : ℕ → Entry → Bool) (slots : List Entry) → AreApart slots → AreApart (invalidated ends slots)

abbrev pub ResetIsApart : Type 0
ResetIsApart = AreApart initial_slots

-- the same of all that slots keep
abbrev pub WritesKeepAll : Type 0
WritesKeepAll = (mas : Mas) (slots : List Entry) → AreKept slots → AreKept (after_write mas slots)

abbrev pub InvalidationsKeepAll : Type 0
InvalidationsKeepAll = (ends : ℕ → Entry → Bool) (slots : List Entry) → AreKept slots → AreKept (invalidated ends slots)

abbrev pub ResetIsKept : Type 0
ResetIsKept = AreKept initial_slots

-- Two live translations meet exactly where some access could have either.
abbrev pub MeetingSharesAnAccess : Type 0
MeetingSharesAnAccess =
    (a b : Entry) → IsTrue a.valid → IsTrue b.valid →
    IsTrue (meets a b) ↔ ((space : Bool) × (pid : ℕ) × (ea : ℕ) × (IsTrue (matches space pid ea a) × IsTrue (matches space pid ea b)))

-- Where none meet, two slots that translate one access are one.
abbrev pub OneMatches : Type 0
OneMatches =
    (slots : List Entry) (space : Bool) (pid ea i j : ℕ) → AreApart slots →
    IsTrue (matches space pid ea (entry_at slots i)) → IsTrue (matches space pid ea (entry_at slots j)) → i ≡ j

-- The slot that a search finds has the translation that a lookup finds.
abbrev pub SearchFindsLookup : Type 0
SearchFindsLookup =
    (slots : List Entry) (space : Bool) (pid ea : ℕ) →
    MatchOption (search_of space pid ea slots) (lookup_of space pid ea slots ≡ None) (λ slot. lookup_of space pid ea slots ≡ Some (entry_at slots slot))

-- Registers that were given a slot's place name that slot; of TLB0, where the page in MAS2 is of its set.
abbrev pub PlacesNameSlots : Type 0
PlacesNameSlots =
    (mas : Mas) (slot : ℕ) → slot < 576 → (slot < 512 → mas.m2 / 2 ^ 12 % 128 ≡ slot / 4) → named_slot (naming slot mas) ≡ Some slot

-- What a search found is named by the registers that report it, so that a write of them goes where it was.
abbrev pub FoundIsNamed : Type 0
FoundIsNamed =
    (slots : List Entry) (mas : Mas) (space : Bool) (pid ea slot : ℕ) → AreKept slots → search_of space pid ea slots ≡ Some slot →
    named_slot (reporting (entry_at slots slot) (naming slot mas)) ≡ Some slot

-- A live translation that is written back by the registers that report it leaves all slots as they are.
abbrev pub WritesBackKeep : Type 0
WritesBackKeep =
    (slots : List Entry) (mas : Mas) (slot : ℕ) → AreKept slots → slot < 576 → IsTrue (entry_at slots slot).valid →
    after_write (reporting (entry_at slots slot) (naming slot mas)) slots ≡ slots

-- A slot that translates an access is the one that a search finds.
abbrev pub MatchesAreFound : Type 0
MatchesAreFound =
    (slots : List Entry) (space : Bool) (pid ea slot : ℕ) → AreApart slots → IsTrue (matches space pid ea (entry_at slots slot)) → search_of space pid ea slots ≡ Some slot

-- Answers rise, and have exactly the slots that pass the test.
abbrev pub AnswersRise : Type 0
AnswersRise = (ends : ℕ → Entry → Bool) (slots : List Entry) → IsStrictlyIncreasing (ended_slots ends slots)

abbrev pub AnswersAreEnded : Type 0
AnswersAreEnded =
    (ends : ℕ → Entry → Bool) (slots : List Entry) (slot : ℕ) →
    Contains (ended_slots ends slots) slot ↔ ((slot < length slots) × IsTrue (ends slot (entry_at slots slot)))

-- a slot was live, and is dead
abbrev pub Dies : List Entry → List Entry → ℕ → Type 0
Dies old new slot = IsTrue (entry_at old slot).valid × IsFalse (entry_at new slot).valid

-- An invalidation answers exactly the slots that died.
abbrev pub AnswersDeaths : (ℕ → Entry → Bool) → Type 0
AnswersDeaths ends = (slots : List Entry) (slot : ℕ) → Contains (ended_slots ends slots) slot ↔ Dies slots (invalidated ends slots) slot

abbrev pub InvalidationsAnswerDeaths : Type 0
InvalidationsAnswerDeaths =
    ((tlb0 tlb1 : Bool) → AnswersDeaths (ends_all tlb0 tlb1))
    × ((pid : ℕ) → AnswersDeaths (ends_pid pid))
    × ((ea : ℕ) (pid : Option ℕ) (tlb0 tlb1 : Bool) → AnswersDeaths (ends_address ea pid tlb0 tlb1))

-- A write answers its own slot, and of the others exactly those that died.
abbrev pub WritesAnswerDeaths : Type 0
WritesAnswerDeaths =
    (mas : Mas) (slots : List Entry) (at : ℕ) → named_slot mas ≡ Some at → at < length slots →
    Contains (ended_by_write mas slots) at
    × ((slot : ℕ) → slot ≢ at → Contains (ended_by_write mas slots) slot ↔ Dies slots (after_write mas slots) slot)

-- each slot that isn't answered has what it had
pub record OthersStay (old new : List Entry) (answer : List ℕ) : Type 0 where
  pub stay : (slot : ℕ) → ¬ (Contains answer slot) → entry_at new slot ≡ entry_at old slot

-- An invalidation by any test and a write leave the slots that they don't answer.
abbrev pub InvalidationsLeaveOthers : Type 0
InvalidationsLeaveOthers = (ends : ℕ → Entry → Bool) (slots : List Entry) → OthersStay slots (invalidated ends slots) (ended_slots ends slots)

abbrev pub WritesLeaveOthers : Type 0
WritesLeaveOthers = (mas : Mas) (slots : List Entry) → OthersStay slots (after_write mas slots) (ended_by_write mas slots)
