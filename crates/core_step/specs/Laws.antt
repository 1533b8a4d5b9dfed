-- One instruction over the extents of a larger memory that belong to one partition.
use Rattle.std.specs.Prelude.{◌≡◌, ℕ, ◌<◌, Bool, List, [], ◌∷◌, length, map, Option, Some, None, IfSome}
use Rattle.guest_regs.specs.Registers.{Registers}
use Rattle.ground.specs.Own.{name_of, own_of, AreExtents, KeepsForeign}
use Rattle.core_step.specs.declared.answer.Wrote.{Wrote}
use Rattle.core_step.specs.declared.look.Page.{Page}
use Rattle.core_step.specs.Pages.{Lookup, AreBacked}
use Rattle.core_step.specs.Step.{Answer, Retired, Stepped, stepped}

-- the same page and the same range, in the extent of its region
abbrev pub page_in : List ℕ → Option Page → Option Page
page_in names None = None
page_in names (Some page) = Some (record page { extent = name_of names page.extent })

abbrev pub range_in : List ℕ → Wrote → Wrote
range_in names range = record range { extent = name_of names range.extent }

abbrev pub answer_in : List ℕ → Answer → Answer
answer_in names (Retired ranges) = Retired (map (range_in names) ranges)
answer_in names answer = answer

-- Two lookups find the same pages: one by the regions of the partition, the other by the extents of the larger memory.
pub record IsNamed (names : List ℕ) (regions extents : Lookup) : Type 0 where
  pub known : (space : Bool) (pid ea : ℕ) → IfSome (regions space pid ea) (λ page. page.extent < length names)
  pub same : (space : Bool) (pid ea : ℕ) → extents space pid ea ≡ page_in names (regions space pid ea)

-- What an instruction did with the larger memory is what it does with the partition's own.
pub record IsSame (names : List ℕ) (before : List (List ℕ)) (own whole : Stepped) : Type 0 where
  pub answer : whole.answer ≡ answer_in names own.answer
  pub registers : whole.registers ≡ own.registers
  pub own_memory : own_of names whole.memory ≡ own.memory
  pub other_memory : KeepsForeign names before whole.memory

-- So it is of each instruction.
abbrev pub StepsAlone : Type 0
StepsAlone =
    (names : List ℕ) (memory : List (List ℕ)) (regions extents : Lookup) (registers : Registers) → AreExtents names memory → IsNamed names regions extents
    → IsSame names memory (stepped regions registers (own_of names memory)) (stepped extents registers memory)

-- Pages that have memory among the partition's extents have it in the larger memory.
abbrev pub StaysBacked : Type 0
StaysBacked =
    (names : List ℕ) (memory : List (List ℕ)) (regions extents : Lookup) → AreExtents names memory → IsNamed names regions extents
    → AreBacked (own_of names memory) regions → AreBacked memory extents

-- Each of the ranges lies in one of so many extents.
abbrev pub AreBelow : ℕ → List Wrote → Type 0
AreBelow count [] = Unit {0}
AreBelow count (range ∷ ranges) = (range.extent < count) × AreBelow count ranges

abbrev pub WritesBelow : ℕ → Answer → Type 0
WritesBelow count (Retired ranges) = AreBelow count ranges
WritesBelow count _ = Unit {0}

-- An instruction writes into extents that its pages lie in.
abbrev pub WritesIntoPages : Type 0
WritesIntoPages =
    (names : List ℕ) (lookup : Lookup) (registers : Registers) (memory : List (List ℕ))
    → ((space : Bool) (pid ea : ℕ) → IfSome (lookup space pid ea) (λ page. page.extent < length names))
    → WritesBelow (length names) (stepped lookup registers memory).answer
