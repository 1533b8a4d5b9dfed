-- The pages that an instruction touches, and an instruction over some of the pages (Power ISA 2.06, Book III-E, chapter 6).
use Rattle.std.specs.Prelude.{◌≡◌, ℕ, ◌%◌, ◌==◌, ◌≤◌, length, Bool, not, ◌&&◌, List, [], ◌∷◌, Option, Some, None, Result, Ok, Err, is_none, find, IfSome, IsSome, MatchOption, if◌then◌else◌}
use Rattle.insn.specs.declared.instruction.Insn.{Insn}
use Rattle.guest_regs.specs.Registers.{Registers, in_problem_state, instruction_space, data_space}
use Rattle.insn_alu.specs.declared.effect.Effect.{Effect}
use Rattle.insn_alu.specs.declared.effect.Effect.TheVariants as effect
use Rattle.insn_alu.specs.declared.effect.Access.{Access}
use Rattle.insn_alu.specs.Exec.{exec_of}
use Rattle.ground.specs.Extents.{number_at}
use Rattle.core_step.specs.declared.look.Page.{Page}
use Rattle.core_step.specs.declared.access.Part.{Part}
use Rattle.core_step.specs.declared.access.Place.{Place}
use Rattle.core_step.specs.declared.access.Fault.{Fault}
use Rattle.core_step.specs.declared.access.Fault.TheVariants.{Missing, Denied, Reversed}
use Rattle.core_step.specs.Pages.{Lookup}
use Rattle.core_step.specs.Access.{parts_of, fetching, place_or_fault}
use Rattle.core_step.specs.Step.{Answer, MissData, MissInsn, is_aligned, access_permission, decoded, stepped}

-- a page is looked at: the page of an effective address, in an address space, for a process
pub record Touch : Type 0 where
  pub space : Bool
  pub pid : ℕ
  pub ea : ℕ

abbrev pub touch_at : Bool → ℕ → ℕ → Touch
touch_at space pid ea = record { space = space; pid = pid; ea = ea }

abbrev pub page_for : Lookup → Touch → Option Page
page_for lookup touch = lookup touch.space touch.pid touch.ea

-- An access touches a page that it finds, also where the page doesn't allow it; what comes after is done where it does.
abbrev pub touching : Touch → Result Place Fault → List Touch → List Touch
touching touch (Ok place) later = touch ∷ later
touching touch (Err (Missing ea)) later = []
touching touch (Err (Denied ea)) later = touch ∷ []
touching touch (Err (Reversed ea)) later = touch ∷ []

abbrev pub parts_touched : Lookup → Bool → ℕ → ℕ → List Part → List Touch
parts_touched lookup space pid permission [] = []
parts_touched lookup space pid permission (part ∷ parts) =
    touching (touch_at space pid part.ea) (place_or_fault permission part (lookup space pid part.ea)) (parts_touched lookup space pid permission parts)

-- what an access touches; one that has to be aligned and isn't touches nothing
unfoldable pub access_touched : Lookup → Access → Registers → List Touch
access_touched lookup access registers =
    if is_aligned access.form && not (access.ea % 4 == 0) then []
    else parts_touched lookup (data_space registers) registers.pid (access_permission access.store registers) (parts_of access.ea access.len)

unfoldable pub effect_touched : Lookup → Effect → Registers → List Touch
effect_touched lookup (effect.Memory access) registers = access_touched lookup access registers
effect_touched lookup _ registers = []

abbrev pub instruction_touched : Lookup → Insn → Registers → List Touch
instruction_touched lookup insn registers = effect_touched lookup (exec_of insn.op insn.word registers).effect registers

-- what an instruction touches after its fetch
abbrev pub after_fetch : Lookup → Result Place Fault → Registers → List (List ℕ) → List Touch
after_fetch lookup (Err fault) registers memory = []
after_fetch lookup (Ok place) registers memory = instruction_touched lookup (decoded (number_at memory place.extent place.at 4)) registers

abbrev pub fetch_touch : Registers → Touch
fetch_touch registers = touch_at (instruction_space registers) registers.pid registers.pc

abbrev pub fetch_place : Option Page → Registers → Result Place Fault
fetch_place page registers = place_or_fault (fetching (in_problem_state registers)) (record { ea = registers.pc; len = 4 }) page

-- the touches of an instruction, in order; at most three
unfoldable pub touches : Lookup → Registers → List (List ℕ) → List Touch
touches lookup registers memory =
    let place = fetch_place (page_for lookup (fetch_touch registers)) registers in
    touching (fetch_touch registers) place (after_fetch lookup place registers memory)

-- ---- a step over some of the pages

-- Each page of one lookup gives an access the place or the fault that the other's gives, whatever their sizes.
pub record Agrees (whole : Lookup) (touch : Touch) (page : Page) : Type 0 where
  pub found : IsSome (page_for whole touch)
  pub same : (permission len : ℕ) → place_or_fault permission (record { ea = touch.ea; len = len }) (Some page) ≡ place_or_fault permission (record { ea = touch.ea; len = len }) (page_for whole touch)

pub record IsPart (some whole : Lookup) : Type 0 where
  pub agrees : (touch : Touch) → IfSome (page_for some touch) (Agrees whole touch)

-- the first touch whose page isn't there
abbrev pub unmet : Lookup → List Touch → Option Touch
unmet some all = find (λ touch. is_none (page_for some touch)) all

-- the access that an answer says misses
abbrev pub missing : Answer → Registers → Option Touch
missing (MissData ea store) registers = Some (touch_at (data_space registers) registers.pid ea)
missing (MissInsn ea) registers = Some (touch_at (instruction_space registers) registers.pid ea)
missing _ registers = None

-- A try over some of the pages is the whole step, and all that it touches is there; or it misses, and the whole lookup has the
-- page, which then is that of the first touch that isn't there.
abbrev pub Settles : Type 0 → Option Touch → Option Touch → Lookup → Type 0
Settles same first missed whole =
    MatchOption missed (same × (first ≡ None)) (λ touch. MatchOption (page_for whole touch) (same × (first ≡ None)) (λ page. first ≡ Some touch))

abbrev pub TriesSettle : Type 0
TriesSettle =
    (some whole : Lookup) (registers : Registers) (memory : List (List ℕ)) → IsPart some whole →
    Settles (stepped some registers memory ≡ stepped whole registers memory)
    (unmet some (touches whole registers memory))
    (missing (stepped some registers memory).answer registers)
    whole

-- A step touches at most three pages: that of its fetch, and two of its access.
abbrev pub TouchesAreFew : Type 0
TouchesAreFew = (lookup : Lookup) (registers : Registers) (memory : List (List ℕ)) → length (touches lookup registers memory) ≤ 3

-- what a lookup finds at a step's touches
abbrev pub AreFound : Lookup → List Touch → Type 0
AreFound lookup [] = Unit {0}
AreFound lookup (touch ∷ all) = IsSome (page_for lookup touch) × AreFound lookup all

-- Each touch has a page.
abbrev pub TouchesAreFound : Type 0
TouchesAreFound = (lookup : Lookup) (registers : Registers) (memory : List (List ℕ)) → AreFound lookup (touches lookup registers memory)

-- Two lookups that give each access the same place or fault: their pages may differ in size.
pub record Alike (some whole : Lookup) : Type 0 where
  pub same : (space : Bool) (pid permission : ℕ) (part : Part) → place_or_fault permission part (some space pid part.ea) ≡ place_or_fault permission part (whole space pid part.ea)

-- A step over them is the same, and so are its touches.
abbrev pub AlikeStepAlike : Type 0
AlikeStepAlike =
    (some whole : Lookup) (registers : Registers) (memory : List (List ℕ)) → Alike some whole →
    (stepped some registers memory ≡ stepped whole registers memory) × (touches some registers memory ≡ touches whole registers memory)
