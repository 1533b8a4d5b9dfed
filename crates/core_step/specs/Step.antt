-- One instruction: its fetch, what it does to the registers, and its access.
use Rattle.std.specs.Prelude.{◌≡◌, ⊤, ℕ, ◌-◌, ◌%◌, ◌==◌, Bool, true, false, not, ◌&&◌, List, [], ◌∷◌, Option, Some, None, Result, Ok, Err, if◌then◌else◌}
use Rattle.insn.specs.Table.{op_of}
use Rattle.insn.specs.declared.instruction.Insn.{Insn}
use Rattle.guest_regs.specs.State.{illegal, privileged, trap}
use Rattle.guest_regs.specs.Registers.{Registers, advanced, in_problem_state, instruction_space, data_space}
use Rattle.insn_alu.specs.declared.effect.Effect.{Effect}
use Rattle.insn_alu.specs.declared.effect.Effect.TheVariants as effect
use Rattle.insn_alu.specs.declared.effect.Form.{Form}
use Rattle.insn_alu.specs.declared.effect.Form.TheVariants as form
use Rattle.insn_alu.specs.declared.effect.Access.{Access}
use Rattle.insn_alu.specs.Transfers.{transfer_of, finished_by, stored_by}
use Rattle.insn_alu.specs.Exec.{Executed, exec_of}
use Rattle.ground.specs.Extents.{number_at}
use Rattle.core_step.specs.declared.answer.Wrote.{Wrote}
use Rattle.core_step.specs.declared.answer.Hw.{Hw}
use Rattle.core_step.specs.declared.answer.Hw.TheVariants as hw
use Rattle.core_step.specs.Pages.{Lookup}
use Rattle.core_step.specs.declared.access.Place.{Place}
use Rattle.core_step.specs.declared.access.Fault.{Fault}
use Rattle.core_step.specs.declared.access.Fault.TheVariants.{Missing, Denied, Reversed}
use Rattle.core_step.specs.Access.{parts_of, fetching, storing, loading, place_or_fault, places_or_fault, loaded_from, stored_to, ranges_of}

-- what an instruction answers
pub data Answer : Type 0 where
  Retired : List Wrote → Answer
  Sc : Answer
  Hcall : Answer
  Priv : Insn → Answer
  MissData : ℕ → Bool → Answer
  MissInsn : ℕ → Answer
  StorageData : ℕ → Bool → Bool → Answer
  StorageInsn : Bool → Answer
  Align : ℕ → Bool → Answer
  Program : ℕ → Answer
  NoFloat : Answer
  Waiting : Answer

-- the program's answer as it is defined here
abbrev pub answered : Hw → Answer
answered (hw.Retired ranges) = Retired ranges.items
answered hw.Sc = Sc
answered hw.Hcall = Hcall
answered (hw.Priv insn) = Priv insn
answered (hw.MissData ea store) = MissData ea store
answered (hw.MissInsn ea) = MissInsn ea
answered (hw.StorageData ea store little) = StorageData ea store little
answered (hw.StorageInsn little) = StorageInsn little
answered (hw.Align ea store) = Align ea store
answered (hw.Program esr) = Program esr
answered hw.NoFloat = NoFloat
answered hw.Waiting = Waiting

-- the answer, and what is left of the registers and of real memory
pub record Stepped : Type 0 where
  pub answer : Answer
  pub registers : Registers
  pub memory : List (List ℕ)

-- nothing has changed
abbrev pub unchanged : Answer → Registers → List (List ℕ) → Stepped
unchanged answer registers memory = record { answer = answer; registers = registers; memory = memory }

-- where an instruction is neither done nor waits, nothing has changed
abbrev pub KeepsUnlessDone : Answer → Registers → Registers → List (List ℕ) → List (List ℕ) → Type 0
KeepsUnlessDone (Retired ranges) old new before after = ⊤
KeepsUnlessDone Waiting old new before after = ⊤
KeepsUnlessDone _ old new before after = (new ≡ old) × (after ≡ before)

-- ---- the access

-- several words, and those of a reservation, begin at a multiple of 4
abbrev pub is_aligned : Form → Bool
is_aligned form.Many = true
is_aligned form.Reserve = true
is_aligned form.Conditional = true
is_aligned _ = false

abbrev pub data_fault : Bool → Fault → Answer
data_fault store (Missing ea) = MissData ea store
data_fault store (Denied ea) = StorageData ea store false
data_fault store (Reversed ea) = StorageData ea store true

-- the reservation granule of a logical address (Power ISA 2.06, Book II): the block of 64 bytes that it lies in, by its first byte
abbrev pub granule_of : ℕ → ℕ
granule_of logical = logical - logical % 64

abbrev pub first_granule : List Place → ℕ
first_granule [] = 0
first_granule (place ∷ places) = granule_of place.logical

abbrev pub holds : Registers → ℕ → Bool
holds registers granule = elim registers.reserved as (λ _. Bool) [ None ↦ false | Some held ↦ held == granule ]

abbrev pub with_reserved : Option ℕ → Registers → Registers
with_reserved granule registers = record registers { reserved = granule }

-- a load whose bytes lie at these places; lwarx keeps its granule
unfoldable pub load_done : Insn → Access → List Place → Registers → List (List ℕ) → Stepped
load_done insn access places registers memory = record {
  answer = Retired [];
  registers =
      let loaded = finished_by (transfer_of insn.op) insn.word (loaded_from memory places) registers in
      elim access.form as (λ _. Registers) [ form.Reserve ↦ with_reserved (Some (first_granule places)) loaded | _ ↦ loaded ];
  memory = memory;
}

-- a store
unfoldable pub store_done : Insn → List Place → Registers → List (List ℕ) → Stepped
store_done insn places registers memory = record {
  answer = Retired (ranges_of places);
  registers = finished_by (transfer_of insn.op) insn.word [] registers;
  memory = stored_to memory places (stored_by (transfer_of insn.op) insn.word registers);
}

-- stwcx.: it stores where its granule is reserved, tells whether it did, and the reservation ends
unfoldable pub conditional_done : Insn → List Place → Registers → List (List ℕ) → Stepped
conditional_done insn places registers memory =
    if holds registers (first_granule places) then record {
      answer = Retired (ranges_of places);
      registers = with_reserved None (finished_by (transfer_of insn.op) insn.word (1 ∷ []) registers);
      memory = stored_to memory places (stored_by (transfer_of insn.op) insn.word registers);
    }
    else record {
      answer = Retired [];
      registers = with_reserved None (finished_by (transfer_of insn.op) insn.word (0 ∷ []) registers);
      memory = memory;
    }

unfoldable pub access_done : Insn → Access → List Place → Registers → List (List ℕ) → Stepped
access_done insn access places registers memory =
    if not access.store then load_done insn access places registers memory
    else elim access.form as (λ _. Stepped) [
      | form.Conditional ↦ conditional_done insn places registers memory
      | _ ↦ store_done insn places registers memory
    ]

abbrev pub done_unless : Result (List Place) Fault → Insn → Access → Registers → List (List ℕ) → Stepped
done_unless (Err fault) insn access registers memory = unchanged (data_fault access.store fault) registers memory
done_unless (Ok places) insn access registers memory = access_done insn access places registers memory

abbrev pub access_permission : Bool → Registers → ℕ
access_permission store registers = if store then storing (in_problem_state registers) else loading (in_problem_state registers)

-- alignment comes before every page, and no byte moves before all pages passed
unfoldable pub accessed : Lookup → Insn → Access → Registers → List (List ℕ) → Stepped
accessed lookup insn access registers memory =
    if is_aligned access.form && not (access.ea % 4 == 0) then unchanged (Align access.ea access.store) registers memory
    else done_unless
    (places_or_fault (lookup (data_space registers) registers.pid) (access_permission access.store registers) (parts_of access.ea access.len))
    insn access registers memory

-- ---- the instruction

-- wait sets the idle flag and goes on behind itself
abbrev pub idle : Registers → Registers
idle registers = advanced (record registers { idle = true })

unfoldable pub performed : Lookup → Insn → Effect → Registers → Registers → List (List ℕ) → Stepped
performed lookup insn effect.Done after registers memory = record { answer = Retired []; registers = after; memory = memory }
performed lookup insn (effect.Memory access) after registers memory = accessed lookup insn access registers memory
performed lookup insn effect.Priv after registers memory =
    unchanged (if in_problem_state registers then Program privileged else Priv insn) registers memory
performed lookup insn effect.Trap after registers memory = unchanged (Program trap) registers memory
performed lookup insn effect.Illegal after registers memory = unchanged (Program illegal) registers memory
performed lookup insn effect.NoFloat after registers memory = unchanged NoFloat registers memory
performed lookup insn effect.Syscall after registers memory = unchanged Sc registers memory
performed lookup insn effect.Hcall after registers memory = unchanged Hcall registers memory
performed lookup insn effect.Wait after registers memory = record { answer = Waiting; registers = idle registers; memory = memory }

unfoldable pub instruction_done : Lookup → Insn → Registers → List (List ℕ) → Stepped
instruction_done lookup insn registers memory =
    let executed : Executed = exec_of insn.op insn.word registers in
    performed lookup insn executed.effect executed.after registers memory

abbrev pub fetch_fault : ℕ → Fault → Answer
fetch_fault pc (Missing ea) = MissInsn pc
fetch_fault pc (Denied ea) = StorageInsn false
fetch_fault pc (Reversed ea) = StorageInsn true

abbrev pub decoded : ℕ → Insn
decoded word = record { op = op_of word; word = word }

abbrev pub fetched : Result Place Fault → Lookup → Registers → List (List ℕ) → Stepped
fetched (Err fault) lookup registers memory = unchanged (fetch_fault registers.pc fault) registers memory
fetched (Ok place) lookup registers memory = instruction_done lookup (decoded (number_at memory place.extent place.at 4)) registers memory

-- one instruction
unfoldable pub stepped : Lookup → Registers → List (List ℕ) → Stepped
stepped lookup registers memory =
    fetched
    (place_or_fault (fetching (in_problem_state registers)) (record { ea = registers.pc; len = 4 })
    (lookup (instruction_space registers) registers.pid registers.pc))
    lookup registers memory
