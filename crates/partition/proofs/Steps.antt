-- A step over the real memory is the step of the machine.
use Rattle.std.proofs.Common.{◌≡◌, ℕ, ◌+◌, Bool, true, false, cond, List, [], ◌∷◌, map, length, filter, slice_set, Option, None, refl, sym, ap, subst, ◌∙◌}
use Rattle.std.proofs.lemmas.Bool.{cond-true, cond-false}
use Rattle.guest_regs.specs.Registers.{Registers}
use Rattle.ground.specs.Extents.{extent_at}
use Rattle.ground.specs.Own.{KeepsForeign, own_of}
use Rattle.core_step.specs.declared.answer.Wrote.{Wrote}
use Rattle.core_step.specs.Step as core
use Rattle.core_step.specs.Laws.{IsSame, answer_in, range_in, AreBelow, WritesBelow}
use Rattle.core_step.proofs.Alone.{steps_alone}
use Rattle.core_step.proofs.Ranges.{writes_into_pages}
use Rattle.machine_desc.specs.declared.act.Act.{Act as Told}
use Rattle.machine_desc.specs.declared.act.Act.TheVariants as told
use Rattle.machine_desc.specs.declared.desc.Desc.{Desc}
use Rattle.machine_desc.specs.Sound.{IsSound}
use Rattle.fresh_load.specs.Fresh.{reloaded}
use Rattle.fresh_load.specs.Placed.{ArePlaced, extents_of}
use Rattle.vpic.specs.Controller.{Controller}
use Rattle.copy_lists.specs.Pieces.{Piece}
use Rattle.partition.specs.Regions.{areas_of}
use Rattle.partition.specs.Found.{lookup, lookup_in}
use Rattle.partition.specs.Port.{End, emptied}
use Rattle.partition.specs.Act.{Act, CopyTo, SelfRestart, HasTotal, act_of, called, settled, ports_after, state_after}
use Rattle.partition.specs.Machine.{Cpu, Inner, Machine, Shape, shape_of, core_at}
use Rattle.partition.specs.Anew.{started_inner}
use Rattle.partition.specs.Copying.{Copy, asked_copy, copy}
use Rattle.partition.specs.Interrupts.{is_line_up}
use Rattle.partition.specs.Step.{Done, CoreStepped, with_registers, handled, written, shared_ranges, asks_copy, copying, answering_to, instruction, acted, begun, core_step, with_step, unless_restarting, Stepped, step}
use Rattle.partition.specs.Lending.{Part, machine_of, IsCoreStepped, IsStepped, KeepsOthers, Reloads, pieces_of, inner_after, restarts, is_shared_extent}
use Rattle.machine_desc.specs.declared.desc.Region.{Region}
use Rattle.partition.specs.Asking.{with_total, copy_done}
use Rattle.partition.proofs.Asked.{done_none, done_copy}
use Rattle.partition.proofs.Anew.{foreign_private}
use Rattle.partition.proofs.Areas.{placed_extents, count, shared_in}
use Rattle.partition.proofs.Backed.{pages_named}

-- ---- an instruction

-- the core's step over real memory, and over the machine's own
abbrev whole_step : Desc → Cpu → List (List ℕ) → core.Stepped
whole_step desc cpu memory = core.stepped (lookup_in (extents_of desc.regions) (areas_of desc.regions) cpu.translations) cpu.registers memory

abbrev own_step : Desc → Cpu → List (List ℕ) → core.Stepped
own_step desc cpu memory = core.stepped (lookup (areas_of desc.regions) cpu.translations) cpu.registers (own_of (extents_of desc.regions) memory)

same_step : (desc : Desc) (cpu : Cpu) (memory : List (List ℕ)) → IsSound desc → ArePlaced memory desc.regions → IsSame (extents_of desc.regions) memory (own_step desc cpu memory) (whole_step desc cpu memory)
same_step desc cpu memory sound placed =
    steps_alone (extents_of desc.regions) memory (lookup (areas_of desc.regions) cpu.translations) (lookup_in (extents_of desc.regions) (areas_of desc.regions) cpu.translations) cpu.registers (placed_extents desc memory sound placed)
    (pages_named (extents_of desc.regions) (areas_of desc.regions) cpu.translations (count desc.regions))

-- what comes of an answer doesn't depend on the names of the ranges
handled_alike : (names : List ℕ) (shape : Shape) (answer : core.Answer) (cpu : Cpu) (interrupts : Controller) (ends : List End)
    → handled shape (answer_in names answer) cpu interrupts ends ≡ handled shape answer cpu interrupts ends
unfolding handled
handled_alike names shape (core.Retired ranges) cpu interrupts ends = refl
handled_alike names shape core.Sc cpu interrupts ends = refl
handled_alike names shape core.Hcall cpu interrupts ends = refl
handled_alike names shape (core.Priv insn) cpu interrupts ends = refl
handled_alike names shape (core.MissData ea store) cpu interrupts ends = refl
handled_alike names shape (core.MissInsn ea) cpu interrupts ends = refl
handled_alike names shape (core.StorageData ea store little) cpu interrupts ends = refl
handled_alike names shape (core.StorageInsn little) cpu interrupts ends = refl
handled_alike names shape (core.Align ea store) cpu interrupts ends = refl
handled_alike names shape (core.Program syndrome) cpu interrupts ends = refl
handled_alike names shape core.NoFloat cpu interrupts ends = refl
handled_alike names shape core.Waiting cpu interrupts ends = refl

written_in : (names : List ℕ) (answer : core.Answer) → written (answer_in names answer) ≡ map (range_in names) (written answer)
written_in names (core.Retired ranges) = refl
written_in names core.Sc = refl
written_in names core.Hcall = refl
written_in names (core.Priv insn) = refl
written_in names (core.MissData ea store) = refl
written_in names (core.MissInsn ea) = refl
written_in names (core.StorageData ea store little) = refl
written_in names (core.StorageInsn little) = refl
written_in names (core.Align ea store) = refl
written_in names (core.Program syndrome) = refl
written_in names core.NoFloat = refl
written_in names core.Waiting = refl

written_below : (most : ℕ) (answer : core.Answer) → WritesBelow most answer → AreBelow most (written answer)
written_below most (core.Retired ranges) h = h
written_below most core.Sc h = tt
written_below most core.Hcall h = tt
written_below most (core.Priv insn) h = tt
written_below most (core.MissData ea store) h = tt
written_below most (core.MissInsn ea) h = tt
written_below most (core.StorageData ea store little) h = tt
written_below most (core.StorageInsn little) h = tt
written_below most (core.Align ea store) h = tt
written_below most (core.Program syndrome) h = tt
written_below most core.NoFloat h = tt
written_below most core.Waiting h = tt

-- what of the program's ranges lies in shared regions
shared_same : (desc : Desc) (cpu : Cpu) (memory : List (List ℕ)) → IsSound desc
    → filter (λ (range : Wrote). is_shared_extent desc.regions range.extent) (written (answer_in (extents_of desc.regions) (own_step desc cpu memory).answer)) ≡ map (range_in (extents_of desc.regions)) (shared_ranges (areas_of desc.regions) (written (own_step desc cpu memory).answer))
shared_same desc cpu memory sound =
    let names = extents_of desc.regions in
    let own = own_step desc cpu memory in
    let named = pages_named names (areas_of desc.regions) cpu.translations (count desc.regions) in
    ap (filter (λ (range : Wrote). is_shared_extent desc.regions range.extent)) (written_in names own.answer)
    ∙ shared_in desc (written own.answer) sound (written_below (length names) own.answer (writes_into_pages names (lookup (areas_of desc.regions) cpu.translations) cpu.registers (own_of names memory) named.known))

-- whether it asks for a copy doesn't either
asks_alike : (names : List ℕ) (answer : core.Answer) (registers : Registers) → asks_copy (answer_in names answer) registers ≡ asks_copy answer registers
asks_alike names (core.Retired ranges) registers = refl
asks_alike names core.Sc registers = refl
asks_alike names core.Hcall registers = refl
asks_alike names (core.Priv insn) registers = refl
asks_alike names (core.MissData ea store) registers = refl
asks_alike names (core.MissInsn ea) registers = refl
asks_alike names (core.StorageData ea store little) registers = refl
asks_alike names (core.StorageInsn little) registers = refl
asks_alike names (core.Align ea store) registers = refl
asks_alike names (core.Program syndrome) registers = refl
asks_alike names core.NoFloat registers = refl
asks_alike names core.Waiting registers = refl

-- the machine's step by the answer, the registers and the memory of the one over real memory
pub record IsOwn (desc : Desc) (old : Cpu) (before after : List (List ℕ)) (answer : core.Answer) (regs : Registers) : Type 0 where
  pub answers : answer_in (extents_of desc.regions) (own_step desc old before).answer ≡ answer
  pub registers : (own_step desc old before).registers ≡ regs
  pub memory : (own_step desc old before).memory ≡ own_of (extents_of desc.regions) after
  pub asks : asks_copy (own_step desc old before).answer (own_step desc old before).registers ≡ asks_copy answer regs

pub own_so : (desc : Desc) (old : Cpu) (before after : List (List ℕ)) (answer : core.Answer) (regs : Registers) → IsSound desc → ArePlaced before desc.regions
    → whole_step desc old before ≡ record { answer = answer; registers = regs; memory = after } → IsOwn desc old before after answer regs
own_so desc old before after answer regs sound placed d =
    let names = extents_of desc.regions in
    let own = own_step desc old before in
    let same : IsSame names before own (whole_step desc old before) = same_step desc old before sound placed in
    let a : answer_in names own.answer ≡ answer = sym same.answer ∙ ap (λ (s : core.Stepped). s.answer) d in
    let r : own.registers ≡ regs = sym same.registers ∙ ap (λ (s : core.Stepped). s.registers) d in
    record {
      answers = a;
      registers = r;
      memory = sym same.own_memory ∙ ap (λ (s : core.Stepped). own_of names s.memory) d;
      asks = sym (asks_alike names own.answer own.registers) ∙ ap (λ (w : core.Answer). asks_copy w own.registers) a ∙ ap (asks_copy answer) r;
    }

-- an instruction that asks for no copy
pub instructed : (desc : Desc) (old new : Cpu) (interrupts controller : Controller) (regs : Registers) (ends : List End) (before after : List (List ℕ)) (feed : List ℕ) (pieces : List Piece) (answer : core.Answer) (act : Told) (ranges : List Wrote) → IsSound desc → ArePlaced before desc.regions
    → whole_step desc old before ≡ record { answer = answer; registers = regs; memory = after } → asks_copy answer regs ≡ false
    → handled (shape_of desc) answer (with_registers regs old) interrupts ends ≡ record { cpu = new; interrupts = controller; act = act_of [] act }
    → ranges ≡ filter (λ (range : Wrote). is_shared_extent desc.regions range.extent) (written answer) → act_of [] act ≡ act_of pieces act → HasTotal pieces act
    → IsCoreStepped (extents_of desc.regions) pieces (instruction (shape_of desc) old interrupts ends (own_of (extents_of desc.regions) before) feed) new controller after act ranges
unfolding instruction
instructed desc old new interrupts controller regs ends before after feed pieces answer act ranges sound placed d other h kept plain total =
    let names = extents_of desc.regions in
    let shape : Shape = shape_of desc in
    let own = own_step desc old before in
    let left : Cpu = with_registers own.registers old in
    let so : IsOwn desc old before after answer regs = own_so desc old before after answer regs sound placed d in
    let done : handled shape own.answer left interrupts ends ≡ record { cpu = new; interrupts = controller; act = act_of [] act } =
    sym (handled_alike names shape own.answer left interrupts ends)
    ∙ ap (λ (w : core.Answer). handled shape w left interrupts ends) so.answers
    ∙ ap (λ (rs : Registers). handled shape answer (with_registers rs old) interrupts ends) so.registers
    ∙ h in
    subst (λ (s : CoreStepped). IsCoreStepped names pieces s new controller after act ranges)
    (sym (cond-false (asks_copy own.answer own.registers) (copying shape (copy shape own.registers own.memory) (asked_copy shape own.registers own.memory) feed left interrupts own.memory) (answering_to shape own.answer left interrupts ends own.memory) (so.asks ∙ other)))
    (record {
      cpu = ap (λ (w : Done). w.cpu) done;
      interrupts = ap (λ (w : Done). w.interrupts) done;
      memory = so.memory;
      act = ap (λ (w : Done). w.act) done ∙ plain;
      total = total;
      shared = kept ∙ ap (λ (w : core.Answer). filter (λ (range : Wrote). is_shared_extent desc.regions range.extent) (written w)) (sym so.answers) ∙ shared_same desc old before sound;
    })

-- one that asks for a copy
pub instructed_copy : (desc : Desc) (old new : Cpu) (interrupts : Controller) (regs : Registers) (ends : List End) (before after done : List (List ℕ)) (feed : List ℕ) (pieces : List Piece) (answer : core.Answer) (act : Told) → IsSound desc → ArePlaced before desc.regions
    → whole_step desc old before ≡ record { answer = answer; registers = regs; memory = after } → asks_copy answer regs ≡ true
    → IsCoreStepped (extents_of desc.regions) pieces (copying (shape_of desc) (copy (shape_of desc) regs (own_of (extents_of desc.regions) after)) (asked_copy (shape_of desc) regs (own_of (extents_of desc.regions) after)) feed (with_registers regs old) interrupts (own_of (extents_of desc.regions) after)) new interrupts done act []
    → IsCoreStepped (extents_of desc.regions) pieces (instruction (shape_of desc) old interrupts ends (own_of (extents_of desc.regions) before) feed) new interrupts done act []
unfolding instruction
instructed_copy desc old new interrupts regs ends before after done feed pieces answer act sound placed d asks h =
    let names = extents_of desc.regions in
    let shape : Shape = shape_of desc in
    let own = own_step desc old before in
    let so : IsOwn desc old before after answer regs = own_so desc old before after answer regs sound placed d in
    let made = λ (rs : Registers) (memory : List (List ℕ)). let s : CoreStepped = copying shape (copy shape rs memory) (asked_copy shape rs memory) feed (with_registers rs old) interrupts memory in s in
    subst (λ (s : CoreStepped). IsCoreStepped names pieces s new interrupts done act [])
    (sym (cond-true (asks_copy own.answer own.registers) (made own.registers own.memory) (answering_to shape own.answer (with_registers own.registers old) interrupts ends own.memory) (so.asks ∙ asks)))
    (subst (λ (s : CoreStepped). IsCoreStepped names pieces s new interrupts done act []) (sym (ap (λ (rs : Registers). made rs own.memory) so.registers ∙ ap (made regs) so.memory)) h)

-- such an instruction copies nothing
pub nothing_done : (desc : Desc) (old : Cpu) (regs : Registers) (before after : List (List ℕ)) (answer : core.Answer) → IsSound desc → ArePlaced before desc.regions
    → whole_step desc old before ≡ record { answer = answer; registers = regs; memory = after } → asks_copy answer regs ≡ false
    → copy_done (shape_of desc) old (own_of (extents_of desc.regions) before) ≡ None
nothing_done desc old regs before after answer sound placed d other =
    let so : IsOwn desc old before after answer regs = own_so desc old before after answer regs sound placed d in
    done_none (shape_of desc) old (own_of (extents_of desc.regions) before) (so.asks ∙ other)

-- and the other is one by what stands in its registers and in memory
pub copy_so : (desc : Desc) (old : Cpu) (regs : Registers) (before after : List (List ℕ)) (answer : core.Answer) → IsSound desc → ArePlaced before desc.regions
    → whole_step desc old before ≡ record { answer = answer; registers = regs; memory = after } → asks_copy answer regs ≡ true
    → copy_done (shape_of desc) old (own_of (extents_of desc.regions) before) ≡ with_total (asked_copy (shape_of desc) regs (own_of (extents_of desc.regions) after))
copy_so desc old regs before after answer sound placed d asks =
    let own = own_step desc old before in
    let so : IsOwn desc old before after answer regs = own_so desc old before after answer regs sound placed d in
    done_copy (shape_of desc) old (own_of (extents_of desc.regions) before) (so.asks ∙ asks)
    ∙ ap (λ (rs : Registers). with_total (asked_copy (shape_of desc) rs own.memory)) so.registers
    ∙ ap (λ (memory : List (List ℕ)). with_total (asked_copy (shape_of desc) regs memory)) so.memory

pub others_stay : (desc : Desc) (old : Cpu) (registers : Registers) (before after : List (List ℕ)) (answer : core.Answer) → IsSound desc → ArePlaced before desc.regions
    → whole_step desc old before ≡ record { answer = answer; registers = registers; memory = after }
    → KeepsForeign (extents_of desc.regions) before after
others_stay desc old registers before after answer sound placed d extent foreign =
    sym (ap (λ (s : core.Stepped). extent_at s.memory extent) d) ∙ (same_step desc old before sound placed).other_memory extent foreign

-- ---- a core's step

-- The step of a core whose line stands so; the feed may depend on both.
pub core_done : (desc : Desc) (line : Bool) (old mid new : Cpu) (interrupts controller : Controller) (ends : List End) (before after : List (List ℕ)) (feed : Bool → Cpu → List ℕ) (pieces : List Piece) (act : Told) (ranges : List Wrote)
    → line ≡ is_line_up desc.ports interrupts ends → mid ≡ begun line old
    → IsCoreStepped (extents_of desc.regions) pieces (acted (shape_of desc) line mid interrupts ends (own_of (extents_of desc.regions) before) (feed line mid)) new controller after act ranges
    → IsCoreStepped (extents_of desc.regions) pieces (core_step (shape_of desc) old interrupts ends (own_of (extents_of desc.regions) before) (feed (is_line_up desc.ports interrupts ends) (begun (is_line_up desc.ports interrupts ends) old))) new controller after act ranges
unfolding core_step
core_done desc line old mid new interrupts controller ends before after feed pieces act ranges line_is begun_is h =
    let names = extents_of desc.regions in
    let memory = own_of names before in
    let mid_from = subst (λ (cpu : Cpu). IsCoreStepped names pieces (acted (shape_of desc) line cpu interrupts ends memory (feed line cpu)) new controller after act ranges) begun_is h in
    subst (λ (up : Bool). IsCoreStepped names pieces (acted (shape_of desc) up (begun up old) interrupts ends memory (feed up (begun up old))) new controller after act ranges) line_is mid_from

-- ---- the machine's step

-- what was received is gone once
pub emptied_twice : (ends : List End) → emptied (emptied ends) ≡ emptied ends
emptied_twice [] = refl
emptied_twice (it ∷ ends) = ap (λ (rest : List End). record it { received = [] } ∷ rest) (emptied_twice ends)

-- a machine by itself, from what its core left and the act of its step
finished : (desc : Desc) (act : Act) (inner : Inner) (ends : List End) (own after : List (List ℕ)) → after ≡ cond (restarts act) (reloaded desc.pieces desc.regions own) own
    → unless_restarting desc act (record { inner = record inner { state = state_after act; steps = inner.steps + 1 }; ports = ports_after act ends; memory = own })
    ≡ record { inner = inner_after desc act inner; ports = settled act (called act ends); memory = after }
finished desc SelfRestart inner ends own after e = λ i. record {
  inner = started_inner desc desc.entry (record inner { steps = inner.steps + 1 });
  ports = emptied_twice ends i;
  memory = sym e i;
}
finished desc act inner ends own after e = λ i. record {
  inner = record inner { state = state_after act; steps = inner.steps + 1 };
  ports = settled act (called act ends);
  memory = sym e i;
}

-- what is the same of a copy with any pieces is the same of each act
whatever_pieces : {X : Type 0} (f : Act → X) (pieces : List Piece) (act : Told) → ((handle : ℕ) → f (CopyTo handle pieces) ≡ f (CopyTo handle [])) → f (act_of pieces act) ≡ f (act_of [] act)
whatever_pieces f pieces told.None same = refl
whatever_pieces f pieces (told.Sent handle bytes) same = refl
whatever_pieces f pieces (told.Took handle count) same = refl
whatever_pieces f pieces (told.Rang handle) same = refl
whatever_pieces f pieces (told.Start handle entry load) same = refl
whatever_pieces f pieces (told.Stop handle) same = refl
whatever_pieces f pieces (told.Restart handle) same = refl
whatever_pieces f pieces (told.CopyTo handle count) same = same handle
whatever_pieces f pieces (told.CopyFrom handle count) same = refl
whatever_pieces f pieces told.SelfStop same = refl
whatever_pieces f pieces told.SelfRestart same = refl
whatever_pieces f pieces told.Faulted same = refl

pub machine_stepped : (old mid new : Part) (core : ℕ) (ends ends' : List End) (before between after : List (List ℕ)) (feed : List ℕ) (pieces : List Piece) (act : Told) (ranges : List Wrote)
    → IsCoreStepped (extents_of old.desc.regions) pieces (core_step (shape_of old.desc) (core_at old.inner.cores core) old.inner.interrupts ends (own_of (extents_of old.desc.regions) before) feed) (core_at mid.inner.cores core) mid.inner.interrupts between act ranges
    → mid ≡ record old { inner = record old.inner { cores = slice_set old.inner.cores core (core_at mid.inner.cores core); interrupts = mid.inner.interrupts } }
    → ends' ≡ called (act_of [] act) ends
    → new ≡ record mid { inner = inner_after mid.desc (act_of [] act) mid.inner }
    → Reloads (restarts (act_of [] act)) mid.desc between after
    → IsStepped (extents_of old.desc.regions) pieces (step old.desc (machine_of old ends before) core feed) (machine_of new (settled (act_of [] act) ends') after) act ranges
unfolding step
machine_stepped old mid new core ends ends' before between after feed pieces act ranges h mid_is ends_is new_is loads =
    let names = extents_of old.desc.regions in
    let done : CoreStepped = core_step (shape_of old.desc) (core_at old.inner.cores core) old.inner.interrupts ends (own_of names before) feed in
    let made = λ (cpu : Cpu) (interrupts : Controller) (act : Act) (memory : List (List ℕ)).
    let m : Machine = unless_restarting old.desc act (with_step core (record { cpu = cpu; interrupts = interrupts; memory = memory; act = act; stored = [] }) (machine_of old ends before)) in m in
    let cpu = core_at mid.inner.cores core in
    let interrupts = mid.inner.interrupts in
    let own : List (List ℕ) = own_of names between in
    let held : Inner = record old.inner { cores = slice_set old.inner.cores core cpu; interrupts = interrupts } in
    let left : Part = record { desc = old.desc; inner = inner_after old.desc (act_of [] act) held } in
    let part : new ≡ left = new_is ∙ ap (λ (p : Part). record p { inner = inner_after p.desc (act_of [] act) p.inner }) mid_is in
    let desc : mid.desc ≡ old.desc = ap (λ (p : Part). p.desc) mid_is in
    let its : own_of names after ≡ cond (restarts (act_of pieces act)) (reloaded old.desc.pieces old.desc.regions own) own =
    (subst (λ (d : Desc). Reloads (restarts (act_of [] act)) d between after) desc loads).own ∙ ap (λ (anew : Bool). cond anew (reloaded old.desc.pieces old.desc.regions own) own) (sym (whatever_pieces restarts pieces act (λ handle. refl))) in
    record {
      after = ap (λ (c : Cpu). made c done.interrupts done.act done.memory) h.cpu ∙ ap (λ (i : Controller). made cpu i done.act done.memory) h.interrupts
          ∙ ap (λ (a : Act). made cpu interrupts a done.memory) h.act ∙ ap (made cpu interrupts (act_of pieces act)) h.memory
          ∙ finished old.desc (act_of pieces act) held ends own (own_of names after) its
          ∙ ap (λ (i : Inner). record { inner = i; ports = settled (act_of pieces act) (called (act_of pieces act) ends); memory = own_of names after }) (whatever_pieces (λ (a : Act). inner_after old.desc a held) pieces act (λ handle. refl))
          ∙ ap (λ (es : List End). machine_of left (settled (act_of pieces act) es) after) (whatever_pieces (λ (a : Act). called a ends) pieces act (λ handle. refl) ∙ sym ends_is)
          ∙ ap (λ (es : List End). machine_of left es after) (whatever_pieces (λ (a : Act). settled a ends') pieces act (λ handle. refl))
          ∙ ap (λ (p : Part). record { inner = p.inner; ports = settled (act_of [] act) ends'; memory = own_of names after }) (sym part)
          ∙ ap (λ (d : Desc). record { inner = new.inner; ports = settled (act_of [] act) ends'; memory = own_of (extents_of d.regions) after }) (sym (ap (λ (p : Part). p.desc) part));
      act = h.act;
      total = h.total;
      shared = h.shared;
    }

-- A memory that is loaded anew has other pieces, of which the restart tells nothing.
pub stepped_alike : (desc : Desc) (names : List ℕ) (done : Stepped) (left : Machine) (between after : List (List ℕ)) (last : Copy) (act : Told) (ranges : List Wrote) → (restarts (act_of [] act) ≡ false → after ≡ between)
    → IsStepped names (pieces_of desc.regions between last) done left act ranges → IsStepped names (pieces_of desc.regions after last) done left act ranges
stepped_alike desc names done left between after last told.SelfRestart ranges stays h = record { after = h.after; act = h.act; total = tt; shared = h.shared }
stepped_alike desc names done left between after last told.None ranges stays h = subst (λ (memory : List (List ℕ)). IsStepped names (pieces_of desc.regions memory last) done left told.None ranges) (sym (stays refl)) h
stepped_alike desc names done left between after last (told.Sent handle bytes) ranges stays h = subst (λ (memory : List (List ℕ)). IsStepped names (pieces_of desc.regions memory last) done left (told.Sent handle bytes) ranges) (sym (stays refl)) h
stepped_alike desc names done left between after last (told.Took handle count) ranges stays h = subst (λ (memory : List (List ℕ)). IsStepped names (pieces_of desc.regions memory last) done left (told.Took handle count) ranges) (sym (stays refl)) h
stepped_alike desc names done left between after last (told.Rang handle) ranges stays h = subst (λ (memory : List (List ℕ)). IsStepped names (pieces_of desc.regions memory last) done left (told.Rang handle) ranges) (sym (stays refl)) h
stepped_alike desc names done left between after last (told.Start handle entry load) ranges stays h = subst (λ (memory : List (List ℕ)). IsStepped names (pieces_of desc.regions memory last) done left (told.Start handle entry load) ranges) (sym (stays refl)) h
stepped_alike desc names done left between after last (told.Stop handle) ranges stays h = subst (λ (memory : List (List ℕ)). IsStepped names (pieces_of desc.regions memory last) done left (told.Stop handle) ranges) (sym (stays refl)) h
stepped_alike desc names done left between after last (told.Restart handle) ranges stays h = subst (λ (memory : List (List ℕ)). IsStepped names (pieces_of desc.regions memory last) done left (told.Restart handle) ranges) (sym (stays refl)) h
stepped_alike desc names done left between after last (told.CopyTo handle count) ranges stays h = subst (λ (memory : List (List ℕ)). IsStepped names (pieces_of desc.regions memory last) done left (told.CopyTo handle count) ranges) (sym (stays refl)) h
stepped_alike desc names done left between after last (told.CopyFrom handle count) ranges stays h = subst (λ (memory : List (List ℕ)). IsStepped names (pieces_of desc.regions memory last) done left (told.CopyFrom handle count) ranges) (sym (stays refl)) h
stepped_alike desc names done left between after last told.SelfStop ranges stays h = subst (λ (memory : List (List ℕ)). IsStepped names (pieces_of desc.regions memory last) done left told.SelfStop ranges) (sym (stays refl)) h
stepped_alike desc names done left between after last told.Faulted ranges stays h = subst (λ (memory : List (List ℕ)). IsStepped names (pieces_of desc.regions memory last) done left told.Faulted ranges) (sym (stays refl)) h

-- loading anew changes no byte of others
pub others_kept : (tells : ℕ → Option (List Region)) (desc : Desc) (last : Copy) (act : Told) (before between after : List (List ℕ)) → KeepsOthers tells desc.regions last act before between → Reloads (restarts (act_of [] act)) desc between after
    → KeepsOthers tells desc.regions last act before after
others_kept tells desc last (told.CopyTo handle count) before between after h loads = loads.kept refl ∙ h
others_kept tells desc last told.None before between after h loads = λ extent foreign. loads.others extent (foreign_private desc.regions extent foreign) ∙ h extent foreign
others_kept tells desc last (told.Sent handle bytes) before between after h loads = λ extent foreign. loads.others extent (foreign_private desc.regions extent foreign) ∙ h extent foreign
others_kept tells desc last (told.Took handle count) before between after h loads = λ extent foreign. loads.others extent (foreign_private desc.regions extent foreign) ∙ h extent foreign
others_kept tells desc last (told.Rang handle) before between after h loads = λ extent foreign. loads.others extent (foreign_private desc.regions extent foreign) ∙ h extent foreign
others_kept tells desc last (told.Start handle entry load) before between after h loads = λ extent foreign. loads.others extent (foreign_private desc.regions extent foreign) ∙ h extent foreign
others_kept tells desc last (told.Stop handle) before between after h loads = λ extent foreign. loads.others extent (foreign_private desc.regions extent foreign) ∙ h extent foreign
others_kept tells desc last (told.Restart handle) before between after h loads = λ extent foreign. loads.others extent (foreign_private desc.regions extent foreign) ∙ h extent foreign
others_kept tells desc last (told.CopyFrom handle count) before between after h loads = λ extent foreign. loads.others extent (foreign_private desc.regions extent foreign) ∙ h extent foreign
others_kept tells desc last told.SelfStop before between after h loads = λ extent foreign. loads.others extent (foreign_private desc.regions extent foreign) ∙ h extent foreign
others_kept tells desc last told.SelfRestart before between after h loads = λ extent foreign. loads.others extent (foreign_private desc.regions extent foreign) ∙ h extent foreign
others_kept tells desc last told.Faulted before between after h loads = λ extent foreign. loads.others extent (foreign_private desc.regions extent foreign) ∙ h extent foreign
