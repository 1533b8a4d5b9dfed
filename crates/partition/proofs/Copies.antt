-- Copying.
use Rattle.std.proofs.Common.{◌≡◌, ℕ, ◌+◌, min, max, ◌==◌, ◌&&◌, ◌||◌, nat_lt, Bool, true, false, not, cond, List, [], ◌∷◌, length, map, filter, Option, Some, None, refl, sym, ap, ◌∙◌, arith}
use Rattle.std.specs.List.{list_any, list_all}
use Rattle.std.proofs.lemmas.Bool.{and_parts, and_from, eqb-false, eqb-true, lt-ltb, le-ltb}
use Rattle.std.proofs.lemmas.List.FromFn.{length-map-range_with_len}
use Rattle.guest_regs.specs.Registers.{Registers, gpr_of}
use Rattle.machine_desc.specs.declared.desc.Port.{Port}
use Rattle.machine_desc.specs.declared.desc.Region.{Region}
use Rattle.machine_desc.specs.declared.desc.Span.{Span}
use Rattle.machine_desc.specs.Private.{is_private_range}
use Rattle.machine_desc.specs.Ranges.{ranges_meet}
use Rattle.partition_manager.specs.declared.decision.Decision.{Decision}
use Rattle.partition_manager.specs.declared.decision.Decision.TheVariants.{Go, Refuse}
use Rattle.partition_manager.specs.Decisions.{is_manage_at}
use Rattle.copy_lists.specs.declared.list.SgEntry.{SgEntry}
use Rattle.copy_lists.specs.Lists.{is_to_managed, managed_handle, managed_spans, is_one_own, is_copy_asked, asked_entries, decided_entries, is_entry_private, source_private, target_private, are_entries_private}
use Rattle.copy_lists.specs.Laws.{IsChecked}
use Rattle.copy_lists.specs.Spans.{is_in_spans}
use Rattle.copy_lists.proofs.Going.{gone_is_checked}
use Rattle.copy_lists.specs.Moving.{byte_in, bytes_in}
use Rattle.copy_lists.specs.Pieces.{Piece, with_bytes, sources_of, targets_of, pieces_out, pieces_in, all_put}
use Rattle.core_step.specs.Step.{with_reserved}
use Rattle.partition.specs.Reservations.{granule_size, is_copied_to, is_in_entry, uncopied_reservation, with_copied}
use Rattle.partition.specs.Machine.{Cpu, Shape, shape_of}
use Rattle.partition.specs.Copying.{Copy, own_regions, own_byte, decide_copy, asked_copy, copy_act, copy, copied_in}
use Rattle.partition.specs.Act.{Nothing}
use Rattle.partition.specs.Managing.{decided, commanding}
use Rattle.partition.specs.Asking.{with_total}
use Rattle.partition.specs.Acting.{LieIn}
use Rattle.machine_desc.specs.declared.desc.Desc.{Desc}
use Rattle.ground.specs.Own.{own_of}
use Rattle.partition.proofs.OwnBytes.{own_private_so, entries_so}
use Rattle.machine_desc.specs.Sound.{are_regions_sound}
use Rattle.fresh_load.specs.Placed.{ArePlaced, extents_of}
use Rattle.partition.specs.Lending.{Tells, CopyFits, are_own_private}

-- ---- a copy that goes

pub copy_goes : (shape : Shape) (registers : Registers) (memory : List (List ℕ)) → decide_copy shape registers memory ≡ Go
    → IsChecked shape.ports registers (is_private_range (own_regions shape.areas)) (is_in_spans (managed_spans shape.ports (managed_handle registers))) (own_byte shape.areas memory)
copy_goes shape registers memory goes =
    gone_is_checked shape.ports registers (is_private_range (own_regions shape.areas)) (is_in_spans (managed_spans shape.ports (managed_handle registers))) (own_byte shape.areas memory) goes

pub copy_manages : (ports : List Port) (registers : Registers) → is_copy_asked ports registers ≡ true → is_manage_at ports (managed_handle registers) ≡ true
copy_manages ports registers asked =
    (and_parts (is_one_own (gpr_of registers 3) (gpr_of registers 4)) (is_manage_at ports (managed_handle registers)) (and_parts (is_one_own (gpr_of registers 3) (gpr_of registers 4) && is_manage_at ports (managed_handle registers)) _ asked).0).1

-- ---- a copy that goes fits

-- the caller's side of an entry, by the direction
one_own : (to_managed : Bool) (own managed : ℕ → ℕ → Bool) (entry : SgEntry) → is_entry_private (source_private to_managed own managed) (target_private to_managed own managed) entry ≡ true
    → (entry.size == 0 || own (cond to_managed entry.source entry.target) entry.size) ≡ true
one_own true own managed entry h = by_size (entry.size == 0) h
  where
    by_size : (b : Bool) → (b || (own entry.source entry.size && managed entry.target entry.size)) ≡ true → (b || own entry.source entry.size) ≡ true
    by_size true h = refl
    by_size false h = (and_parts (own entry.source entry.size) (managed entry.target entry.size) h).0
one_own false own managed entry h = by_size (entry.size == 0) h
  where
    by_size : (b : Bool) → (b || (managed entry.source entry.size && own entry.target entry.size)) ≡ true → (b || own entry.target entry.size) ≡ true
    by_size true h = refl
    by_size false h = (and_parts (managed entry.source entry.size) (own entry.target entry.size) h).1

-- what is private to the managed partition by spans is private by its regions
one_told : (to_managed : Bool) (own managed other : ℕ → ℕ → Bool) (entry : SgEntry) → ((at size : ℕ) → managed at size ≡ true → other at size ≡ true)
    → is_entry_private (source_private to_managed own managed) (target_private to_managed own managed) entry ≡ true → is_entry_private (source_private to_managed own other) (target_private to_managed own other) entry ≡ true
one_told true own managed other entry k h = by_size (entry.size == 0) h
  where
    by_size : (b : Bool) → (b || (own entry.source entry.size && managed entry.target entry.size)) ≡ true → (b || (own entry.source entry.size && other entry.target entry.size)) ≡ true
    by_size true h = refl
    by_size false h =
        let both = and_parts (own entry.source entry.size) (managed entry.target entry.size) h in and_from (own entry.source entry.size) (other entry.target entry.size) both.0 (k entry.target entry.size both.1)
one_told false own managed other entry k h = by_size (entry.size == 0) h
  where
    by_size : (b : Bool) → (b || (managed entry.source entry.size && own entry.target entry.size)) ≡ true → (b || (other entry.source entry.size && own entry.target entry.size)) ≡ true
    by_size true h = refl
    by_size false h =
        let both = and_parts (managed entry.source entry.size) (own entry.target entry.size) h in and_from (other entry.source entry.size) (own entry.target entry.size) (k entry.source entry.size both.0) both.1

all_own : (to_managed : Bool) (own : List Region) (managed : ℕ → ℕ → Bool) (entries : List SgEntry) → are_entries_private to_managed (is_private_range own) managed entries ≡ true → are_own_private own to_managed entries ≡ true
unfolding are_entries_private
all_own to_managed own managed [] h = refl
all_own to_managed own managed (entry ∷ entries) h =
    let parts = and_parts (is_entry_private (source_private to_managed (is_private_range own) managed) (target_private to_managed (is_private_range own) managed) entry) _ h in
    and_from _ _ (one_own to_managed (is_private_range own) managed entry parts.0) (all_own to_managed own managed entries parts.1)

all_told : (to_managed : Bool) (own managed other : ℕ → ℕ → Bool) (entries : List SgEntry) → ((at size : ℕ) → managed at size ≡ true → other at size ≡ true) → are_entries_private to_managed own managed entries ≡ true
    → are_entries_private to_managed own other entries ≡ true
unfolding are_entries_private
all_told to_managed own managed other [] k h = refl
all_told to_managed own managed other (entry ∷ entries) k h =
    let parts = and_parts (is_entry_private (source_private to_managed own managed) (target_private to_managed own managed) entry) _ h in
    and_from _ _ (one_told to_managed own managed other entry k parts.0) (all_told to_managed own managed other entries k parts.1)

pub copy_fits : (tells : Option (List Region)) (own : List Region) (spans : List Span) (memory : List (List ℕ)) (to_managed : Bool) (entries : List SgEntry) → are_regions_sound own ≡ true → ArePlaced memory own
    → Tells tells own spans memory → are_entries_private to_managed (is_private_range own) (is_in_spans spans) entries ≡ true → CopyFits tells own memory to_managed entries
copy_fits None own spans memory to_managed entries sound placed tells private = ((sound, placed), all_own to_managed own (is_in_spans spans) entries private)
copy_fits (Some regions) own spans memory to_managed entries sound placed tells private =
    (tells.fit, tells.foreign, all_told to_managed (is_private_range own) (is_in_spans spans) (is_private_range regions) entries tells.spanned private)

-- the same of real memory
pub private_so : (desc : Desc) (registers : Registers) (memory : List (List ℕ)) → decide_copy (shape_of desc) registers (own_of (extents_of desc.regions) memory) ≡ Go
    → are_entries_private (is_to_managed registers) (is_private_range desc.regions) (is_in_spans (managed_spans desc.ports (managed_handle registers))) (asked_entries registers (byte_in desc.regions memory)) ≡ true
private_so desc registers memory goes =
    (λ i. are_entries_private (is_to_managed registers) (λ (at size : ℕ). sym (own_private_so desc.regions at size) i) (is_in_spans (managed_spans desc.ports (managed_handle registers))) (sym (entries_so desc registers memory) i))
    ∙ (copy_goes (shape_of desc) registers (own_of (extents_of desc.regions) memory) goes).private

-- ---- a copy that is refused

nothing_put : (regions : List Region) (to_managed : Bool) (bytes : List ℕ) (memory : List (List ℕ)) → all_put regions (cond to_managed [] (pieces_in [] bytes)) memory ≡ memory
nothing_put regions true bytes memory = refl
nothing_put regions false bytes memory = refl

pub refused_memory : (shape : Shape) (registers : Registers) (memory : List (List ℕ)) (status : ℕ) (feed : ℕ → List Span → List ℕ) → decide_copy shape registers memory ≡ Refuse status
    → all_put (own_regions shape.areas) (copied_in (asked_copy shape registers memory) (feed (managed_handle registers) (sources_of (asked_copy shape registers memory).entries))) memory ≡ memory
refused_memory shape registers memory status feed e =
    ap (λ (d : Decision). let entries : List SgEntry = decided_entries d (asked_entries registers (own_byte shape.areas memory)) in all_put (own_regions shape.areas) (cond (is_to_managed registers) [] (pieces_in entries (feed (managed_handle registers) (sources_of entries)))) memory) e
    ∙ nothing_put (own_regions shape.areas) (is_to_managed registers) (feed (managed_handle registers) []) memory

pub refused_served : (shape : Shape) (registers : Registers) (memory : List (List ℕ)) (status : ℕ) → decide_copy shape registers memory ≡ Refuse status
    → copy shape registers memory ≡ record { reply = record { status = status; outs = [] }; act = Nothing }
unfolding copy
refused_served shape registers memory status e =
    ap (λ (d : Decision). decided d (commanding (copy_act (own_regions shape.areas) memory (asked_copy shape registers memory)))) e

pub refused_copy : (shape : Shape) (registers : Registers) (memory : List (List ℕ)) (status : ℕ) → decide_copy shape registers memory ≡ Refuse status → with_total (asked_copy shape registers memory) ≡ None
refused_copy shape registers memory status e =
    ap (λ (d : Decision). let it : Copy = record { handle = managed_handle registers; to_managed = is_to_managed registers; entries = decided_entries d (asked_entries registers (own_byte shape.areas memory)) } in with_total it) e

-- what goes out goes into the spans
pub pieces_lie : (own : ℕ → ℕ → Bool) (spans : List Span) (regions : List Region) (memory : List (List ℕ)) (entries : List SgEntry) → are_entries_private true own (is_in_spans spans) entries ≡ true → LieIn spans (pieces_out regions memory entries)
unfolding are_entries_private
pieces_lie own spans regions memory [] h = refl
pieces_lie own spans regions memory (entry ∷ entries) h =
    let parts = and_parts _ _ h in
    by_size (entry.size == 0) refl parts.0 (pieces_lie own spans regions memory entries parts.1)
  where
    by_size : (b : Bool) → (entry.size == 0) ≡ b → (b || (own entry.source entry.size && is_in_spans spans entry.target entry.size)) ≡ true → LieIn spans (pieces_out regions memory entries)
        → list_all (λ (piece : Piece). nat_lt 0 (length piece.bytes) && is_in_spans spans piece.at (length piece.bytes))
        (map (λ (it : SgEntry). record { at = it.target; bytes = bytes_in regions memory it.source it.size }) (cond (not b) (entry ∷ with_bytes entries) (with_bytes entries)))
        ≡ true
    by_size true none h rest = rest
    by_size false some h rest =
        let long : length (bytes_in regions memory entry.source entry.size) ≡ entry.size = length-map-range_with_len (byte_in regions memory) entry.source entry.size in
        let apart = eqb-false entry.size 0 some in
        and_from _ _
        (and_from _ _ (ap (nat_lt 0) long ∙ lt-ltb 0 entry.size (omega (arith, apart))) (ap (is_in_spans spans entry.target) long ∙ (and_parts (own entry.source entry.size) _ h).1))
        rest

-- ---- what reservations are lost

none_lost : (reserved : Option ℕ) → uncopied_reservation [] reserved ≡ reserved
none_lost None = refl
none_lost (Some granule) = refl

-- a copy that writes nothing leaves the core
pub nothing_copied : (cpu : Cpu) → with_copied [] cpu ≡ cpu
nothing_copied cpu = ap (λ (reserved : Option ℕ). record cpu { registers = with_reserved reserved cpu.registers }) (none_lost cpu.registers.reserved)

-- some element of a list, as those that pass a test are taken over
pub any_taken : {X Y : Type 0} (test : X → Bool) (f : X → Y) (has : Y → Bool) (xs : List X) → list_any has (map f (filter test xs)) ≡ list_any (λ (x : X). test x && has (f x)) xs
any_taken {X = X} test f has [] = refl
any_taken {X = X} test f has (x ∷ xs) = by_test (test x) (any_taken test f has xs)
  where
    by_test : (b : Bool) → list_any has (map f (filter test xs)) ≡ list_any (λ (y : X). test y && has (f y)) xs
        → list_any has (map f (cond b (x ∷ filter test xs) (filter test xs))) ≡ ((b && has (f x)) || list_any (λ (y : X). test y && has (f y)) xs)
    by_test true e = ap (λ (rest : Bool). has (f x) || rest) e
    by_test false e = e

-- a granule that a list writes to
pub any_target : (entries : List SgEntry) (granule : ℕ) → list_any (is_in_entry granule) entries ≡ is_copied_to (targets_of entries) granule
any_target entries granule =
    sym (any_taken (λ (entry : SgEntry). not (entry.size == 0)) (λ (entry : SgEntry). let range : Span = record { at = entry.target; size = entry.size } in range) (λ (range : Span). ranges_meet granule granule_size range.at range.size) entries)

-- a range without bytes has none of a granule
none_met : (granule at size : ℕ) → size ≡ 0 → is_copied_to ((record { at = at; size = size }) ∷ []) granule ≡ false
none_met granule at size none = ap (λ (b : Bool). b || false) (le-ltb (max granule at) (min (granule + granule_size) (at + size)) (omega (arith, none)))

-- one range, as an entry names it
target_kept : (at size source : ℕ) (reserved : Option ℕ) → uncopied_reservation (targets_of ((record { source = source; target = at; size = size }) ∷ [])) reserved ≡ uncopied_reservation ((record { at = at; size = size }) ∷ []) reserved
target_kept at size source None = refl
target_kept at size source (Some granule) = by_size (size == 0) refl
  where
    by_size : (b : Bool) → (size == 0) ≡ b
        → cond (is_copied_to (map (λ (entry : SgEntry). let range : Span = record { at = entry.target; size = entry.size } in range) (cond (not b) ((record { source = source; target = at; size = size }) ∷ []) [])) granule) None (Some granule)
        ≡ cond (is_copied_to ((record { at = at; size = size }) ∷ []) granule) None (Some granule)
    by_size true none = ap (λ (b : Bool). cond b None (Some granule)) (sym (none_met granule at size (eqb-true size 0 none)))
    by_size false some = refl

pub one_target : (at size source : ℕ) (cpu : Cpu) → with_copied (targets_of ((record { source = source; target = at; size = size }) ∷ [])) cpu ≡ with_copied ((record { at = at; size = size }) ∷ []) cpu
one_target at size source cpu = ap (λ (reserved : Option ℕ). record cpu { registers = with_reserved reserved cpu.registers }) (target_kept at size source cpu.registers.reserved)
