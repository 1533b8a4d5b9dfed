-- The bytes of a machine's own memory by logical addresses are those of real memory.
use Rattle.std.proofs.Common.{◌≡◌, ℕ, ◌+◌, ◌-◌, ◌&&◌, ◌||◌, nat_lt, Bool, true, false, cond, List, [], ◌∷◌, ◌++◌, length, map, Some, refl, sym, ap, ◌∙◌}
use Rattle.std.specs.List.{list_all, range_with_len}
use Rattle.std.specs.Prelude.{slice_index, nat_le, find}
use Rattle.std.specs.Option.{option_map, option_map_or}
use Rattle.std.proofs.Math.Seq.{get_or-append_seam}
use Rattle.std.proofs.lemmas.List.{append_assoc, length_push}
use Rattle.guest_regs.specs.Registers.{Registers}
use Rattle.ground.specs.Extents.{extent_at}
use Rattle.ground.specs.Own.{own_of}
use Rattle.machine_desc.specs.declared.desc.Desc.{Desc}
use Rattle.machine_desc.specs.declared.desc.Region.{Region}
use Rattle.machine_desc.specs.Private.{is_private_address, is_private_range}
use Rattle.memory_areas.specs.Place.{has_address, place_of, place_in}
use Rattle.fresh_load.specs.Placed.{extents_of}
use Rattle.partition_manager.specs.declared.decision.Decision.{Decision}
use Rattle.copy_lists.specs.declared.list.SgEntry.{SgEntry}
use Rattle.copy_lists.specs.Lists.{managed_handle, managed_spans, asked_entries, decided_entries, copy_decision}
use Rattle.copy_lists.specs.Spans.{is_in_spans}
use Rattle.copy_lists.specs.Moving.{byte_of, byte_in}
use Rattle.copy_lists.specs.Pieces.{Piece, with_bytes, pieces_out}
use Rattle.partition.specs.Regions.{areas_of}
use Rattle.partition.specs.Machine.{shape_of}
use Rattle.partition.specs.Copying.{numbered, own_regions, own_byte, decide_copy}

-- the byte of the first region that has the address
abbrev byte_among : List (List ℕ) → ℕ → List Region → ℕ
byte_among memory at regions = option_map_or (byte_of memory) (option_map (place_of at) (find (has_address at) regions)) 0

-- with the regions' own bytes behind others
byte_behind : (at place : ℕ) (regions : List Region) (front memory : List (List ℕ)) → length front ≡ place
    → byte_among (front ++ own_of (extents_of regions) memory) at (numbered place (areas_of regions)) ≡ byte_among memory at regions
byte_behind at place [] front memory long = refl
byte_behind at place (region ∷ regions) front memory long =
    let bytes : List ℕ = extent_at memory region.extent in
    let rest : List (List ℕ) = own_of (extents_of regions) memory in
    let here : extent_at (front ++ bytes ∷ rest) place ≡ bytes = ap (extent_at (front ++ bytes ∷ rest)) (sym long) ∙ get_or-append_seam front bytes rest [] in
    let moved : front ++ bytes ∷ rest ≡ (front ++ bytes ∷ []) ++ rest = sym (append_assoc front (bytes ∷ []) rest) in
    let behind = byte_behind at (place + 1) regions (front ++ bytes ∷ []) memory (length_push front bytes ∙ ap (λ (n : ℕ). n + 1) long) in
    by_test (has_address at region) here (ap (λ (all : List (List ℕ)). byte_among all at (numbered (place + 1) (areas_of regions))) moved ∙ behind)
  where
    by_test : (b : Bool) → extent_at (front ++ extent_at memory region.extent ∷ own_of (extents_of regions) memory) place ≡ extent_at memory region.extent
        → byte_among (front ++ extent_at memory region.extent ∷ own_of (extents_of regions) memory) at (numbered (place + 1) (areas_of regions)) ≡ byte_among memory at regions
        → option_map_or (byte_of (front ++ extent_at memory region.extent ∷ own_of (extents_of regions) memory)) (option_map (place_of at) (cond b (Some (record { logical = region.logical; size = region.size; extent = place; real = 0; private = region.private })) (find (has_address at) (numbered (place + 1) (areas_of regions))))) 0
        ≡ option_map_or (byte_of memory) (option_map (place_of at) (cond b (Some region) (find (has_address at) regions))) 0
    by_test true here rest = ap (λ (bytes : List ℕ). slice_index bytes (at - region.logical)) here
    by_test false here rest = rest

pub own_byte_so : (regions : List Region) (memory : List (List ℕ)) (at : ℕ) → own_byte (areas_of regions) (own_of (extents_of regions) memory) at ≡ byte_in regions memory at
unfolding byte_in place_in
own_byte_so regions memory at = byte_behind at 0 regions [] memory refl

-- what is private doesn't depend on extents
private_alike : (address place : ℕ) (regions : List Region) → is_private_address (numbered place (areas_of regions)) address ≡ is_private_address regions address
private_alike address place [] = refl
private_alike address place (region ∷ regions) =
    ap (λ (b : Bool). (region.private && nat_le region.logical address && nat_lt address (region.logical + region.size)) || b) (private_alike address (place + 1) regions)

pub own_private_so : (regions : List Region) (at size : ℕ) → is_private_range (own_regions (areas_of regions)) at size ≡ is_private_range regions at size
unfolding is_private_range
own_private_so regions at size = λ i. list_all (λ (address : ℕ). private_alike address 0 regions i) (range_with_len at size)

-- ---- a copy is decided alike

pub decided_so : (desc : Desc) (registers : Registers) (memory : List (List ℕ)) → decide_copy (shape_of desc) registers (own_of (extents_of desc.regions) memory)
    ≡ copy_decision desc.ports registers (is_private_range desc.regions) (is_in_spans (managed_spans desc.ports (managed_handle registers))) (byte_in desc.regions memory)
decided_so desc registers memory = λ i. copy_decision desc.ports registers (λ (at size : ℕ). own_private_so desc.regions at size i) (is_in_spans (managed_spans desc.ports (managed_handle registers))) (λ (at : ℕ). own_byte_so desc.regions memory at i)

pub entries_so : (desc : Desc) (registers : Registers) (memory : List (List ℕ)) → asked_entries registers (own_byte (areas_of desc.regions) (own_of (extents_of desc.regions) memory)) ≡ asked_entries registers (byte_in desc.regions memory)
entries_so desc registers memory = λ i. asked_entries registers (λ (at : ℕ). own_byte_so desc.regions memory at i)

-- and leaves the same list
pub listed_so : (desc : Desc) (registers : Registers) (memory : List (List ℕ)) (list : List SgEntry) (decision : Decision)
    → decision ≡ copy_decision desc.ports registers (is_private_range desc.regions) (is_in_spans (managed_spans desc.ports (managed_handle registers))) (byte_in desc.regions memory)
    → list ≡ decided_entries decision (asked_entries registers (byte_in desc.regions memory))
    → list ≡ decided_entries (decide_copy (shape_of desc) registers (own_of (extents_of desc.regions) memory)) (asked_entries registers (own_byte (areas_of desc.regions) (own_of (extents_of desc.regions) memory)))
listed_so desc registers memory list decision is listed =
    listed ∙ ap (λ (d : Decision). decided_entries d (asked_entries registers (byte_in desc.regions memory))) (is ∙ sym (decided_so desc registers memory))
    ∙ ap (decided_entries (decide_copy (shape_of desc) registers (own_of (extents_of desc.regions) memory))) (sym (entries_so desc registers memory))

pub pieces_so : (regions : List Region) (memory : List (List ℕ)) (entries : List SgEntry) → pieces_out (own_regions (areas_of regions)) (own_of (extents_of regions) memory) entries ≡ pieces_out regions memory entries
pieces_so regions memory entries =
    λ i. map (λ (entry : SgEntry). let piece : Piece = record { at = entry.target; bytes = map (λ (at : ℕ). own_byte_so regions memory at i) (range_with_len entry.source entry.size) } in piece) (with_bytes entries)

-- where the regions' bytes are the same, so are those of addresses
pub pieces_stay : (regions : List Region) (one other : List (List ℕ)) (entries : List SgEntry) → own_of (extents_of regions) one ≡ own_of (extents_of regions) other → pieces_out regions one entries ≡ pieces_out regions other entries
pieces_stay regions one other entries same =
    sym (pieces_so regions one entries) ∙ ap (λ (own : List (List ℕ)). pieces_out (own_regions (areas_of regions)) own entries) same ∙ pieces_so regions other entries
