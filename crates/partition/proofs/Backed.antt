-- The blocks that a core finds have memory behind them.
use Rattle.std.proofs.Common.{◌≡◌, ℕ, ◌+◌, ◌-◌, ◌%◌, ◌<◌, ◌≤◌, ◌^◌, Bool, true, ◌&&◌, nat_lt, nat_le, List, [], length, map, slice_index_or, IfSome, Option, Some, None, refl, sym, ap, ◌∙◌, arith}
use Rattle.std.proofs.lemmas.List.{length-map}
use Rattle.std.proofs.lemmas.List.Quantifiers.{position-Some}
use Rattle.std.proofs.lemmas.Grind.{common_steps}
use Rattle.std.proofs.Math.ListN.{get_or-map}
use Rattle.mas.specs.declared.entry.Entry.{Entry}
use Rattle.guest_tlb.specs.Translation.{IsMatch}
use Rattle.guest_tlb.specs.Slots.{lookup_of}
use Rattle.guest_tlb.specs.Kept.{AreKept}
use Rattle.guest_tlb.proofs.Found.{lookup_matches}
use Rattle.machine_desc.specs.declared.desc.Desc.{Desc}
use Rattle.machine_desc.specs.Sound.{IsSound}
use Rattle.fresh_load.specs.Placed.{ArePlaced, extents_of}
use Rattle.ground.specs.Extents.{extent_at}
use Rattle.ground.specs.Own.{own_of}
use Rattle.core_step.specs.Pages.{AreBacked, IsBacked}
use Rattle.core_step.specs.Laws.{IsNamed}
use Rattle.core_step.proofs.Own.{stays_backed}
use Rattle.partition.specs.Regions.{Area, covers, area_at, area_with, areas_of, blank}
use Rattle.partition.specs.Found.{block, block_of, logical_of, in_region, translated, page_of, found, lookup, lookup_in}
use Rattle.partition.proofs.Areas.{AreWhole, sound_whole, placed_extents, placed_sizes, count}

-- a region that is found exists and has the address
record IsRegion (areas : List Area) (logical k : ℕ) : Type 0 where
  exists : k < length areas
  begins : (area_at areas k).logical ≤ logical
  ends : logical - (area_at areas k).logical < (area_at areas k).size

both : (a b c d : ℕ) → nat_le a b && nat_lt c d ≡ true → (a ≤ b) × (c < d)
both a b c d e = grind (arith, common_steps)

of_found : (areas : List Area) (logical : ℕ) (found : Option ℕ) → area_with areas logical ≡ found → IfSome found (IsRegion areas logical)
of_found areas logical None e = tt
of_found areas logical (Some k) e =
    let is = position-Some (covers logical) areas k blank e in
    let holds = both (area_at areas k).logical logical (logical - (area_at areas k).logical) (area_at areas k).size is.1 in
    record { exists = is.0; begins = holds.0; ends = holds.1 }

-- a block that begins in a region of whole pages, at a multiple of 4 KiB, ends there
block_ends : (logical start size : ℕ) → logical % 4096 ≡ 0 → start % 4096 ≡ 0 → size % 4096 ≡ 0 → start ≤ logical → logical - start < size → logical - start + 4096 ≤ size
block_ends logical start size a b c h l = omega (arith, a, b, c, h, l)

whole_logical : (start epn rpn : ℕ) → start % 4096 ≡ 0 → epn % 2 ^ 12 ≡ 0 → rpn % 2 ^ 12 ≡ 0 → epn ≤ start → (rpn + (start - epn)) % 4096 ≡ 0
whole_logical start epn rpn a b c h = omega (arith, a, b, c, h)

begins_before : (ea epn : ℕ) → epn % 2 ^ 12 ≡ 0 → epn ≤ ea → epn ≤ block_of ea
begins_before ea epn h le = omega (arith, h, le)

-- the size of a region's bytes
size_of : (memory : List (List ℕ)) (areas : List Area) (k : ℕ) → map length memory ≡ map (λ (area : Area). area.size) areas → length (extent_at memory k) ≡ (area_at areas k).size
size_of memory areas k e =
    sym (get_or-map length memory k []) ∙ ap (λ (sizes : List ℕ). slice_index_or sizes k 0) e ∙ get_or-map (λ (area : Area). area.size) areas k blank

block_backed : (areas : List Area) (memory : List (List ℕ)) (space : Bool) (pid ea : ℕ) (entry : Entry) (k : ℕ) → AreWhole areas → map length memory ≡ map (λ (area : Area). area.size) areas
    → IsMatch space pid ea entry → IsRegion areas (logical_of entry ea) k → IsBacked memory ea (block areas entry ea k)
block_backed areas memory space pid ea entry k whole e match is =
    let fits = match.sound.fits in
    let begins : entry.epn ≤ block_of ea = begins_before ea entry.epn fits.epn_whole match.begins in
    let start : block_of ea % 4096 ≡ 0 = omega arith in
    let logical : logical_of entry ea % 4096 ≡ 0 = whole_logical (block_of ea) entry.epn entry.rpn start fits.epn_whole fits.rpn_whole begins in
    let region = whole k is.exists in
    let ends : logical_of entry ea - (area_at areas k).logical + 4096 ≤ (area_at areas k).size =
    block_ends (logical_of entry ea) (area_at areas k).logical (area_at areas k).size logical region.logical region.size is.begins is.ends in
    let size : length (extent_at memory k) ≡ (area_at areas k).size = size_of memory areas k e in
    let count : length memory ≡ length areas = sym (length-map memory length) ∙ ap length e ∙ length-map areas (λ (area : Area). area.size) in
    record {
      some_size = omega arith;
      most_size = omega arith;
      aligned = start;
      begins = omega arith;
      ends = omega arith;
      logical_end = omega (arith, ends, is.begins, region.end);
      exists = omega (arith, is.exists, count);
      within = omega (arith, ends, size);
    }

by_region : (areas : List Area) (memory : List (List ℕ)) (space : Bool) (pid ea : ℕ) (entry : Entry) (k : Option ℕ) → AreWhole areas → map length memory ≡ map (λ (area : Area). area.size) areas
    → IsMatch space pid ea entry → IfSome k (IsRegion areas (logical_of entry ea)) → IfSome (page_of (in_region areas entry ea k)) (IsBacked memory ea)
by_region areas memory space pid ea entry None whole e match is = tt
by_region areas memory space pid ea entry (Some k) whole e match is = block_backed areas memory space pid ea entry k whole e match is

by_translation : (areas : List Area) (memory : List (List ℕ)) (space : Bool) (pid ea : ℕ) (entry : Option Entry) → AreWhole areas → map length memory ≡ map (λ (area : Area). area.size) areas
    → IfSome entry (IsMatch space pid ea) → IfSome (page_of (translated areas entry ea)) (IsBacked memory ea)
by_translation areas memory space pid ea None whole e match = tt
by_translation areas memory space pid ea (Some entry) whole e match =
    by_region areas memory space pid ea entry (area_with areas (logical_of entry ea)) whole e match (of_found areas (logical_of entry ea) _ refl)

blocks_backed : (areas : List Area) (memory : List (List ℕ)) (slots : List Entry) → AreWhole areas → map length memory ≡ map (λ (area : Area). area.size) areas → AreKept slots → AreBacked memory (lookup areas slots)
unfolding found
blocks_backed areas memory slots whole e kept space pid ea =
    by_translation areas memory space pid ea (lookup_of space pid ea slots) whole e (lookup_matches space pid ea slots kept)

-- ---- each page has a region

known_area : (names : List ℕ) (areas : List Area) (entry : Entry) (ea : ℕ) (k : Option ℕ) → length names ≡ length areas → IfSome k (IsRegion areas (logical_of entry ea)) → IfSome (page_of (in_region areas entry ea k)) (λ page. page.extent < length names)
known_area names areas entry ea None count is = tt
known_area names areas entry ea (Some k) count is = omega (arith, is.exists, count)

known_page : (names : List ℕ) (areas : List Area) (entry : Option Entry) (ea : ℕ) → length names ≡ length areas → IfSome (page_of (translated areas entry ea)) (λ page. page.extent < length names)
known_page names areas None ea count = tt
known_page names areas (Some entry) ea count = known_area names areas entry ea (area_with areas (logical_of entry ea)) count (of_found areas (logical_of entry ea) _ refl)

-- the pages of real memory are those of the machine, in the extents of its regions
pub pages_named : (names : List ℕ) (areas : List Area) (slots : List Entry) → length names ≡ length areas → IsNamed names (lookup areas slots) (lookup_in names areas slots)
unfolding found
pages_named names areas slots count = record { known = λ space pid ea. known_page names areas (lookup_of space pid ea slots) ea count; same = λ space pid ea. refl }

pub backed : (desc : Desc) (memory : List (List ℕ)) (slots : List Entry) → IsSound desc → ArePlaced memory desc.regions → AreKept slots
    → AreBacked memory (lookup_in (extents_of desc.regions) (areas_of desc.regions) slots)
backed desc memory slots sound placed kept =
    stays_backed (extents_of desc.regions) memory (lookup (areas_of desc.regions) slots) _ (placed_extents desc memory sound placed) (pages_named (extents_of desc.regions) (areas_of desc.regions) slots (count desc.regions))
    (blocks_backed (areas_of desc.regions) (own_of (extents_of desc.regions) memory) slots (sound_whole desc sound) (placed_sizes desc memory placed) kept)
