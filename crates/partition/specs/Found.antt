-- What a core finds at an effective address: one translation, and one region (Power ISA 2.06, Book III-E, chapter 6).
use Rattle.std.specs.Prelude.{ℕ, ◌+◌, ◌-◌, ◌%◌, ◌==◌, Bool, List, Option, Some, None}
use Rattle.mas.specs.declared.entry.Entry.{Entry}
use Rattle.guest_tlb.specs.Slots.{lookup_of}
use Rattle.core_step.specs.declared.look.Page.{Page}
use Rattle.core_step.specs.Pages.{Lookup}
use Rattle.core_step.specs.Laws.{page_in}
use Rattle.ground.specs.Own.{name_of}
use Rattle.partition.specs.declared.found.Found.{Found}
use Rattle.partition.specs.declared.found.Found.TheVariants.{Missing, Unbacked, Backed}
use Rattle.partition.specs.Regions.{Area, area_at, area_with}

-- the first byte of the 4 KiB block that an effective address lies in
abbrev pub block_of : ℕ → ℕ
block_of ea = ea - ea % 4096

-- the logical address that a translation leads it to
abbrev pub logical_of : Entry → ℕ → ℕ
logical_of entry ea = entry.rpn + (block_of ea - entry.epn)

-- That block of a translation, in the region at this place: a region is the extent of the machine's own memory with its number.
-- E is the last of W, I, M, G, E.
abbrev pub block : List Area → Entry → ℕ → ℕ → Page
block areas entry ea place = record {
  ea = block_of ea;
  tsize = 1;
  perms = entry.perms;
  little = entry.wimge % 2 == 1;
  extent = place;
  at = logical_of entry ea - (area_at areas place).logical;
  logical = logical_of entry ea;
}

abbrev pub in_region : List Area → Entry → ℕ → Option ℕ → Found
in_region areas entry ea None = Unbacked
in_region areas entry ea (Some place) = Backed (block areas entry ea place)

abbrev pub translated : List Area → Option Entry → ℕ → Found
translated areas None ea = Missing
translated areas (Some entry) ea = in_region areas entry ea (area_with areas (logical_of entry ea))

-- By the live translation that matches, of which there is at most one: nothing, no region, or the block.
unfoldable pub found : List Area → List Entry → Bool → ℕ → ℕ → Found
found areas translations space pid ea = translated areas (lookup_of space pid ea translations) ea

abbrev pub page_of : Found → Option Page
page_of (Backed page) = Some page
page_of _ = None

-- what an instruction sees of it
abbrev pub lookup : List Area → List Entry → Lookup
lookup areas translations space pid ea = page_of (found areas translations space pid ea)

-- the same block, in the extent of real memory that is the region's
abbrev pub found_in : List ℕ → Found → Found
found_in names Missing = Missing
found_in names Unbacked = Unbacked
found_in names (Backed page) = Backed (record page { extent = name_of names page.extent })

-- what an instruction over real memory sees
abbrev pub lookup_in : List ℕ → List Area → List Entry → Lookup
lookup_in names areas translations space pid ea = page_in names (lookup areas translations space pid ea)
