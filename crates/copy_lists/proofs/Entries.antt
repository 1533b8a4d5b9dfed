-- Entries copied one after another.
use Rattle.std.proofs.Common.{◌≡◌, ℕ, ◌+◌, true, false, ◌||◌, ◌&&◌, ◌==◌, List, drop, Some, refl, sym, ap, ◌∙◌}
use Rattle.std.proofs.lemmas.Bool.{and_parts, eqb-true}
use Rattle.std.specs.List.{slice_get}
use Rattle.std.proofs.lemmas.Option.{slice_get_within, get_or_from_slice_get}
use Rattle.std.proofs.lemmas.List.{at_drop_more}
use Rattle.machine_desc.specs.declared.desc.Region.{Region}
use Rattle.machine_desc.specs.Private.{is_private_range}
use Rattle.memory_areas.proofs.Found.{all_at}
use Rattle.ground.specs.Extents.{extent_at}
use Rattle.fresh_load.specs.Placed.{is_private_extent, sizes_of}
use Rattle.copy_lists.specs.declared.list.SgEntry.{SgEntry}
use Rattle.copy_lists.specs.Lists.{is_entry_private}
use Rattle.copy_lists.specs.Moving.{bytes_in, entry_copied, copied, AreCopiable}
use Rattle.copy_lists.proofs.Putting.{put_sizes, put_others}

-- a range without bytes is private
pub none_private : (regions : List Region) (at size : ℕ) → size ≡ 0 → is_private_range regions at size ≡ true
unfolding is_private_range
none_private regions at size none = rw none refl

-- both ranges of an entry are private
pub both_private : (from to : List Region) (entry : SgEntry) → is_entry_private (is_private_range from) (is_private_range to) entry ≡ true
    → (is_private_range from entry.source entry.size ≡ true) × (is_private_range to entry.target entry.size ≡ true)
both_private from to entry h =
    elim (entry.size == 0) as (λ b. (entry.size == 0) ≡ b → (b || (is_private_range from entry.source entry.size && is_private_range to entry.target entry.size)) ≡ true
    → (is_private_range from entry.source entry.size ≡ true) × (is_private_range to entry.target entry.size ≡ true)) [
      | true ↦ λ t h. let none : entry.size ≡ 0 = eqb-true entry.size 0 t in (none_private from entry.source entry.size none, none_private to entry.target entry.size none)
      | false ↦ λ t h. and_parts _ _ h
    ] refl h

pub entry_private : (from to : List Region) (entries : List SgEntry) (i : ℕ) (entry : SgEntry) → AreCopiable from to entries → slice_get entries i ≡ Some entry
    → (is_private_range from entry.source entry.size ≡ true) × (is_private_range to entry.target entry.size ≡ true)
entry_private from to entries i entry h at = both_private from to entry (all_at (is_entry_private (is_private_range from) (is_private_range to)) entries i entry h at)

-- the next entry
pub next_copied : (from to : List Region) (entries : List SgEntry) (memory after : List (List ℕ)) (i : ℕ) (entry : SgEntry) → slice_get entries i ≡ Some entry
    → after ≡ entry_copied from to memory entry → copied from to (drop (i + 1) entries) after ≡ copied from to (drop i entries) memory
next_copied from to entries memory after i entry at e =
    ap (copied from to (drop (i + 1) entries)) (e ∙ ap (entry_copied from to memory) (sym (get_or_from_slice_get entries i entry entry at)))
    ∙ sym (at_drop_more (λ (left : List SgEntry). copied from to left memory) entries i entry (slice_get_within entries i entry at))

pub next_sizes : (from to : List Region) (memory after : List (List ℕ)) (entry : SgEntry) → after ≡ entry_copied from to memory entry → sizes_of after ≡ sizes_of memory
next_sizes from to memory after entry e = ap sizes_of e ∙ put_sizes to memory entry.target (bytes_in from memory entry.source entry.size)

pub next_others : (from to : List Region) (memory after : List (List ℕ)) (entry : SgEntry) (extent : ℕ) → after ≡ entry_copied from to memory entry → is_private_extent to extent ≡ false
    → extent_at after extent ≡ extent_at memory extent
next_others from to memory after entry extent e h =
    ap (λ (all : List (List ℕ)). extent_at all extent) e ∙ put_others to memory entry.target (bytes_in from memory entry.source entry.size) extent h
