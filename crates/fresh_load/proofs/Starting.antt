-- Sound descriptions, before and after they are completed.
use Rattle.std.proofs.Common.{◌≡◌, ℕ, zero, suc, ◌+◌, ◌-◌, ◌*◌, ◌^◌, ◌<◌, ◌≤◌, Bool, true, false, cond, ◌%◌, ◌==◌, nat_lt, nat_le, ◌&&◌, List, [], ◌∷◌, ◌++◌, Option, Some, None, length, map, refl, ap, subst, ◌∙◌, arith}
use Rattle.std.specs.List.{list_all, list_any, range_with_len}
use Rattle.std.proofs.lemmas.Bool.{and_parts, and_from, or_parts, not-false, leb-true, ltb-true, ltb-false}
use Rattle.std.proofs.lemmas.List.Folds.{list_all-append, list_all-map}
use Rattle.std.proofs.lemmas.List.FromFn.{map-range_with_len_more}
use Rattle.machine_desc.specs.declared.desc.Desc.{Desc}
use Rattle.machine_desc.specs.declared.desc.Region.{Region}
use Rattle.machine_desc.specs.Limits.{spin_room, spin_step, spin_size, address_end, mapped_end}
use Rattle.machine_desc.specs.Private.{is_private_address, is_private_range}
use Rattle.machine_desc.specs.Sound.{is_within, are_regions_sound, are_counts_kept, are_numbered, is_start_mapped, spin_at, has_private_spin_entry, are_spin_entries_private, is_private_piece, is_sound, IsSound}
use Rattle.machine_desc.proofs.Parts.{regions_parts}
use Rattle.memory_areas.proofs.Found.{all_at, all_in_range}
use Rattle.memory_areas.proofs.Places.{has_both, private_bytes_are_in_regions}
use Rattle.elf_image.specs.declared.image.Image.{Image}
use Rattle.elf_image.specs.declared.image.PlanPiece.{PlanPiece}
use Rattle.fresh_load.specs.Described.{image_piece, tree_piece, spin_piece, spin_pieces, pieces_of, described, is_not_private, is_bad_entry, is_too_long, is_in_window, spin_bytes, first_fault}

-- what holds of a sound description
pub record HasParts (desc : Desc) : Type 0 where
  pub regions : are_regions_sound desc.regions ≡ true
  pub counts : are_counts_kept desc ≡ true
  pub numbered : are_numbered desc.ports ≡ true
  pub start : is_start_mapped desc ≡ true
  pub spins : are_spin_entries_private desc ≡ true
  pub pieces : list_all (is_private_piece desc.regions) desc.pieces ≡ true

pub sound_parts : (desc : Desc) → IsSound desc → HasParts desc
unfolding is_sound
sound_parts desc h =
    let five = and_parts _ (list_all (is_private_piece desc.regions) desc.pieces) h in
    let four = and_parts _ (are_spin_entries_private desc) five.0 in
    let three = and_parts _ (is_start_mapped desc) four.0 in
    let two = and_parts _ (are_numbered desc.ports) three.0 in
    let one = and_parts (are_regions_sound desc.regions) (are_counts_kept desc) two.0 in
    record { regions = one.0; counts = one.1; numbered = two.1; start = three.1; spins = four.1; pieces = five.1 }

pub few_cores : (desc : Desc) → IsSound desc → length desc.cores ≤ 8
unfolding are_counts_kept
few_cores desc h = leb-true (length desc.cores) 8 (and_parts _ _ (sound_parts desc h).counts).1

pub some_core : (desc : Desc) → IsSound desc → 1 ≤ length desc.cores
unfolding are_counts_kept
some_core desc h = leb-true 1 (length desc.cores) (and_parts _ _ (and_parts _ _ (sound_parts desc h).counts).0).1

-- ---- spin entries

-- the address of a private byte is below the end of all addresses
private_below : (regions : List Region) (at size : ℕ) → are_regions_sound regions ≡ true → is_private_range regions at size ≡ true → 0 < size → at < address_end
private_below regions at size sound h some =
    let held = private_bytes_are_in_regions regions at size 0 h some in
    let has = has_both (at + 0) held.1 held.2.has in
    let within : is_within held.1 ≡ true = all_at is_within regions held.0 held.1 (regions_parts regions sound).within held.2.there in
    let end : held.1.logical + held.1.size ≤ address_end = leb-true _ _ (and_parts _ _ within).0 in
    let last : at + 0 < held.1.logical + held.1.size = has.1 in
    omega arith

pub spin_room_there : (desc : Desc) (core : ℕ) → IsSound desc → 1 ≤ core → core < length desc.cores
    → (spin_room ≤ desc.tree_at + desc.tree_size + spin_step * core) × (spin_at desc core < 2 ^ 64)
unfolding are_spin_entries_private has_private_spin_entry
spin_room_there desc core sound low high =
    let parts = sound_parts desc sound in
    let same : 1 + (core - 1) ≡ core = omega arith in
    let its = subst (λ (n : ℕ). has_private_spin_entry desc n ≡ true) same (all_in_range (has_private_spin_entry desc) (length desc.cores - 1) 1 (core - 1) parts.spins (omega arith)) in
    let both : (nat_le spin_room (desc.tree_at + desc.tree_size + spin_step * core) ≡ true) × (is_private_range desc.regions (spin_at desc core) spin_size ≡ true) = and_parts _ _ its in
    let below : spin_at desc core < address_end = private_below desc.regions (spin_at desc core) spin_size parts.regions both.1 (omega arith) in
    (leb-true _ _ both.0, omega arith)

-- one more spin entry
pub spins_more : (base : Desc) (core : ℕ) → 1 ≤ core → map (spin_piece base) (range_with_len 1 (core + 1 - 1)) ≡ map (spin_piece base) (range_with_len 1 (core - 1)) ++ spin_piece base core ∷ []
spins_more base core low =
    let same : core + 1 - 1 ≡ (core - 1) + 1 = omega arith in
    ap (λ (count : ℕ). map (spin_piece base) (range_with_len 1 count)) same ∙ map-range_with_len_more (spin_piece base) 1 (core - 1) core (omega arith)

-- ---- completed descriptions

four_kept : (a b c d : Bool) → cond {A = Option ℕ} a (Some 4) (cond b (Some 5) (cond c (Some 6) (cond d (Some 7) None))) ≡ None → (a ≡ false) × (b ≡ false) × (c ≡ false) × (d ≡ false)
four_kept true b c d h = absurd cc
four_kept false true c d h = absurd cc
four_kept false false true d h = absurd cc
four_kept false false false true h = absurd cc
four_kept false false false false h = (refl, refl, refl, refl)

all_private : (regions : List Region) (plan : List PlanPiece) → list_any (is_not_private regions) plan ≡ false
    → list_all (λ (piece : PlanPiece). is_private_range regions piece.at piece.total) plan ≡ true
all_private regions [] h = refl
all_private regions (piece ∷ plan) h =
    let parts = or_parts (is_not_private regions piece) (list_any (is_not_private regions) plan) h in
    and_from _ _ (not-false _ parts.0) (all_private regions plan parts.1)

-- the front of a range passes where the range does
front_passes : (test : ℕ → Bool) (at count size : ℕ) → count ≤ size → list_all test (range_with_len at size) ≡ true → list_all test (range_with_len at count) ≡ true
front_passes test at zero size few h = refl
front_passes test at (suc count) zero few h = absurd (omega arith)
front_passes test at (suc count) (suc size) few h =
    let parts = and_parts _ _ h in
    and_from _ _ parts.0 (front_passes test (at + 1) count size (omega arith) parts.1)

front_private : (regions : List Region) (at count size : ℕ) → count ≤ size → is_private_range regions at size ≡ true → is_private_range regions at count ≡ true
unfolding is_private_range
front_private regions at count size few h = front_passes (is_private_address regions) at count size few h

latter_pass : {X : Type 0} (one other : X → Bool) (xs : List X) → list_all (λ x. one x && other x) xs ≡ true → list_all other xs ≡ true
latter_pass one other [] h = refl
latter_pass one other (x ∷ xs) h =
    let parts = and_parts _ _ h in
    and_from _ _ (and_parts _ _ parts.0).1 (latter_pass one other xs parts.1)

spins_private : (base : Desc) → are_spin_entries_private base ≡ true → list_all (is_private_piece base.regions) (spin_pieces base) ≡ true
unfolding are_spin_entries_private has_private_spin_entry spin_pieces
spins_private base h =
    list_all-map (is_private_piece base.regions) (spin_piece base) (range_with_len 1 (length base.cores - 1))
    ∙ latter_pass _ (λ (core : ℕ). is_private_range base.regions (spin_at base core) spin_size) (range_with_len 1 (length base.cores - 1)) h

pieces_private : (base : Desc) (file : List ℕ) (plan : List PlanPiece) (tree : List ℕ) → list_any (is_not_private base.regions) plan ≡ false → length tree ≤ base.tree_size
    → is_private_range base.regions base.tree_at base.tree_size ≡ true → are_spin_entries_private base ≡ true → list_all (is_private_piece base.regions) (pieces_of base file plan tree) ≡ true
unfolding pieces_of
pieces_private base file plan tree image short window spins =
    list_all-append (is_private_piece base.regions) (map (image_piece file) plan) (tree_piece base tree ∷ spin_pieces base)
    ∙ and_from _ _
    (list_all-map (is_private_piece base.regions) (image_piece file) plan ∙ all_private base.regions plan image)
    (and_from _ _ (front_private base.regions base.tree_at (length tree) base.tree_size short window) (spins_private base spins))

entry_parts : (regions : List Region) (entry : ℕ) → is_bad_entry regions entry ≡ false → (entry % 4 == 0 ≡ true) × (nat_lt entry mapped_end ≡ true)
entry_parts regions entry h =
    let whole : (entry % 4 == 0 && nat_lt entry mapped_end && is_private_range regions entry 1) ≡ true = not-false _ h in
    let front = and_parts (entry % 4 == 0 && nat_lt entry mapped_end) (is_private_range regions entry 1) whole in
    and_parts (entry % 4 == 0) (nat_lt entry mapped_end) front.0

tree_mapped : (desc : Desc) → IsSound desc → nat_lt desc.tree_at mapped_end ≡ true
unfolding is_start_mapped
tree_mapped desc h =
    let front = and_parts (nat_lt desc.tree_at mapped_end && nat_lt desc.entry mapped_end) (desc.entry % 4 == 0) (sound_parts desc h).start in
    (and_parts (nat_lt desc.tree_at mapped_end) (nat_lt desc.entry mapped_end) front.0).0

-- an entry that isn't refused is a number of 32 bits
pub entry_small : (base : Desc) (image : Image) (tree : List ℕ) → first_fault base image tree ≡ None → image.entry < 2 ^ 32
unfolding first_fault
entry_small base image tree kept =
    let four = four_kept (list_any (is_not_private base.regions) image.pieces) (is_bad_entry base.regions image.entry) (is_too_long base tree) (list_any (is_in_window base) image.pieces) kept in
    let below : image.entry < mapped_end = ltb-true image.entry mapped_end (entry_parts base.regions image.entry four.1).1 in
    omega arith

-- a completed description is sound where its base is and its window is private
pub startable : (base : Desc) (file : List ℕ) (image : Image) (tree : List ℕ) → IsSound base → first_fault base image tree ≡ None
    → is_private_range base.regions base.tree_at base.tree_size ≡ true → IsSound (described base file image tree)
unfolding is_sound described are_counts_kept is_start_mapped are_spin_entries_private has_private_spin_entry first_fault
startable base file image tree sound kept window =
    let parts = sound_parts base sound in
    let four = four_kept (list_any (is_not_private base.regions) image.pieces) (is_bad_entry base.regions image.entry) (is_too_long base tree) (list_any (is_in_window base) image.pieces) kept in
    let short : length tree + spin_bytes base ≤ base.tree_size = ltb-false _ _ four.2 in
    let pieces = pieces_private base file image.pieces tree four.0 (omega arith) window parts.spins in
    let entry = entry_parts base.regions image.entry four.1 in
    let start : is_start_mapped (described base file image tree) ≡ true = and_from (nat_lt base.tree_at mapped_end && nat_lt image.entry mapped_end) (image.entry % 4 == 0)
    (and_from (nat_lt base.tree_at mapped_end) (nat_lt image.entry mapped_end) (tree_mapped base sound) entry.1) entry.0 in
    and_from _ _ (and_from _ _ (and_from _ _ (and_from _ _ (and_from _ _ parts.regions parts.counts) parts.numbered)
    start) parts.spins) pieces
