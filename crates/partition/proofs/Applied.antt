-- A partition into whose memory a manager wrote.
use Rattle.std.proofs.Common.{◌≡◌, ℕ, false, List, [], ◌∷◌, length, map, ap, ◌∙◌}
use Rattle.ground.specs.Extents.{extent_at}
use Rattle.ground.specs.Own.{own_of}
use Rattle.machine_desc.specs.declared.desc.Region.{Region}
use Rattle.machine_desc.specs.Sound.{IsSound}
use Rattle.machine_desc.proofs.Parts.{sound_regions}
use Rattle.fresh_load.specs.Placed.{ArePlaced, extents_of, is_private_extent, sizes_of}
use Rattle.fresh_load.proofs.Places.{all_still_placed}
use Rattle.copy_lists.specs.Moving.{put}
use Rattle.copy_lists.specs.Pieces.{all_put}
use Rattle.copy_lists.proofs.Putting.{put_sizes, put_others}
use Rattle.partition.specs.Port.{End}
use Rattle.partition.specs.Regions.{areas_of}
use Rattle.partition.specs.Copying.{own_regions}
use Rattle.partition.specs.Event.{CopyIn, apply}
use Rattle.partition.specs.Reservations.{with_copied}
use Rattle.partition.specs.Lending.{Part, machine_of}
use Rattle.partition.proofs.OwnPut.{one_put_so}

-- the machine that was written into
pub copied_machine : (old new : Part) (before after : List (List ℕ)) (ends : List End) (at : ℕ) (bytes : List ℕ) → IsSound old.desc
    → new ≡ record old { inner = record old.inner { cores = map (with_copied ((record { at = at; size = length bytes }) ∷ [])) old.inner.cores } } → after ≡ put old.desc.regions before at bytes
    → machine_of new ends after ≡ apply old.desc (machine_of old ends before) (CopyIn (record { at = at; bytes = bytes }))
unfolding apply
copied_machine old new before after ends at bytes sound e written =
    let inner : new.inner ≡ record old.inner { cores = map (with_copied ((record { at = at; size = length bytes }) ∷ [])) old.inner.cores } = ap (λ (p : Part). p.inner) e in
    let own : own_of (extents_of new.desc.regions) after ≡ all_put (own_regions (areas_of old.desc.regions)) ((record { at = at; bytes = bytes }) ∷ []) (own_of (extents_of old.desc.regions) before) =
    ap (λ (p : Part). own_of (extents_of p.desc.regions) after) e
    ∙ (ap (own_of (extents_of old.desc.regions)) written ∙ one_put_so old.desc.regions before at bytes (sound_regions old.desc sound)) in
    λ i. record { inner = inner i; ports = ends; memory = own i }

-- no other extent changed
pub copied_others : (regions : List Region) (before after : List (List ℕ)) (at : ℕ) (bytes : List ℕ) → after ≡ put regions before at bytes → (extent : ℕ) → is_private_extent regions extent ≡ false
    → extent_at after extent ≡ extent_at before extent
copied_others regions before after at bytes written extent h = ap (λ (all : List (List ℕ)). extent_at all extent) written ∙ put_others regions before at bytes extent h

-- and no size
pub copied_placed : (regions : List Region) (before after : List (List ℕ)) (at : ℕ) (bytes : List ℕ) → after ≡ put regions before at bytes → ArePlaced before regions → ArePlaced after regions
copied_placed regions before after at bytes written placed = all_still_placed before after regions (ap sizes_of written ∙ put_sizes regions before at bytes) placed
