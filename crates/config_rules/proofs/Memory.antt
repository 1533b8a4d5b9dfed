-- Cores, extents and regions of a configuration that breaks no rule are joined.
use Rattle.std.proofs.Common.{◌≡◌, ℕ, true, ◌==◌, List, [], ◌∷◌, map, length, Some, refl, ap, ◌∙◌, sum_by}
use Rattle.std.specs.Prelude.{nat_le, slice_get, count_by, sum}
use Rattle.std.specs.List.{list_all}
use Rattle.std.proofs.lemmas.Bool.{and_from}
use Rattle.std.proofs.lemmas.Option.{slice_get-map}
use Rattle.std.proofs.lemmas.List.Folds.{list_all-map}
use Rattle.std.proofs.lemmas.List.Sums.{sum-map}
use Rattle.hv_config.specs.declared.config.AreaDef.{AreaDef}
use Rattle.hv_config.specs.declared.config.GuestAreaDef.{GuestAreaDef}
use Rattle.hv_config.specs.declared.config.PartDef.{PartDef}
use Rattle.hv_config.specs.declared.config.Config.{Config}
use Rattle.machine_desc.specs.declared.desc.Region.{Region}
use Rattle.machine_desc.specs.declared.desc.Span.{Span}
use Rattle.machine_desc.specs.declared.desc.Desc.{Desc}
use Rattle.machine_desc.specs.Limits.{most_bytes}
use Rattle.machine_desc.specs.Ranges.{none_meets}
use Rattle.machine_desc.specs.Joined.{same_number, share_core, are_cores_apart, extent_spans, spans_meet, are_extents_sound, has_at, names_extent, same_bool, is_region_joined, are_regions_joined}
use Rattle.config_checks.specs.Found.{is_area, has_area, size_of, maps, is_mapped_by, is_private}
use Rattle.config_descs.specs.Numbered.{extent_of, base_of}
use Rattle.config_descs.specs.Desc.{region_of, desc_of, descs_of}
use Rattle.config_descs.specs.Wired.{wiring_of}
use Rattle.config_rules.proofs.Lists.{all-mono, none_meets-map, any-map, any-same, count-same, count-map, length-map}
use Rattle.config_rules.proofs.Names.{found, extent-found, size-found, base-found, extents-names, number-itself}
use Rattle.config_rules.proofs.Kept.{Kept, guests_named}
use Rattle.config_rules.proofs.Numbers.{le-true, same-bool}

-- ---- cores

pub cores-apart : (config : Config) → Kept config → are_cores_apart (descs_of config) ≡ true
unfolding are_cores_apart desc_of
cores-apart config kept =
    and_from _ _ (list_all-map (λ (desc : Desc). none_meets same_number [] desc.cores) (desc_of config) config.parts ∙ kept.cores_differ)
    (none_meets-map (desc_of config) share_core [] config.parts ∙ kept.cores_apart)

-- ---- extents

abbrev area_size : AreaDef → ℕ
area_size area = area.size

abbrev area_base : AreaDef → ℕ
area_base area = area.base

abbrev area_span : AreaDef → Span
area_span area = record { at = area.base; size = area.size }

spans-map : (areas : List AreaDef) → extent_spans (map area_base areas) (map area_size areas) ≡ map area_span areas
spans-map [] = refl
spans-map (area ∷ areas) = ap (λ (spans : List Span). area_span area ∷ spans) (spans-map areas)

same-lengths : (areas : List AreaDef) → (length (map area_size areas) == length (map area_base areas)) ≡ true
same-lengths areas = rw (length-map area_size areas, length-map area_base areas) (number-itself (length areas))

pub extents-sound : (config : Config) → Kept config → are_extents_sound (wiring_of config) ≡ true
unfolding are_extents_sound wiring_of
extents-sound config kept =
    let small : nat_le (sum (map area_size config.areas)) most_bytes ≡ true = rw (sum-map area_size config.areas) (le-true (sum_by area_size config.areas) most_bytes kept.small) in
    let apart : none_meets spans_meet [] (extent_spans (map area_base config.areas) (map area_size config.areas)) ≡ true =
    rw (spans-map config.areas) (none_meets-map area_span spans_meet [] config.areas ∙ kept.areas_apart) in
    and_from _ _ (and_from _ _ (same-lengths config.areas) small) apart

-- ---- regions

has-there : (f : AreaDef → ℕ) (areas : List AreaDef) (place : ℕ) (area : AreaDef) → slice_get areas place ≡ Some area → has_at (map f areas) place (f area) ≡ true
has-there f areas place area e = rw (slice_get-map f areas place, e) (number-itself (f area))

-- a partition names the area's extent exactly where it maps the area
names-maps : (config : Config) (name : List ℕ) → has_area config.areas name ≡ true → (part : PartDef) → guests_named config part ≡ true
    → names_extent (extent_of config.areas name) (desc_of config part) ≡ maps name part
unfolding desc_of region_of
names-maps config name has part named =
    any-map (region_of config) (λ (region : Region). region.extent == extent_of config.areas name) part.areas
    ∙ any-same (λ (guest : GuestAreaDef). extent_of config.areas guest.area == extent_of config.areas name) (is_mapped_by name) (λ (guest : GuestAreaDef). has_area config.areas guest.area)
    (λ guest h. extents-names config.areas guest.area name h has) part.areas named

count-maps : (config : Config) → Kept config → (name : List ℕ) → has_area config.areas name ≡ true
    → count_by (names_extent (extent_of config.areas name)) (descs_of config) ≡ count_by (maps name) config.parts
count-maps config kept name has =
    count-map (desc_of config) (names_extent (extent_of config.areas name)) config.parts
    ∙ count-same (λ (part : PartDef). names_extent (extent_of config.areas name) (desc_of config part)) (maps name) (guests_named config)
    (λ part named. names-maps config name has part named) config.parts kept.guests_named

region-joined : (config : Config) → Kept config → (guest : GuestAreaDef) → has_area config.areas guest.area ≡ true
    → is_region_joined (descs_of config) (wiring_of config) (region_of config guest) ≡ true
unfolding is_region_joined wiring_of region_of
region-joined config kept guest has =
    let area = found (is_area guest.area) config.areas has in
    let extent = extent-found config.areas guest.area area in
    let size = size-found config.areas guest.area area in
    let base = base-found config.areas guest.area area in
    let sized : has_at (map area_size config.areas) (extent_of config.areas guest.area) (size_of config.areas guest.area) ≡ true =
    rw (extent, size) (has-there area_size config.areas area.place area.element area.at) in
    let based : has_at (map area_base config.areas) (extent_of config.areas guest.area) (base_of config.areas guest.area) ≡ true =
    rw (extent, base) (has-there area_base config.areas area.place area.element area.at) in
    let private : same_bool (is_private config.parts guest.area) (count_by (names_extent (extent_of config.areas guest.area)) (descs_of config) == 1) ≡ true =
    rw (count-maps config kept guest.area has) (same-bool (is_private config.parts guest.area)) in
    and_from _ _ (and_from _ _ sized based) private

part-joined : (config : Config) → Kept config → (part : PartDef) → guests_named config part ≡ true
    → list_all (is_region_joined (descs_of config) (wiring_of config)) (desc_of config part).regions ≡ true
unfolding desc_of
part-joined config kept part named =
    list_all-map (is_region_joined (descs_of config) (wiring_of config)) (region_of config) part.areas
    ∙ all-mono (λ (guest : GuestAreaDef). has_area config.areas guest.area) (λ (guest : GuestAreaDef). is_region_joined (descs_of config) (wiring_of config) (region_of config guest))
    (λ guest has. region-joined config kept guest has) part.areas named

pub regions-joined : (config : Config) → Kept config → are_regions_joined (descs_of config) (wiring_of config) ≡ true
unfolding are_regions_joined
regions-joined config kept =
    list_all-map (λ (desc : Desc). list_all (is_region_joined (descs_of config) (wiring_of config)) desc.regions) (desc_of config) config.parts
    ∙ all-mono (guests_named config) (λ (part : PartDef). list_all (is_region_joined (descs_of config) (wiring_of config)) (desc_of config part).regions)
    (λ part named. part-joined config kept part named) config.parts kept.guests_named
