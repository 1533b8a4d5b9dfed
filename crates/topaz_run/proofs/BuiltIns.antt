-- The description of the built-in machine is sound, and joined with its wiring.
use Rattle.std.proofs.Common.{◌≡◌, ℕ, zero, suc, ◌+◌, ◌<◌, ◌≤◌, true, List, [], ◌∷◌, length, slice_index_or, nat_lt, Result, refl, sym, ◌∙◌, arith}
use Rattle.std.specs.List.{list_all, range_with_len}
use Rattle.std.proofs.lemmas.Bool.{and_from}
use Rattle.machine_desc.specs.Private.{is_private_address, is_private_range}
use Rattle.machine_desc.specs.Sound.{IsSound, is_sound, are_regions_sound, are_counts_kept, are_numbered, is_start_mapped, are_spin_entries_private}
use Rattle.machine_desc.specs.Joined.{AreJoined, are_joined, are_cores_apart, are_extents_sound, are_regions_joined, is_region_joined, are_links_joined, ends_at, ends_at_console, are_bells_joined, are_managers_joined, are_ports_joined, is_port_joined}
use Rattle.network.specs.Network.{no_desc}
use Rattle.system.specs.System.{HaveOneCore}
use Rattle.machine_desc.specs.declared.desc.Desc.{Desc}
use Rattle.machine_desc.specs.declared.wiring.Wiring.{Wiring}
use Rattle.script.specs.Course.{Course, course_of}
use Rattle.topaz_run.specs.declared.status.Stop.{Stop}
use Rattle.topaz_run.specs.BuiltIn.{memory_size, built_in, built_in_region, built_in_wiring, built_in_network, built_in_names}
use Rattle.topaz_run.specs.Reported.{given_by, reported}
use Rattle.topaz_run.specs.Outcome.{bare}
use Rattle.topaz_run.specs.Answers.{Meets}
use Rattle.topaz_run.proofs.Choices.{pass, not_below}
use Rattle.topaz_run.proofs.Plans.{meets_alike}

small_private : (address : ℕ) → address < 65536 → is_private_address (built_in_region ∷ []) address ≡ true
small_private address small = grind arith

all_private : (size at : ℕ) → at + size ≤ 65536 → list_all (is_private_address (built_in_region ∷ [])) (range_with_len at size) ≡ true
all_private zero at fits = refl
all_private (suc size) at fits = and_from _ _ (small_private at (omega (arith, fits))) (all_private size (at + 1) (omega (arith, fits)))

private_image : (image : List ℕ) → length image ≤ 65536 → is_private_range (built_in_region ∷ []) 0 (length image) ≡ true
unfolding is_private_range
private_image image fits = all_private (length image) 0 (omega (arith, fits))

built-in-is-sound : (image : List ℕ) → length image ≤ 65536 → IsSound (built_in image)
unfolding built_in is_sound are_regions_sound are_counts_kept are_numbered is_start_mapped are_spin_entries_private
built-in-is-sound image fits = and_from _ _ refl (and_from _ _ (private_image image fits) refl)

pub built_in_is_joined : (image : List ℕ) → length image ≤ 65536 → AreJoined (built_in image ∷ []) built_in_wiring
unfolding are_joined are_cores_apart are_extents_sound are_regions_joined is_region_joined are_links_joined ends_at ends_at_console are_bells_joined are_managers_joined are_ports_joined is_port_joined built_in built_in_wiring
built_in_is_joined image fits =
    let sound : list_all is_sound (built_in image ∷ []) ≡ true = and_from (is_sound (built_in image)) true (built-in-is-sound image fits) refl in
    and_from _ _ (and_from _ _ (and_from _ _ (and_from _ _ (and_from _ _ (and_from _ _ (and_from _ _ (and_from _ _ refl sound) refl) refl) refl) refl) refl) refl) refl

one-core : (image : List ℕ) (part : ℕ) → part < 1 → length (slice_index_or (built_in image ∷ []) part no_desc).cores ≡ 1
unfolding built_in
one-core image zero few = refl
one-core image (suc part) few = absurd (omega (arith, few))

pub built_in_has_one_core : (image : List ℕ) → HaveOneCore (built_in image ∷ [])
built_in_has_one_core image = record { one = one-core image }

pub names_match : length built_in_names.consoles ≡ length built_in_wiring.consoles
unfolding built_in_names built_in_wiring
names_match = refl

-- the report of the built-in machine, by other names for it
pub bare_report : (name image : List ℕ) (turns : ℕ) (descs : List Desc) (wiring : Wiring) (course : Course) (r : Result (List ℕ) Stop) → length image ≤ 65536 → descs ≡ built_in image ∷ []
    → wiring ≡ built_in_wiring → course ≡ course_of built_in_names [] → Meets r (reported (record { descs = descs; wiring = wiring }) (given_by course) turns) → Meets r (bare name turns image)
unfolding bare built_in_network
bare_report name image turns descs wiring course r fits are wired script meets =
    meets_alike r _ _
    (pass (nat_lt memory_size (length image)) _ _ (not_below memory_size (length image) fits)
    ∙ (λ i. reported (record { descs = sym are i; wiring = sym wired i }) (given_by (sym script i)) turns))
    meets
