-- What each partition of an accepted configuration keeps.
use Rattle.std.proofs.Common.{◌≡◌, ℕ, zero, suc, ◌+◌, ◌≤◌, ◌<◌, ◌%◌, Bool, true, false, ◌&&◌, ◌||◌, not, ltb, leb, List, [], ◌∷◌, map, length, refl, sym, ◌∙◌, arith}
use Rattle.std.specs.Prelude.{nat_lt, nat_le, ◌==◌}
use Rattle.std.specs.List.{list_all, list_any, range_with_len}
use Rattle.std.proofs.lemmas.Bool.{and_parts, and_from, leb-true, le-leb, ltb-true, lt-ltb}
use Rattle.std.proofs.lemmas.Bool.Decides.{Decides-eqb}
use Rattle.std.proofs.lemmas.List.Folds.{list_all-map}
use Rattle.hv_config.specs.declared.config.GuestAreaDef.{GuestAreaDef}
use Rattle.hv_config.specs.declared.config.PartDef.{PartDef}
use Rattle.hv_config.specs.declared.config.Config.{Config}
use Rattle.machine_desc.specs.declared.desc.Region.{Region}
use Rattle.machine_desc.specs.Limits.{most_regions, most_handles, most_cores, page_size, mapped_end, spin_room}
use Rattle.machine_desc.specs.Private.{holds_privately, is_private_address, is_private_range}
use Rattle.config_checks.specs.Limits.{largest_window}
use Rattle.config_checks.specs.Found.{size_of, is_private}
use Rattle.config_checks.specs.Cores.{is_miscounted}
use Rattle.config_checks.specs.Window.{holds_window, is_windowless}
use Rattle.config_descs.specs.Desc.{region_of, desc_of, descs_of}
use Rattle.config_rules.specs.Accepted.{IsAccepted}
use Rattle.config_rules.specs.Names.{KeepsNames}
use Rattle.config_rules.specs.Parts.{is_small, has_one_core, has_window, KeepsParts}
use Rattle.config_rules.proofs.Lists.{all-both, all-mono, any-map}
use Rattle.config_rules.proofs.Kept.{Kept, kept, few_in}
use Rattle.config_rules.proofs.Sound.{one_core}

-- ---- counts

small : (part : PartDef) → few_in part ≡ true → not (is_miscounted part) ≡ true → is_small part ≡ true
small part few counted =
    let both = and_parts (nat_le (length part.areas) most_regions) (nat_le (length part.handles) most_handles) few in
    rw (one_core part counted) (and_from _ _ (and_from _ _ both.0 both.1) refl)

one : (part : PartDef) → not (is_miscounted part) ≡ true → has_one_core part ≡ true
one part counted = (Decides-eqb (length part.cpus) 1).1 (one_core part counted)

-- ---- private windows

any-mono : {X : Type 0} (p q : X → Bool) → ((x : X) → p x ≡ true → q x ≡ true) → (xs : List X) → list_any p xs ≡ true → list_any q xs ≡ true
any-mono p q f [] e = absurd cc
any-mono {X} p q f (x ∷ xs) e =
    elim (p x) as (λ b. p x ≡ b → (b || list_any p xs) ≡ true → (q x || list_any q xs) ≡ true) [
      | true ↦ λ here e. rw (f x here) refl
      | false ↦ λ here e. elim (q x) as (λ b. (b || list_any q xs) ≡ true) [ true ↦ refl | false ↦ any-mono p q f xs e ]
    ] refl e

all-range : (p : ℕ → Bool) (at size : ℕ) → ((a : ℕ) → at ≤ a → a < at + size → p a ≡ true) → list_all p (range_with_len at size) ≡ true
all-range p at zero f = refl
all-range p at (suc size) f =
    and_from (p at) (list_all p (range_with_len (at + 1) size)) (f at (omega arith) (omega arith))
    (all-range p (at + 1) size (λ a low high. f a (omega (arith, low)) (omega (arith, high))))

private-there : (config : Config) (part : PartDef) (guest : GuestAreaDef) (a : ℕ) → part.tree_at ≤ a → a < part.tree_at + part.tree_size
    → holds_window config part guest ≡ true → holds_privately a (region_of config guest) ≡ true
unfolding region_of
private-there config part guest a low high e =
    let behind = guest.at + size_of config.areas guest.area in
    let both = and_parts (nat_le guest.at part.tree_at && nat_le (part.tree_at + part.tree_size) behind) (is_private config.parts guest.area) e in
    let ends = and_parts (nat_le guest.at part.tree_at) (nat_le (part.tree_at + part.tree_size) behind) both.0 in
    let start = leb-true guest.at part.tree_at ends.0 in
    let end = leb-true (part.tree_at + part.tree_size) behind ends.1 in
    and_from _ _ (and_from _ _ both.1 (le-leb guest.at a (omega (arith, start, low))))
    (lt-ltb a (guest.at + size_of config.areas guest.area) (omega (arith, end, high)))

window-private : (config : Config) (part : PartDef) → list_any (holds_window config part) part.areas ≡ true
    → is_private_range (map (region_of config) part.areas) part.tree_at part.tree_size ≡ true
unfolding is_private_range
window-private config part e = all-range (is_private_address (map (region_of config) part.areas)) part.tree_at part.tree_size (λ a low high.
    any-map (region_of config) (holds_privately a) part.areas
    ∙ any-mono (holds_window config part) (λ (guest : GuestAreaDef). holds_privately a (region_of config guest)) (λ guest h. private-there config part guest a low high h) part.areas e)

-- ---- windows

window-parts : (a b c d e f : Bool) → not (not a || not b || c || d || e || not f) ≡ true → (b ≡ true) × (c ≡ false) × (e ≡ false) × (f ≡ true)
window-parts true true false false false true h = (refl, refl, refl, refl)
window-parts true true false false false false h = absurd cc
window-parts true true false false true f h = absurd cc
window-parts true true false true e f h = absurd cc
window-parts true true true d e f h = absurd cc
window-parts true false c d e f h = absurd cc
window-parts false b c d e f h = absurd cc

has-room : (size : ℕ) → (size % page_size == 0) ≡ true → (size == 0) ≡ false → nat_le spin_room size ≡ true
has-room size whole bytes = grind arith

within : (n end : ℕ) → ltb end n ≡ false → nat_le n end ≡ true
within n end e = grind arith

windowed : (config : Config) (part : PartDef) → not (is_windowless config part) ≡ true → has_window (desc_of config part) ≡ true
unfolding desc_of has_window
windowed config part e =
    let parts = window-parts _ _ _ _ _ _ e in
    and_from _ _ (and_from _ _ (window-private config part parts.3) (within (part.tree_at + part.tree_size) mapped_end parts.2)) (has-room part.tree_size parts.0 parts.1)

-- ---- all of it

pub keeps_names : (config : Config) → IsAccepted config → KeepsNames config
keeps_names config accepted =
    let k = kept config accepted.board accepted.none in
    record { parts = k.free_names; consoles = k.plain_consoles }

pub keeps_parts : (config : Config) → IsAccepted config → KeepsParts config
keeps_parts config accepted =
    let k = kept config accepted.board accepted.none in
    record {
      small = all-both few_in (λ (part : PartDef). not (is_miscounted part)) is_small small config.parts k.few k.counted;
      cores = all-mono (λ (part : PartDef). not (is_miscounted part)) has_one_core one config.parts k.counted;
      windows = rw (list_all-map has_window (desc_of config) config.parts)
          (all-mono (λ (part : PartDef). not (is_windowless config part)) (λ (part : PartDef). has_window (desc_of config part)) (windowed config) config.parts k.windows);
    }
