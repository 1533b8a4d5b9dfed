-- A replay of what fits goes all the way.
use Rattle.std.proofs.Common.{◌≡◌, ℕ, ◌+◌, Bool, true, false, ◌&&◌, List, [], ◌∷◌, Some, None, refl, ap, ◌∙◌, if◌then◌else◌}
use Rattle.std.specs.Prelude.{is_none}
use Rattle.std.proofs.lemmas.Bool.{and_parts}
use Rattle.machine_desc.specs.declared.desc.Desc.{Desc}
use Rattle.partition.specs.Machine.{fresh}
use Rattle.recording.specs.Recording.{Item}
use Rattle.recording.specs.Alone.{Place, opening, reached, next, follow, alone}
use Rattle.recording.specs.Fits.{is_right, fits_from, fits}
use Rattle.recording.specs.Replay.{Replayed, replayed_from, replayed}
use Rattle.recording.specs.Laws.{ReplaysAreWhole}

whole_from : (desc : Desc) (number : ℕ) (items : List Item) (place : Place) → fits_from desc items place ≡ true
    → replayed_from desc number items place ≡ record { place = follow desc items place; refused = None }
whole_from desc number [] place h = refl
whole_from desc number (item ∷ items) place h =
    let p = and_parts (is_right desc item place) (fits_from desc items (next desc item place)) h in
    ap (λ (b : Bool). if b then replayed_from desc (number + 1) items (next desc item place) else record { place = reached desc item place; refused = Some number }) p.0
    ∙ whole_from desc (number + 1) items (next desc item place) p.1

refused_by : (b : Bool) (rest : Bool) (going : Replayed) (place : Place) (number : ℕ) → rest ≡ is_none going.refused
    → (b && rest) ≡ is_none (if b then going else record { place = place; refused = Some number }).refused
refused_by true rest going place number h = h
refused_by false rest going place number h = refl

refused_from : (desc : Desc) (number : ℕ) (items : List Item) (place : Place) → fits_from desc items place ≡ is_none (replayed_from desc number items place).refused
refused_from desc number [] place = refl
refused_from desc number (item ∷ items) place =
    refused_by (is_right desc item place) (fits_from desc items (next desc item place)) (replayed_from desc (number + 1) items (next desc item place)) (reached desc item place) number
    (refused_from desc (number + 1) items (next desc item place))

pub replays : ReplaysAreWhole
unfolding fits alone replayed
replays desc items = record { whole = whole_from desc 0 items (opening (fresh desc)); refused = refused_from desc 0 items (opening (fresh desc)) }
