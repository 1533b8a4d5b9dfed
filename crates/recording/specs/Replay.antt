-- How far a recording can be followed: to its end, or up to the first item that isn't right.
use Rattle.std.specs.Prelude.{ℕ, ◌+◌, List, [], ◌∷◌, Option, Some, None, if◌then◌else◌}
use Rattle.machine_desc.specs.declared.desc.Desc.{Desc}
use Rattle.partition.specs.Machine.{fresh}
use Rattle.recording.specs.Recording.{Item}
use Rattle.recording.specs.Alone.{Place, opening, reached, next}
use Rattle.recording.specs.Fits.{is_right}

pub record Replayed : Type 0 where
  -- where the lone run stands then
  pub place : Place
  -- the number of the item that isn't right
  pub refused : Option ℕ

-- Along these items, the first of which has this number. The steps before an item are done also where it isn't right.
abbrev pub replayed_from : Desc → ℕ → List Item → Place → Replayed
replayed_from desc number [] place = record { place = place; refused = None }
replayed_from desc number (item ∷ items) place =
    if is_right desc item place then replayed_from desc (number + 1) items (next desc item place)
    else record { place = reached desc item place; refused = Some number }

-- The replay of a recording, whose items are numbered from 0.
unfoldable pub replayed : Desc → List Item → Replayed
replayed desc items = replayed_from desc 0 items (opening (fresh desc))
