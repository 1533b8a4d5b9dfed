-- What holds of recordings of moves.
use Rattle.std.specs.Prelude.{◌≡◌, ℕ, ◌<◌, true, List, [], ◌∷◌, ◌++◌, length, None, is_none}
use Rattle.machine_desc.specs.declared.desc.Desc.{Desc}
use Rattle.partition.specs.Machine.{Machine, fresh}
use Rattle.partition.specs.Reached.{Move, Steps, Takes, moved, after_moves}
use Rattle.recording.specs.Recording.{Item, core_of, items_in, recorded}
use Rattle.recording.specs.Alone.{is_running, asked_size, Place, alone}
use Rattle.recording.specs.Fits.{allows, fits}
use Rattle.recording.specs.Replay.{replayed}

-- ---- moves that can be made

-- a step can be done: the machine runs, and the step is given as many bytes as it asks for
abbrev pub IsDone : Desc → Move → Machine → Type 0
IsDone desc (Steps core feed) machine = (is_running machine.inner.state ≡ true) × (length feed ≡ asked_size desc machine core)
IsDone desc (Takes event) machine = Unit {0}

-- and is on a core that there is; an event may be given
abbrev pub IsAllowed : Desc → Move → Machine → Type 0
IsAllowed desc (Steps core feed) machine = (core < length desc.cores) × IsDone desc (Steps core feed) machine
IsAllowed desc (Takes event) machine = allows desc event machine ≡ true

-- so is each move, at its time
abbrev pub EachMove : (Desc → Move → Machine → Type 0) → Desc → List Move → Machine → Type 0
EachMove P desc [] machine = Unit {0}
EachMove P desc (move ∷ moves) machine = P desc move machine × EachMove P desc moves (moved desc move machine)

-- ---- the laws

-- what a lone run came to are these moves
pub record Makes (desc : Desc) (moves : List Move) (place : Place) : Type 0 where
  pub machine : place.machine ≡ after_moves desc moves (fresh desc)
  pub moves_made : place.moves ≡ moves

-- A lone run along the recording of a machine's moves makes these moves, where its steps could be done.
abbrev pub RecordingsTellMoves : Type 0
RecordingsTellMoves =
    (desc : Desc) (moves : List Move) → EachMove IsDone desc moves (fresh desc) → Makes desc moves (alone desc (recorded desc 0 moves (fresh desc)))

-- The recording fits, where each move could be made and each event be given at its time.
abbrev pub AllowedMovesFit : Type 0
AllowedMovesFit =
    (desc : Desc) (moves : List Move) → EachMove IsAllowed desc moves (fresh desc) → fits desc (recorded desc 0 moves (fresh desc)) ≡ true

-- A recording grows piece by piece: further moves add their items.
abbrev pub RecordingsGrow : Type 0
RecordingsGrow =
    (desc : Desc) (before : ℕ) (moves more : List Move) (machine : Machine)
    → items_in desc before (moves ++ more) machine
    ≡ items_in desc before moves machine ++ items_in desc (core_of before moves) more (after_moves desc moves machine)

-- ---- replays

-- A replay of what fits goes all the way, and what doesn't fit is refused.
pub record Replays (desc : Desc) (items : List Item) : Type 0 where
  pub whole : fits desc items ≡ true → replayed desc items ≡ record { place = alone desc items; refused = None }
  pub refused : fits desc items ≡ is_none (replayed desc items).refused

abbrev pub ReplaysAreWhole : Type 0
ReplaysAreWhole = (desc : Desc) (items : List Item) → Replays desc items
