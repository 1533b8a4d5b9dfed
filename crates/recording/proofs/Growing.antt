-- A recording is made piece by piece.
use Rattle.std.proofs.Common.{◌≡◌, ℕ, List, [], ◌∷◌, ◌++◌, refl, sym, ap, ◌∙◌, append_assoc}
use Rattle.machine_desc.specs.declared.desc.Desc.{Desc}
use Rattle.partition.specs.Machine.{Machine}
use Rattle.partition.specs.Reached.{Move, moved, after_moves}
use Rattle.recording.specs.Recording.{Item, Until, items_of, core_after, items_in, recorded}
use Rattle.recording.specs.Laws.{RecordingsGrow}

pub grows : RecordingsGrow
grows desc before [] more machine = refl
grows desc before (move ∷ moves) more machine =
    let own : List Item = items_of before move machine in
    ap (λ (l : List Item). own ++ l) (grows desc (core_after before move) moves more (moved desc move machine))
    ∙ sym (append_assoc own (items_in desc (core_after before move) moves (moved desc move machine)) _)

-- the first move's items come first
pub recorded_more : (desc : Desc) (before : ℕ) (move : Move) (moves : List Move) (machine : Machine)
    → recorded desc before (move ∷ moves) machine ≡ items_of before move machine ++ recorded desc (core_after before move) moves (moved desc move machine)
recorded_more desc before move moves machine =
    append_assoc (items_of before move machine) (items_in desc (core_after before move) moves (moved desc move machine))
    (Until (after_moves desc moves (moved desc move machine)).inner.steps ∷ [])
