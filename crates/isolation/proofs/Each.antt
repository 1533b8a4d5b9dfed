-- What holds of each change of a log at its time holds of each move of a partition.
use Rattle.std.proofs.Common.{◌≡◌, ◌≢◌, ℕ, ◌+◌, ◌<◌, ◌==◌, Bool, true, false, List, [], ◌∷◌, ◌++◌, length, refl, sym, subst, length-set, if◌then◌else◌}
use Rattle.std.proofs.lemmas.Bool.{eqb-true, eqb-false, eq-eqb}
use Rattle.std.proofs.lemmas.List.{get_or-set_same, get_or-set_other}
use Rattle.std.specs.Prelude.{flat_map}
use Rattle.core_step.specs.declared.answer.Wrote.{Wrote}
use Rattle.machine_desc.specs.declared.desc.Desc.{Desc}
use Rattle.machine_desc.specs.declared.desc.Region.{Region}
use Rattle.partition.specs.Machine.{Machine, fresh}
use Rattle.partition.specs.Step.{Stepped}
use Rattle.partition.specs.Reached.{Move, moved}
use Rattle.recording.specs.Laws.{EachMove}
use Rattle.network.specs.Network.{Network, no_desc, desc_at}
use Rattle.network.specs.Change.{Change, Moves, Shared, changed, move_in, are_private}
use Rattle.network.specs.World.{Entry, entry_for, machine_at, after_entry, after_log, changes_of, moves_of}
use Rattle.network.specs.Effects.{shown_from, shown}
use Rattle.network.proofs.Alone.{left_alone}

-- ---- an entry of a log

pub own_entry : (network : Network) (part : ℕ) (change : Change) (machines : List Machine) → part < length machines
    → machine_at (after_entry network (entry_for part change) machines) part ≡ changed (desc_at network part) change (machine_at machines part)
own_entry network part change machines h = get_or-set_same machines part (changed (desc_at network part) change (machine_at machines part)) (fresh no_desc) h

pub other_entry : (network : Network) (part other : ℕ) (change : Change) (machines : List Machine) → part ≢ other
    → machine_at (after_entry network (entry_for other change) machines) part ≡ machine_at machines part
other_entry network part other change machines h = get_or-set_other machines other part (changed (desc_at network other) change (machine_at machines other)) (fresh no_desc) h

pub own_move : (desc : Desc) (move : Move) (machine : Machine) → changed desc (Moves move) machine ≡ moved desc move machine
unfolding changed
own_move desc move machine = refl

own_changes : (part : ℕ) (change : Change) (log : List Entry) → changes_of part (entry_for part change ∷ log) ≡ change ∷ changes_of part log
own_changes part change log = rw (eq-eqb part part refl) refl

other_changes : (part other : ℕ) (change : Change) (log : List Entry) → (other == part) ≡ false → changes_of part (entry_for other change ∷ log) ≡ changes_of part log
other_changes part other change log h = rw h refl

-- ---- what holds at its time

-- of a move something, and of what others do to areas nothing
abbrev pub Holds : (Desc → Move → Machine → Type 0) → Desc → Change → Machine → Type 0
Holds P desc (Moves move) machine = P desc move machine
Holds P desc (Shared regions memory stored) machine = Unit {0}

abbrev pub Each : (Desc → Move → Machine → Type 0) → Network → List Entry → List Machine → Type 0
Each P network [] machines = Unit {0}
Each P network (entry ∷ log) machines = Holds P (desc_at network entry.part) entry.change (machine_at machines entry.part) × Each P network log (after_entry network entry machines)

pub each_both : (P : Desc → Move → Machine → Type 0) (network : Network) (a b : List Entry) (machines : List Machine) → Each P network a machines → Each P network b (after_log network a machines)
    → Each P network (a ++ b) machines
each_both P network [] b machines h k = k
each_both P network (entry ∷ a) b machines h k = (h.0, each_both P network a b (after_entry network entry machines) h.1 k)

abbrev EachChange : (Desc → Move → Machine → Type 0) → Desc → List Change → Machine → Type 0
EachChange P desc [] machine = Unit {0}
EachChange P desc (change ∷ changes) machine = Holds P desc change machine × EachChange P desc changes (changed desc change machine)

own_each : (P : Desc → Move → Machine → Type 0) (network : Network) (part : ℕ) (change : Change) (log : List Entry) (machines : List Machine) → part < length machines
    → Holds P (desc_at network part) change (machine_at machines part) → EachChange P (desc_at network part) (changes_of part log) (machine_at (after_entry network (entry_for part change) machines) part)
    → EachChange P (desc_at network part) (changes_of part (entry_for part change ∷ log)) (machine_at machines part)
own_each P network part change log machines h p k =
    subst (λ (changes : List Change). EachChange P (desc_at network part) changes (machine_at machines part)) (sym (own_changes part change log))
    (p, subst (EachChange P (desc_at network part) (changes_of part log)) (own_entry network part change machines h) k)

other_each : (P : Desc → Move → Machine → Type 0) (network : Network) (part other : ℕ) (change : Change) (log : List Entry) (machines : List Machine) → part ≢ other → (other == part) ≡ false
    → EachChange P (desc_at network part) (changes_of part log) (machine_at (after_entry network (entry_for other change) machines) part)
    → EachChange P (desc_at network part) (changes_of part (entry_for other change ∷ log)) (machine_at machines part)
other_each P network part other change log machines h f k =
    subst (λ (changes : List Change). EachChange P (desc_at network part) changes (machine_at machines part)) (sym (other_changes part other change log f))
    (subst (EachChange P (desc_at network part) (changes_of part log)) (other_entry network part other change machines h) k)

each_by : (P : Desc → Move → Machine → Type 0) (network : Network) (part : ℕ) (entry : Entry) (log : List Entry) (machines : List Machine) → part < length machines
    → Holds P (desc_at network entry.part) entry.change (machine_at machines entry.part) → EachChange P (desc_at network part) (changes_of part log) (machine_at (after_entry network entry machines) part)
    → (b : Bool) → (entry.part == part) ≡ b → EachChange P (desc_at network part) (changes_of part (entry ∷ log)) (machine_at machines part)
each_by P network part entry log machines h p k true e =
    subst
    (
    λ (n : ℕ). Holds P (desc_at network n) entry.change (machine_at machines n)
    → EachChange P (desc_at network part) (changes_of part log) (machine_at (after_entry network (entry_for n entry.change) machines) part)
    → EachChange P (desc_at network part) (changes_of part (entry_for n entry.change ∷ log)) (machine_at machines part)
    ) (sym (eqb-true entry.part part e)) (own_each P network part entry.change log machines h) p k
each_by P network part entry log machines h p k false e = other_each P network part entry.part entry.change log machines (λ q. eqb-false entry.part part e (sym q)) e k

each_change : (P : Desc → Move → Machine → Type 0) (network : Network) (part : ℕ) (log : List Entry) (machines : List Machine) → part < length machines → Each P network log machines
    → EachChange P (desc_at network part) (changes_of part log) (machine_at machines part)
each_change P network part [] machines h k = tt
each_change P network part (entry ∷ log) machines h k =
    each_by P network part entry log machines h k.0
    (each_change P network part log (after_entry network entry machines) (rw (length-set machines entry.part (changed (desc_at network entry.part) entry.change (machine_at machines entry.part))) h) k.1)
    (entry.part == part) refl

-- without shared areas moves are all
moves_each : (P : Desc → Move → Machine → Type 0) (desc : Desc) (changes : List Change) (machine : Machine) → are_private desc.regions ≡ true → EachChange P desc changes machine
    → EachMove P desc (flat_map move_in changes) machine
moves_each P desc [] machine private h = tt
moves_each P desc (Moves move ∷ changes) machine private h =
    (h.0, moves_each P desc changes (moved desc move machine) private (subst (EachChange P desc changes) (own_move desc move machine) h.1))
moves_each P desc (Shared regions memory stored ∷ changes) machine private h =
    moves_each P desc changes machine private (subst (EachChange P desc changes) (left_alone desc regions memory stored machine private) h.1)

pub each_move : (P : Desc → Move → Machine → Type 0) (network : Network) (part : ℕ) (log : List Entry) (machines : List Machine) → part < length machines → are_private (desc_at network part).regions ≡ true
    → Each P network log machines → EachMove P (desc_at network part) (moves_of part log) (machine_at machines part)
each_move P network part log machines h private k =
    moves_each P (desc_at network part) (changes_of part log) (machine_at machines part) private (each_change P network part log machines h k)

-- ---- what a step shows others

abbrev pub IsShown : Change → Type 0
IsShown (Moves move) = ⊥
IsShown (Shared regions memory stored) = Unit {0}

abbrev pub AreShown : List Entry → Type 0
AreShown [] = Unit {0}
AreShown (entry ∷ log) = IsShown entry.change × AreShown log

pub shown_both : (a b : List Entry) → AreShown a → AreShown b → AreShown (a ++ b)
shown_both [] b h k = k
shown_both (entry ∷ a) b h k = (h.0, shown_both a b h.1 k)

all_shown_from : (part : ℕ) (descs : List Desc) (stepping : ℕ) (regions : List Region) (memory : List (List ℕ)) (stored : List Wrote) → AreShown (shown_from part descs stepping regions memory stored)
all_shown_from part [] stepping regions memory stored = tt
all_shown_from part (desc ∷ descs) stepping regions memory stored =
    shown_both (if part == stepping then [] else entry_for part (Shared regions memory stored) ∷ []) (shown_from (part + 1) descs stepping regions memory stored) (one (part == stepping))
    (all_shown_from (part + 1) descs stepping regions memory stored)
  where
    one : (b : Bool) → AreShown (if b then [] else entry_for part (Shared regions memory stored) ∷ [])
    one true = tt
    one false = (tt, tt)

pub all_shown : (network : Network) (part : ℕ) (done : Stepped) → AreShown (shown network part done)
unfolding shown
all_shown network part done = all_shown_from 0 network.descs part _ _ _

shown_holds : (P : Desc → Move → Machine → Type 0) (desc : Desc) (change : Change) (machine : Machine) → IsShown change → Holds P desc change machine
shown_holds P desc (Moves move) machine h = absurd h
shown_holds P desc (Shared regions memory stored) machine h = tt

pub each_shown : (P : Desc → Move → Machine → Type 0) (network : Network) (log : List Entry) (machines : List Machine) → AreShown log → Each P network log machines
each_shown P network [] machines h = tt
each_shown P network (entry ∷ log) machines h =
    (shown_holds P (desc_at network entry.part) entry.change (machine_at machines entry.part) h.0, each_shown P network log (after_entry network entry machines) h.1)
