-- A lone run along the recording of moves makes these moves.
use Rattle.std.proofs.Common.{◌≡◌, ℕ, suc, ◌+◌, ◌*◌, ◌-◌, ◌≤◌, ◌==◌, Bool, true, false, ◌&&◌, List, [], ◌∷◌, ◌++◌, length, refl, sym, ap, ◌∙◌, append_assoc, append-nil, if◌then◌else◌, arith}
use Rattle.std.proofs.lemmas.Bool.{eqb-true, eq-eqb}
use Rattle.machine_desc.specs.declared.desc.Desc.{Desc}
use Rattle.partition.specs.Machine.{Machine, fresh}
use Rattle.partition.specs.Step.{step}
use Rattle.partition.specs.Event.{Event, Bytes, Room, Ring, Tells, Start, Stop, Restart, CopyIn, apply}
use Rattle.partition.specs.Reached.{Move, Steps, Takes, after_moves}
use Rattle.partition.proofs.Acting.{steps_so}
use Rattle.recording.specs.Recording.{Item, After, Feed, OnCore, Until, feed_item, core_item, recorded}
use Rattle.recording.specs.Alone.{is_running, asked_size, Place, opening, can_step, stepped, steps_on, count_of, reached, heeded, follow, alone}
use Rattle.recording.specs.Laws.{IsDone, EachMove, RecordingsTellMoves}
use Rattle.recording.proofs.Growing.{recorded_more}

-- ---- counts of steps

pub counted : (desc : Desc) (machine : Machine) (core : ℕ) (feed : List ℕ) → (step desc machine core feed).after.inner.steps ≡ machine.inner.steps + 1
counted desc machine core feed = (steps_so desc machine core feed).counted

pub kept : (desc : Desc) (event : Event) (machine : Machine) → (apply desc machine event).inner.steps ≡ machine.inner.steps
unfolding apply
kept desc (Bytes handle bytes) machine = refl
kept desc (Room handle count) machine = refl
kept desc (Ring handle) machine = refl
kept desc (Tells handle runs) machine = refl
kept desc (Start entry load) machine = refl
kept desc Stop machine = refl
kept desc Restart machine = refl
kept desc (CopyIn piece) machine = refl

-- ---- items that come now or later

-- the first item comes after so many steps
abbrev pub Begins : ℕ → List Item → Type 0
Begins count [] = ⊥
Begins count (item ∷ items) = count ≤ count_of item

later : (count more : ℕ) (items : List Item) → count ≤ more → Begins more items → Begins count items
later count more [] h k = k
later count more (item ∷ items) h k = omega (arith, h, k)

one_more : (count before after : ℕ) → after ≡ before + 1 → before + 1 ≤ count → count - before ≡ suc (count - after)
one_more count before after e h = omega (arith, e, h)

none_more : (n : ℕ) → n - n ≡ 0
none_more n = omega arith

pub step_before : (n : ℕ) → (n + 1) - 1 ≡ n
step_before n = omega arith

-- before an item that comes later one step more is done
pub reaches_on : (desc : Desc) (item : Item) (place : Place) → can_step desc place ≡ true → place.machine.inner.steps + 1 ≤ count_of item → reached desc item place ≡ reached desc item (stepped desc place)
reaches_on desc item place can after =
    ap (λ (n : ℕ). steps_on desc n place)
    (one_more (count_of item) place.machine.inner.steps (stepped desc place).machine.inner.steps (counted desc place.machine place.core place.feed) after)
    ∙ ap (λ (b : Bool). steps_on desc (count_of item - (stepped desc place).machine.inner.steps) (if b then stepped desc place else place)) can

-- before an item that comes now no step is done
pub reaches_now : (desc : Desc) (item : Item) (place : Place) → count_of item ≡ place.machine.inner.steps → reached desc item place ≡ place
reaches_now desc item place now =
    ap (λ (n : ℕ). steps_on desc (n - place.machine.inner.steps) place) now ∙ ap (λ (n : ℕ). steps_on desc n place) (none_more place.machine.inner.steps)

skips : (desc : Desc) (items : List Item) (place : Place) → can_step desc place ≡ true → Begins (place.machine.inner.steps + 1) items → follow desc items place ≡ follow desc items (stepped desc place)
skips desc [] place can begins = absurd begins
skips desc (item ∷ items) place can begins = ap (λ (p : Place). follow desc items (heeded desc item p)) (reaches_on desc item place can begins)

follows_now : (desc : Desc) (item : Item) (items : List Item) (place : Place) → count_of item ≡ place.machine.inner.steps → follow desc (item ∷ items) place ≡ follow desc items (heeded desc item place)
follows_now desc item items place now = ap (λ (p : Place). follow desc items (heeded desc item p)) (reaches_now desc item place now)

-- ---- the items of a step

begins_fed : (count : ℕ) (feed : List ℕ) (items : List Item) → Begins (count + 1) items → Begins count (feed_item (count + 1) feed ++ items)
begins_fed count [] items h = later count (count + 1) items (omega arith) h
begins_fed count (byte ∷ feed) items h = omega arith

-- the item of a core, by whether it is that of the step before
abbrev pub core_if : Bool → ℕ → ℕ → List Item
core_if b step core = if b then [] else OnCore step core ∷ []

begins_core : (b : Bool) (count core : ℕ) (items : List Item) → Begins count items → Begins count (core_if b (count + 1) core ++ items)
begins_core true count core items h = h
begins_core false count core items h = omega arith

pub recorded_step : (desc : Desc) (before core : ℕ) (feed : List ℕ) (moves : List Move) (machine : Machine)
    → recorded desc before (Steps core feed ∷ moves) machine
    ≡ core_item before (machine.inner.steps + 1) core ++ (feed_item (machine.inner.steps + 1) feed ++ recorded desc core moves (step desc machine core feed).after)
recorded_step desc before core feed moves machine =
    recorded_more desc before (Steps core feed) moves machine
    ∙ append_assoc (core_item before (machine.inner.steps + 1) core) (feed_item (machine.inner.steps + 1) feed) (recorded desc core moves (step desc machine core feed).after)

pub begins : (desc : Desc) (before : ℕ) (moves : List Move) (machine : Machine) → Begins machine.inner.steps (recorded desc before moves machine)
begins desc before [] machine = omega arith
begins desc before (Takes event ∷ moves) machine = omega arith
begins desc before (Steps core feed ∷ moves) machine =
    rw (recorded_step desc before core feed moves machine)
    (begins_core (core == before) machine.inner.steps core _ (begins_fed machine.inner.steps feed _ (rw (counted desc machine core feed) at (begins desc core moves (step desc machine core feed).after))))

pub both_true : (a b : Bool) → a ≡ true → b ≡ true → (a && b) ≡ true
both_true true b h k = k
both_true false b h k = h

-- ---- along the recording

pub record Follows (desc : Desc) (moves : List Move) (old : Machine) (made : List Move) (out : Place) : Type 0 where
  pub machine : out.machine ≡ after_moves desc moves old
  pub moves_made : out.moves ≡ made ++ moves

fed_now : (desc : Desc) (feed : List ℕ) (items : List Item) (place : Place) → place.feed ≡ []
    → (at : ℕ) × (follow desc (feed_item (place.machine.inner.steps + 1) feed ++ items) place ≡ follow desc items (record place { feed = feed; passed = at }))
fed_now desc [] items place h = (place.passed, ap (λ (f : List ℕ). follow desc items (record place { feed = f })) h)
fed_now desc (byte ∷ feed) items place h =
    (2 * (place.machine.inner.steps + 1) + 1, follows_now desc (Feed (place.machine.inner.steps + 1) (byte ∷ feed)) items place (step_before place.machine.inner.steps))

core_now : (desc : Desc) (b : Bool) (core : ℕ) (items : List Item) (place : Place) → (core == place.core) ≡ b
    → (at : ℕ) × (follow desc (core_if b (place.machine.inner.steps + 1) core ++ items) place ≡ follow desc items (record place { core = core; passed = at }))
core_now desc true core items place h = (place.passed, ap (λ (c : ℕ). follow desc items (record place { core = c })) (sym (eqb-true core place.core h)))
core_now desc false core items place h =
    (2 * (place.machine.inner.steps + 1) + 1, follows_now desc (OnCore (place.machine.inner.steps + 1) core) items place (step_before place.machine.inner.steps))

end_now : (desc : Desc) (place : Place) → follow desc (Until place.machine.inner.steps ∷ []) place ≡ record place { passed = 2 * place.machine.inner.steps + 1 + 1 }
end_now desc place = follows_now desc (Until place.machine.inner.steps) [] place refl

pub follows : (desc : Desc) (moves : List Move) (place : Place) → EachMove IsDone desc moves place.machine → place.feed ≡ []
    → Follows desc moves place.machine place.moves (follow desc (recorded desc place.core moves place.machine) place)
follows desc [] place done h = record {
  machine = ap (λ (p : Place). p.machine) (end_now desc place);
  moves_made = ap (λ (p : Place). p.moves) (end_now desc place) ∙ sym (append-nil place.moves);
}
follows desc (Takes event ∷ moves) place done h =
    let items : List Item = recorded desc place.core moves (apply desc place.machine event) in
    let now = follows_now desc (After place.machine.inner.steps event) items place refl in
    let rest = follows desc moves (heeded desc (After place.machine.inner.steps event) place) done.1 h in
    record {
      machine = ap (λ (p : Place). p.machine) now ∙ rest.machine;
      moves_made = ap (λ (p : Place). p.moves) now ∙ (rest.moves_made ∙ append_assoc place.moves (Takes event ∷ []) moves);
    }
follows desc (Steps core feed ∷ moves) place done h =
    let after : Machine = (step desc place.machine core feed).after in
    let items : List Item = recorded desc core moves after in
    let on = core_now desc (core == place.core) core (feed_item (place.machine.inner.steps + 1) feed ++ items) place refl in
    let fed = fed_now desc feed items (record place { core = core; passed = on.0 }) h in
    let ready : Place = record place { core = core; feed = feed; passed = fed.0 } in
    let can : can_step desc ready ≡ true = both_true (is_running place.machine.inner.state) (length feed == asked_size desc place.machine core) done.0.0 (eq-eqb (length feed) (asked_size desc place.machine core) done.0.1) in
    let starts : Begins (place.machine.inner.steps + 1) items = rw (counted desc place.machine core feed) at (begins desc core moves after) in
    let rest = follows desc moves (stepped desc ready) done.1 refl in
    let whole : follow desc (recorded desc place.core (Steps core feed ∷ moves) place.machine) place ≡ follow desc items (stepped desc ready) =
    ap (λ (l : List Item). follow desc l place) (recorded_step desc place.core core feed moves place.machine) ∙ (on.1 ∙ (fed.1 ∙ skips desc items ready can starts)) in
    record {
      machine = ap (λ (p : Place). p.machine) whole ∙ rest.machine;
      moves_made = ap (λ (p : Place). p.moves) whole ∙ (rest.moves_made ∙ append_assoc place.moves (Steps core feed ∷ []) moves);
    }

pub tells : RecordingsTellMoves
unfolding alone
tells desc moves done =
    let all = follows desc moves (opening (fresh desc)) done refl in
    record { machine = all.machine; moves_made = all.moves_made }
