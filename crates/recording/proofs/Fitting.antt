-- What is recorded of moves that could be made fits.
use Rattle.std.proofs.Common.{◌≡◌, ℕ, ◌+◌, ◌*◌, ◌<◌, ◌≤◌, ◌==◌, Bool, true, false, ◌&&◌, ◌||◌, List, [], ◌∷◌, ◌++◌, length, refl, sym, ap, ◌∙◌, arith}
use Rattle.std.proofs.lemmas.Bool.{eqb-true, eq-eqb, le-leb, lt-ltb}
use Rattle.std.specs.Prelude.{nat_le}
use Rattle.machine_desc.specs.declared.desc.Desc.{Desc}
use Rattle.partition.specs.Machine.{Machine, fresh}
use Rattle.partition.specs.Step.{step}
use Rattle.partition.specs.Event.{apply}
use Rattle.partition.specs.Reached.{Move, Steps, Takes}
use Rattle.recording.specs.Recording.{Item, After, Feed, OnCore, Until, feed_item, recorded}
use Rattle.recording.specs.Alone.{is_running, asked_size, Place, opening, can_step, stepped, count_of, rank_of, heeded}
use Rattle.recording.specs.Fits.{is_empty, suits, fits_from, fits}
use Rattle.recording.specs.Laws.{IsAllowed, EachMove, AllowedMovesFit}
use Rattle.recording.proofs.Along.{counted, kept, reaches_on, reaches_now, Begins, begins, core_if, recorded_step, step_before, both_true}

or_true : (b : Bool) → (b || true) ≡ true
or_true true = refl
or_true false = refl

skips_right : (desc : Desc) (items : List Item) (place : Place) → can_step desc place ≡ true → Begins (place.machine.inner.steps + 1) items → fits_from desc items place ≡ fits_from desc items (stepped desc place)
skips_right desc [] place can begins = absurd begins
skips_right desc (item ∷ items) place can begins =
    ap (λ (p : Place). (nat_le place.passed (rank_of item + 1) && ((p.machine.inner.steps == count_of item) && suits desc item p)) && fits_from desc items (heeded desc item p)) (reaches_on desc item place can begins)

right_now : (desc : Desc) (item : Item) (items : List Item) (place : Place) → count_of item ≡ place.machine.inner.steps → place.passed ≤ rank_of item + 1 → suits desc item place ≡ true
    → fits_from desc (item ∷ items) place ≡ fits_from desc items (heeded desc item place)
right_now desc item items place now order suit =
    ap (λ (p : Place). (nat_le place.passed (rank_of item + 1) && ((p.machine.inner.steps == count_of item) && suits desc item p)) && fits_from desc items (heeded desc item p)) (reaches_now desc item place now)
    ∙ ap (λ (b : Bool). b && fits_from desc items (heeded desc item place))
    (both_true (nat_le place.passed (rank_of item + 1)) _ (le-leb place.passed (rank_of item + 1) order) (both_true (place.machine.inner.steps == count_of item) (suits desc item place) (eq-eqb place.machine.inner.steps (count_of item) (sym now)) suit))

-- ---- the items of a step

fed_right : (desc : Desc) (feed : List ℕ) (items : List Item) (place : Place) → place.feed ≡ [] → place.passed ≤ 2 * (place.machine.inner.steps + 1) + 1
    → is_running place.machine.inner.state ≡ true → length feed ≡ asked_size desc place.machine place.core
    → (at : ℕ) × (at ≤ 2 * (place.machine.inner.steps + 1) + 1) × (fits_from desc (feed_item (place.machine.inner.steps + 1) feed ++ items) place ≡ fits_from desc items (record place { feed = feed; passed = at }))
fed_right desc [] items place h order runs size = (place.passed, order, ap (λ (f : List ℕ). fits_from desc items (record place { feed = f })) h)
fed_right desc (byte ∷ feed) items place h order runs size = (
  2 * (place.machine.inner.steps + 1) + 1,
  omega arith,
  right_now desc (Feed (place.machine.inner.steps + 1) (byte ∷ feed)) items place (step_before place.machine.inner.steps) order
      (both_true (is_running place.machine.inner.state) _ runs
      (both_true (place.machine.inner.steps + 1 == place.machine.inner.steps + 1) _ (eq-eqb (place.machine.inner.steps + 1) (place.machine.inner.steps + 1) refl)
      (both_true (is_empty place.feed) _ (ap is_empty h) (eq-eqb (length (byte ∷ feed)) (asked_size desc place.machine place.core) size)))),
)

core_right : (desc : Desc) (b : Bool) (core : ℕ) (items : List Item) (place : Place) → (core == place.core) ≡ b → place.passed ≤ 2 * place.machine.inner.steps + 2
    → is_running place.machine.inner.state ≡ true → core < length desc.cores
    → (at : ℕ) × (at ≤ 2 * (place.machine.inner.steps + 1) + 1) × (fits_from desc (core_if b (place.machine.inner.steps + 1) core ++ items) place ≡ fits_from desc items (record place { core = core; passed = at }))
core_right desc true core items place h order runs there =
    (place.passed, omega (arith, order), ap (λ (c : ℕ). fits_from desc items (record place { core = c })) (sym (eqb-true core place.core h)))
core_right desc false core items place h order runs there = (
  2 * (place.machine.inner.steps + 1) + 1,
  omega arith,
  right_now desc (OnCore (place.machine.inner.steps + 1) core) items place (step_before place.machine.inner.steps) (omega (arith, order))
      (both_true (place.machine.inner.steps + 1 == 0 || is_running place.machine.inner.state) _
      (ap (λ (b : Bool). (place.machine.inner.steps + 1 == 0) || b) runs ∙ or_true (place.machine.inner.steps + 1 == 0))
      (both_true _ (nat_le place.passed (2 * (place.machine.inner.steps + 1))) (lt-ltb core (length desc.cores) there) (le-leb place.passed (2 * (place.machine.inner.steps + 1)) (omega (arith, order))))),
)

-- ---- all moves

pub fits_recorded : (desc : Desc) (moves : List Move) (place : Place) → EachMove IsAllowed desc moves place.machine → place.feed ≡ [] → place.passed ≤ 2 * place.machine.inner.steps + 2
    → fits_from desc (recorded desc place.core moves place.machine) place ≡ true
fits_recorded desc [] place allowed h order = right_now desc (Until place.machine.inner.steps) [] place refl (omega (arith, order)) refl
fits_recorded desc (Takes event ∷ moves) place allowed h order =
    right_now desc (After place.machine.inner.steps event) (recorded desc place.core moves (apply desc place.machine event)) place refl (omega (arith, order)) allowed.0
    ∙ fits_recorded desc moves (heeded desc (After place.machine.inner.steps event) place) allowed.1 h (let k = kept desc event place.machine in omega (arith, k))
fits_recorded desc (Steps core feed ∷ moves) place allowed h order =
    let after : Machine = (step desc place.machine core feed).after in
    let items : List Item = recorded desc core moves after in
    let there = allowed.0.0 in
    let runs = allowed.0.1.0 in
    let size = allowed.0.1.1 in
    let on = core_right desc (core == place.core) core (feed_item (place.machine.inner.steps + 1) feed ++ items) place refl order runs there in
    let fed = fed_right desc feed items (record place { core = core; passed = on.0 }) h on.1 runs size in
    let ready : Place = record place { core = core; feed = feed; passed = fed.0 } in
    let can : can_step desc ready ≡ true = both_true (is_running place.machine.inner.state) (length feed == asked_size desc place.machine core) runs (eq-eqb (length feed) (asked_size desc place.machine core) size) in
    let starts : Begins (place.machine.inner.steps + 1) items = rw (counted desc place.machine core feed) at (begins desc core moves after) in
    ap (λ (l : List Item). fits_from desc l place) (recorded_step desc place.core core feed moves place.machine)
    ∙ (on.2 ∙ (fed.2 ∙ (skips_right desc items ready can starts
    ∙ fits_recorded desc moves (stepped desc ready) allowed.1 refl (let k = counted desc place.machine core feed in let j = fed.1 in omega (arith, k, j)))))

pub allowed_fit : AllowedMovesFit
unfolding fits
allowed_fit desc moves allowed = fits_recorded desc moves (opening (fresh desc)) allowed refl (omega arith)
