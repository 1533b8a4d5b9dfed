-- What the choice is for: one interrupt at most, and the best.
use Rattle.std.specs.Prelude.{◌≡◌, ℕ, ◌<◌, ◌==◌, true, false, not, ◌&&◌, ◌||◌, Some, None}
use Rattle.vpic.specs.Numbers.{has, with_number, without_number}
use Rattle.vpic.specs.Controller.{Controller, is_number}
use Rattle.vpic.specs.Choice.{is_eligible, is_chosen, chosen}

-- At most one source is chosen,
abbrev pub OneIsChosen : Type 0
OneIsChosen =
    (controller : Controller) (levels n m : ℕ) → is_number controller n ≡ true → is_number controller m ≡ true
    → is_chosen controller levels n ≡ true → is_chosen controller levels m ≡ true → n ≡ m

-- it is the one that is answered,
abbrev pub TheChosenIsFound : Type 0
TheChosenIsFound = (controller : Controller) (levels n : ℕ) → chosen controller levels ≡ Some n → (is_number controller n && is_chosen controller levels n) ≡ true

-- and none is where no source may be taken.
abbrev pub NoneIsFound : Type 0
NoneIsFound =
    (controller : Controller) (levels n : ℕ) → chosen controller levels ≡ None → is_number controller n ≡ true → is_eligible controller levels n ≡ false

-- A number that is put into a set is in it, one that is taken out isn't, and no other changes.
abbrev pub PutIn : Type 0
PutIn = (set n m : ℕ) → n < 128 → has (with_number set n) m ≡ ((m == n) || has set m)

abbrev pub TakenOut : Type 0
TakenOut = (set n m : ℕ) → n < 128 → m < 128 → has (without_number set n) m ≡ (not (m == n) && has set m)
