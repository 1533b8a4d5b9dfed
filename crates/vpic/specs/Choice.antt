-- Which interrupt is chosen, where `levels` are the sources whose level is up.
use Rattle.std.specs.Prelude.{ℕ, ◌==◌, Bool, not, ◌&&◌, ◌||◌, nat_lt, List, length, Option, find}
use Rattle.std.specs.List.{range_with_len, list_all}
use Rattle.vpic.specs.Numbers.{has}
use Rattle.vpic.specs.Controller.{Controller, priority_of}

-- the numbers of the sources
abbrev pub numbers : Controller → List ℕ
numbers controller = range_with_len 0 (length controller.sources)

-- A source is up by its level or by its latch.
abbrev pub is_up : Controller → ℕ → ℕ → Bool
is_up controller levels n = has levels n || has controller.latched n

-- a priority above the task's and above that of every source in service
unfoldable pub is_above_all : Controller → ℕ → Bool
is_above_all controller priority =
    nat_lt controller.task priority && list_all (λ m. not (has controller.in_service m) || nat_lt (priority_of controller m) priority) (numbers controller)

-- A source may be taken where it is up, not masked, not in service, and its priority is above all that holds it back.
unfoldable pub is_eligible : Controller → ℕ → ℕ → Bool
is_eligible controller levels n =
    is_up controller levels n && (has controller.unmasked n && (not (has controller.in_service n) && is_above_all controller (priority_of controller n)))

-- of two sources the one of the higher priority comes first, and of equal ones the one of the lower number
abbrev pub comes_before : Controller → ℕ → ℕ → Bool
comes_before controller m n =
    nat_lt (priority_of controller n) (priority_of controller m) || ((priority_of controller m == priority_of controller n) && nat_lt m n)

-- The source that is chosen is eligible, and no eligible one comes before it.
unfoldable pub is_chosen : Controller → ℕ → ℕ → Bool
is_chosen controller levels n =
    is_eligible controller levels n && list_all (λ m. not (is_eligible controller levels m && comes_before controller m n)) (numbers controller)

-- the number that is chosen, if one is
unfoldable pub chosen : Controller → ℕ → Option ℕ
chosen controller levels = find (is_chosen controller levels) (numbers controller)
