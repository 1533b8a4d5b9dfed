-- How the chosen interrupt is sought.
use Rattle.std.specs.Prelude.{◌≡◌, ℕ, Bool, true, ◌&&◌, nat_lt, max, Option, Some, None, bit_and, bit_or, if◌then◌else◌}
use Rattle.std.specs.Int.{w128, bit_not}
use Rattle.vpic.specs.Numbers.{has}
use Rattle.vpic.specs.Controller.{Controller, priority_of}
use Rattle.vpic.specs.Choice.{is_above_all}

-- the numbers that are up, not masked and not in service
unfoldable pub ready : Controller → ℕ → ℕ
ready controller levels = bit_and (bit_and (bit_or levels controller.latched) controller.unmasked) (bit_not w128 controller.in_service)

-- The floor is the highest priority that holds others back: what is above it is above all.
abbrev pub IsFloor : Controller → ℕ → Type 0
IsFloor controller floor = (priority : ℕ) → nat_lt floor priority ≡ is_above_all controller priority

-- the higher of a priority and that of a source, if it is in service
abbrev pub raised : Controller → ℕ → ℕ → ℕ
raised controller floor n = if has controller.in_service n then max floor (priority_of controller n) else floor

-- one of those that are ready, which nothing holds back
abbrev pub is_free : Controller → ℕ → ℕ → Bool
is_free controller ready n = has ready n && is_above_all controller (priority_of controller n)

-- a later source comes before the best of those so far by its priority alone
abbrev pub exceeds : Controller → Option ℕ → ℕ → Bool
exceeds controller None n = true
exceeds controller (Some best) n = nat_lt (priority_of controller best) (priority_of controller n)

-- the best of the sources so far and one more
unfoldable pub better : Controller → ℕ → Option ℕ → ℕ → Option ℕ
better controller ready best n = if is_free controller ready n && exceeds controller best n then Some n else best
