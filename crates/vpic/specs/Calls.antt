-- What the calls of a guest do to its controller, and which of them it may make.
use Rattle.std.specs.Prelude.{ℕ, ◌==◌, Bool, ◌&&◌, not, nat_lt, nat_le, Option, Some, None, slice_set, if◌then◌else◌}
use Rattle.vpic.specs.Numbers.{has, with_number, without_number}
use Rattle.vpic.specs.Controller.{Controller, source, is_number}

-- The interrupt that is chosen comes into service, and is no longer latched.
unfoldable pub taken : Option ℕ → Controller → Controller
taken None controller = controller
taken (Some n) controller =
    record controller { in_service = with_number controller.in_service n; latched = without_number controller.latched n }

-- a number whose service hasn't ended
abbrev pub is_in_service : Controller → ℕ → Bool
is_in_service controller n = is_number controller n && has controller.in_service n

unfoldable pub ended : ℕ → Controller → Controller
ended n controller = record controller { in_service = without_number controller.in_service n }

-- a configuration of two bits, a priority of four and the one destination that there is
abbrev pub may_configure : Controller → ℕ → ℕ → ℕ → ℕ → Bool
may_configure controller n config priority dest =
    is_number controller n && (nat_lt config 4 && (nat_le priority 15 && (dest == 0)))

unfoldable pub configured : ℕ → ℕ → ℕ → ℕ → Controller → Controller
configured n config priority dest controller = record controller { sources = slice_set controller.sources n (source config priority dest) }

-- any mask but 0 masks
unfoldable pub with_mask : ℕ → ℕ → Controller → Controller
with_mask n mask controller =
    record controller { unmasked = if mask == 0 then with_number controller.unmasked n else without_number controller.unmasked n }

-- whether a number is masked
abbrev pub mask_of : Controller → ℕ → Option Bool
mask_of controller n = if is_number controller n then Some (not (has controller.unmasked n)) else None

-- a task priority of four bits
abbrev pub may_set_task : ℕ → Bool
may_set_task priority = nat_le priority 15

unfoldable pub with_task : ℕ → Controller → Controller
with_task priority controller = record controller { task = priority }

-- a doorbell's latch
unfoldable pub rung : ℕ → Controller → Controller
rung n controller = record controller { latched = with_number controller.latched n }
