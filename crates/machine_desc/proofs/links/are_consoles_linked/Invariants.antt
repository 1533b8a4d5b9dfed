use Rattle.std.proofs.Common.{◌≡◌, ◌-◌}
use Rattle.std.specs.List.{list_all, range_with_len}
use Rattle.machine_desc.specs.Joined.{is_console_linked}
use Rattle.machine_desc.proofs.links.are_consoles_linked.Given as goal

abbrev pub invariant-loop-number : goal.invariant-loop-number
invariant-loop-number l =
    list_all (is_console_linked l.links) (range_with_len l.number (l.count - l.number)) ≡ list_all (is_console_linked l.links) (range_with_len 0 l.count)
