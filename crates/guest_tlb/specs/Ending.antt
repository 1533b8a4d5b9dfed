-- The writes and invalidations that end translations, as the code names them, each with its test.
use Rattle.std.specs.Prelude.{ℕ, Bool}
use Rattle.mas.specs.declared.entry.Entry.{Entry}
use Rattle.guest_tlb.specs.declared.ending.Ending.{Ending}
use Rattle.guest_tlb.specs.declared.ending.Ending.TheVariants.{All, Pid, Address, Write}
use Rattle.guest_tlb.specs.Invalidation.{ends_all, ends_pid, ends_address, ends_write}

abbrev pub test_of : Ending → ℕ → Entry → Bool
test_of (All tlb0 tlb1) = ends_all tlb0 tlb1
test_of (Pid pid) = ends_pid pid
test_of (Address ea pid tlb0 tlb1) = ends_address ea pid tlb0 tlb1
test_of (Write slot entry) = ends_write slot entry
