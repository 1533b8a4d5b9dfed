use Rattle.std.proofs.Common.{◌≡◌, ℕ, ◌<◌, get_or}
use Rattle.guest_tlb.specs.Slots.{blank, initial_entry}
use Rattle.guest_tlb.proofs.tlb.clear.Given as goal

abbrev pub invariant-loop-slot : goal.invariant-loop-slot
invariant-loop-slot l = (k : ℕ) → k < l.slot → get_or l.slots k blank ≡ initial_entry k
