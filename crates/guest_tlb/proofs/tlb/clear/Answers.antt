use Rattle.std.proofs.Common.{arith}
use Rattle.guest_tlb.proofs.Reset.{filled}
use Rattle.guest_tlb.proofs.tlb.clear.Goals as goal

pub returns : goal.returns
returns c =
    filled _ (omega arith) (λ k h. c.loop-slot.invariant k (omega arith))
