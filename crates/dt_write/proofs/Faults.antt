-- A fault is the same whatever would have been answered without it.
use Rattle.std.proofs.Common.{◌≡◌, Err, IsErrOf, ap}
use Rattle.dt_write.specs.declared.fault.WriteFault.{WriteFault}

pub same_fault : {S T : Type 0} (e f : WriteFault) → IsErrOf {T = S} {E = WriteFault} (Err e) f → IsErrOf {T = T} {E = WriteFault} (Err e) f
same_fault e f is = let same : e ≡ f = cc in ap (λ (g : WriteFault). Err g) same
