use Rattle.system.proofs.Loaded.{IsSoFar}
use Rattle.system.proofs.beginning.loaded_memory.Given as goal

abbrev pub invariant-loop-part : goal.invariant-loop-part
invariant-loop-part l = IsSoFar l.descs l.wiring l.part l.memory
