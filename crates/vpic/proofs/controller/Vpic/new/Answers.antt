use Rattle.std.proofs.Common.{arith}
use Rattle.vpic.proofs.Keeping.{made}
use Rattle.vpic.proofs.controller.Vpic.new.Goals as goal

pub invariant_of-result : goal.invariant_of-result
invariant_of-result c = made c.loop.sources.items c.loop.counter (omega (arith, c.loop.auto.counter-end, c.requires)) c.loop.invariant.sources
