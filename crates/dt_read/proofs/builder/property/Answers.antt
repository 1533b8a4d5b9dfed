use Rattle.std.proofs.Common.{refl}
use Rattle.dt_read.proofs.Places.{at_before, at_after}
use Rattle.dt_read.proofs.builder.property.Goals as goal

pub returns-in-Before : goal.returns-in-Before
returns-in-Before c = c.property_fault.ensures c.args.builder (rw (at_before _ c.args.builder c.in-Before.is c.builder.view_is) refl)

pub returns : goal.returns
returns c = c.property_fault-in-After.ensures c.args.builder (at_after _ _ _ c.args.builder c.in-After.field-0 c.in-After.is c.builder.view_is c.builder.invariant).0.depth_is
