use Rattle.std.proofs.Common.{refl}
use Rattle.dt_read.proofs.Verdicts.{end_11}
use Rattle.dt_read.proofs.Places.{at_before, at_after}
use Rattle.dt_read.proofs.builder.end.Goals as goal

pub returns-in-Before : goal.returns-in-Before
returns-in-Before c = rw (at_before _ c.args.builder c.in-Before.is c.builder.view_is) (end_11 _ refl)

pub returns : goal.returns
returns c = end_11 _ (at_after _ _ _ c.args.builder c.in-After.field-0 c.in-After.is c.builder.view_is c.builder.invariant).0.depth_is
