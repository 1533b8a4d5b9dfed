use Rattle.dt_read.proofs.Verdicts.{finish_11, finish_12, finish_sound}
use Rattle.dt_read.proofs.Places.{at_before, at_after, at_inside}
use Rattle.dt_read.proofs.builder.Builder.finish.Goals as goal

pub returns-in-Before : goal.returns-in-Before
returns-in-Before c = rw (at_before _ c.args.self c.in-Before.is c.self.view_is) finish_11

pub returns-in-Inside : goal.returns-in-Inside
returns-in-Inside c =
    let known = at_inside _ _ _ c.args.self _ _ c.in-Inside.is c.self.view_is c.self.invariant in
    finish_12 _ known.0 known.1

pub returns : goal.returns
returns c =
    let known = at_after _ _ _ c.args.self c.in-After.root c.in-After.is c.self.view_is c.self.invariant in
    (finish_sound _ known.0.begun known.0.depth_is, known.1)
