use Rattle.dt_model.proofs.Rewritten.{rewritten-is}
use Rattle.dt_model.proofs.law.rewritten_is_canonical.Goals as goal

pub returns : goal.returns
returns c = rewritten-is
