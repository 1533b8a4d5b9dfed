use Rattle.ground.proofs.Writes.{loaded_back}
use Rattle.ground.proofs.law.store_is_loaded_back.Goals as goal

pub returns : goal.returns
returns c = loaded_back
