use Rattle.dt_model.proofs.Blobs.{no_fault}
use Rattle.dt_model.proofs.law.blobs_have_no_fault.Goals as goal

pub returns : goal.returns
returns c = no_fault
