use Rattle.dt_write.proofs.CanonicalBlob.{canonical_blob}
use Rattle.dt_write.proofs.laws.canonical_is_a_blob.Goals as goal

pub returns : goal.returns
returns c = canonical_blob
