use Rattle.copy_lists.proofs.Meaning.{bytes_put_are_read}
use Rattle.copy_lists.proofs.laws.bytes_put_are_read.Goals as goal

pub returns : goal.returns
returns c = bytes_put_are_read
