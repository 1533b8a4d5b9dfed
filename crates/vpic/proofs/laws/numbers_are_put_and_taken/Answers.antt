use Rattle.vpic.proofs.Bits.{put_in, taken_out}
use Rattle.vpic.proofs.laws.numbers_are_put_and_taken.Goals as goal

pub returns-clause-put : goal.returns-clause-put
returns-clause-put c = put_in

pub returns-clause-taken : goal.returns-clause-taken
returns-clause-taken c = taken_out
