use Rattle.hcall_abi.proofs.Words.{words_spelled}
use Rattle.hcall_abi.proofs.laws.words_spell_their_bytes.Goals as goal

pub returns : goal.returns
returns c = words_spelled
