use Rattle.trap_emulate.proofs.Returns.{returns_go_back}
use Rattle.trap_emulate.proofs.laws.returns_go_back.Goals as goal

pub returns : goal.returns
returns c = returns_go_back
