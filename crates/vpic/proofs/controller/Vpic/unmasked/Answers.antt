use Rattle.vpic.proofs.Ready.{unmasked_alone}
use Rattle.vpic.proofs.controller.Vpic.unmasked.Goals as goal

pub returns-clause-alone : goal.returns-clause-alone
returns-clause-alone c = λ levels. unmasked_alone c.args.self.now levels
