use Rattle.std.proofs.Common.{◌+◌, ap}
use Rattle.partition.specs.Lending.{Part}
use Rattle.partition.proofs.Anew.{restarted_part}
use Rattle.partition.proofs.partition.Partition.settle.Goals as goal

pub returns-in-SelfRestart-clause-inner : goal.returns-in-SelfRestart-clause-inner
returns-in-SelfRestart-clause-inner c =
    restarted_part c.args.self.now _ c.restart.new.self c.args.ground.now c.restart.new.ground c.args.act.now c.in-SelfRestart.is
    (ap (λ (p : Part). record p { inner = record p.inner { steps = p.inner.steps + 1 } }) c.self.view_is) c.restart.ensures.restarted c.restart.ensures.desc
