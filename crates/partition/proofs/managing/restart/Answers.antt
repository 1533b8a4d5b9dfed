use Rattle.std.proofs.Common.{◌≡◌, ap, sym, ◌∙◌}
use Rattle.machine_desc.specs.declared.act.Act.TheVariants as told
use Rattle.partition_manager.specs.declared.decision.Decision.TheVariants.{Go}
use Rattle.partition_manager.specs.Decisions.{decide_restart}
use Rattle.partition.specs.Port.{kinds_of}
use Rattle.partition.specs.Managing.{runs_at}
use Rattle.partition.proofs.Managed.{restarts, own_kind}
use Rattle.partition.proofs.managing.restart.Goals as goal

pub returns-in-Go-clause-handle : goal.returns-in-Go-clause-handle
returns-in-Go-clause-handle g c =
    let ports = c.args.desc.now.ports in
    let ends = g.P.Ports.seen c.args.ports.now in
    let handle = c.gpr-handle.result in
    let goes : decide_restart ports handle (runs_at ports ends handle) ≡ Go = ap (decide_restart ports handle) (sym c.runs.ensures) ∙ (sym c.decide_restart.ensures ∙ c.in-Go.is) in
    own_kind (kinds_of ports) handle told.SelfRestart (told.Restart handle) c.commanding.result.act (c.commanding.ensures.act ∙ c.own_or.ensures) tt
    (λ other. (restarts ports ends handle goes other).kind)
