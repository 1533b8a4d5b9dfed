use Rattle.std.proofs.Common.{◌≡◌, ap, sym, subst, ◌∙◌}
use Rattle.partition_manager.specs.declared.decision.Decision.TheVariants.{Go}
use Rattle.partition_manager.specs.Decisions.{decide_start}
use Rattle.partition.specs.Port.{kinds_of}
use Rattle.partition.specs.Managing.{runs_at}
use Rattle.partition.specs.Lending.{HasEntry, HasHandle}
use Rattle.partition.proofs.Managed.{starts, starts_aligned}
use Rattle.partition.proofs.managing.start.Goals as goal

pub returns-in-Go-clause-handle : goal.returns-in-Go-clause-handle
returns-in-Go-clause-handle g c =
    let ports = c.args.desc.now.ports in
    let ends = g.P.Ports.seen c.args.ports.now in
    let handle = c.gpr-handle.result in
    let goes : decide_start ports handle c.gpr-entry.result (runs_at ports ends handle) ≡ Go =
    ap (decide_start ports handle c.gpr-entry.result) (sym c.runs.ensures) ∙ (sym c.decide_start.ensures ∙ c.in-Go.is) in
    subst (HasHandle (kinds_of ports)) (sym c.commanding.ensures.act) (starts ports ends handle c.gpr-entry.result goes).kind

pub returns-in-Go-clause-entry : goal.returns-in-Go-clause-entry
returns-in-Go-clause-entry g c =
    subst HasEntry (sym c.commanding.ensures.act)
    (starts_aligned c.args.desc.now.ports c.gpr-handle.result c.gpr-entry.result c.runs.result (sym c.decide_start.ensures ∙ c.in-Go.is))
