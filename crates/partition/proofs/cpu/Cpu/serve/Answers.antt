use Rattle.std.proofs.Common.{None, sym, subst}
use Rattle.machine_desc.specs.declared.act.Act.{Act as Told}
use Rattle.partition.specs.Lending.{IsLent}
use Rattle.partition.proofs.cpu.Cpu.serve.Goals as goal

pub returns-in-Send-clause-lent : goal.returns-in-Send-clause-lent
returns-in-Send-clause-lent g c memory =
    subst (λ (act : Told). IsLent g.P.Ports.kinds g.P.Ports.seen g.P.Ports.sends g.P.Ports.takes g.P.Ports.copies g.P.Ports.told g.P.Ports.last None memory act c.args.ports.now c.send-served.new.ports) (sym c.answer.ensures.act) (c.send-served.ensures.lent memory)

pub returns-in-Receive-clause-lent : goal.returns-in-Receive-clause-lent
returns-in-Receive-clause-lent g c memory =
    subst (λ (act : Told). IsLent g.P.Ports.kinds g.P.Ports.seen g.P.Ports.sends g.P.Ports.takes g.P.Ports.copies g.P.Ports.told g.P.Ports.last None memory act c.args.ports.now c.receive-served.new.ports) (sym c.answer-in-Receive.ensures.act) (c.receive-served.ensures.lent memory)
