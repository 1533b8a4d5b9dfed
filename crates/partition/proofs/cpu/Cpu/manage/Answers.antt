use Rattle.std.proofs.Common.{[], ap, ◌∙◌}
use Rattle.partition.specs.Act.{act_of}
use Rattle.partition.specs.Machine.{Cpu}
use Rattle.partition.proofs.Managed.{stops_so, restarts_so}
use Rattle.partition.proofs.cpu.Cpu.manage.Goals as goal

pub returns-in-Stop-clause-managed : goal.returns-in-Stop-clause-managed
returns-in-Stop-clause-managed g c =
    stops_so c.args.desc.now.ports c.args.call c.args.self.now c.obey.new.self c.regs-in-Stop.result.now c.args.vpic.now (g.P.Ports.seen c.args.ports.now) _ (act_of [] c.obey.result) c.in-Stop.is
    (c.regs-in-Stop.ensures ∙ ap (λ (cpu : Cpu). cpu.registers) c.self-in-Stop.view_is) c.stop-served.ensures.served c.obey.ensures.obeyed

pub returns-in-Restart-clause-managed : goal.returns-in-Restart-clause-managed
returns-in-Restart-clause-managed g c =
    restarts_so c.args.desc.now.ports c.args.call c.args.self.now c.obey-in-Restart.new.self c.regs-in-Restart.result.now c.args.vpic.now (g.P.Ports.seen c.args.ports.now) _ (act_of [] c.obey-in-Restart.result) c.in-Restart.is
    (c.regs-in-Restart.ensures ∙ ap (λ (cpu : Cpu). cpu.registers) c.self-in-Restart.view_is) c.restart-served.ensures.served c.obey-in-Restart.ensures.obeyed
