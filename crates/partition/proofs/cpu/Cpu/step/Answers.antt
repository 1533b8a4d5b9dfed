use Rattle.std.proofs.Common.{ℕ, Bool, List}
use Rattle.ground.specs.Own.{own_of}
use Rattle.fresh_load.specs.Placed.{extents_of}
use Rattle.partition.specs.Machine.{Cpu, shape_of}
use Rattle.partition.specs.Asking.{asked_by, copy_in}
use Rattle.partition.specs.Lending.{pieces_of}
use Rattle.partition.proofs.Steps.{core_done}
use Rattle.partition.proofs.cpu.Cpu.step.Goals as goal

pub returns-clause-stepped : goal.returns-clause-stepped
returns-clause-stepped g c =
    let memory = own_of (extents_of c.args.desc.now.regions) c.args.ground.now in
    let feed : Bool → Cpu → List ℕ = λ line cpu. g.P.Ports.feed c.args.ports.now c.args.ground.now (asked_by c.args.desc.now.ports (copy_in (shape_of c.args.desc.now) line cpu memory)).handle (asked_by c.args.desc.now.ports (copy_in (shape_of c.args.desc.now) line cpu memory)).ranges in
    core_done c.args.desc.now c.is_line_up-line.result c.args.self.now c.begin.new.self c.act.new.self c.args.vpic.now c.act.new.vpic (g.P.Ports.seen c.args.ports.now) c.args.ground.now c.act.new.ground feed
    (pieces_of c.args.desc.now.regions c.act.new.ground (g.P.Ports.last c.act.new.ports)) c.act.result.act c.act.result.shared.items c.is_line_up-line.ensures c.begin.ensures c.act.ensures.acted
