use Rattle.std.proofs.Common.{◌≡◌, ℕ, ◌&&◌, true, false, List, Option, ap, sym, subst, ◌∙◌}
use Rattle.ground.specs.Own.{own_of}
use Rattle.fresh_load.specs.Placed.{extents_of}
use Rattle.guest_regs.specs.Registers.{Registers}
use Rattle.trap_emulate.specs.Entry.{are_interrupts_enabled}
use Rattle.partition.specs.Machine.{Cpu, shape_of}
use Rattle.partition.specs.Copying.{Copy}
use Rattle.partition.specs.Asking.{asked_by, copy_in}
use Rattle.partition.specs.Step.{is_pending, CoreStepped, instruction}
use Rattle.partition.specs.Lending.{IsCoreStepped, IsLent, pieces_of}
use Rattle.partition.proofs.Asked.{none_entered, none_idle, as_done}
use Rattle.partition.proofs.Calls.{instructs}
use Rattle.partition.proofs.Lent.{nothing_lent}
use Rattle.partition.proofs.cpu.Cpu.act.Goals as goal

pub returns-then-is_entered-clause-lent : goal.returns-then-is_entered-clause-lent
returns-then-is_entered-clause-lent g c =
    let enters : (is_pending c.args.line c.args.self.now.registers && are_interrupts_enabled c.args.self.now.registers) ≡ true =
    ap (λ (r : Registers). is_pending c.args.line r && are_interrupts_enabled r) (sym (c.regs.ensures ∙ ap (λ (cpu : Cpu). cpu.registers) c.self.view_is)) ∙ sym c.is_entered.ensures ∙ c.if-is_entered.true in
    nothing_lent g.P.Ports.kinds g.P.Ports.seen g.P.Ports.sends g.P.Ports.takes g.P.Ports.copies g.P.Ports.told g.P.Ports.last _ c.args.ground.now c.only.result.act c.args.ports.now c.only.ensures.act
    (none_entered (shape_of c.args.desc.now) c.args.line c.args.self.now (own_of (extents_of c.args.desc.now.regions) c.args.ground.now) enters)

pub returns-then-idle-clause-lent : goal.returns-then-idle-clause-lent
returns-then-idle-clause-lent g c =
    let waits : c.args.self.now.registers.idle ≡ true = ap (λ (r : Registers). r.idle) (sym (c.regs-2.ensures ∙ ap (λ (cpu : Cpu). cpu.registers) c.self.view_is)) ∙ sym c.idle.ensures ∙ c.if-idle.true in
    nothing_lent g.P.Ports.kinds g.P.Ports.seen g.P.Ports.sends g.P.Ports.takes g.P.Ports.copies g.P.Ports.told g.P.Ports.last _ c.args.ground.now c.only-then-idle.result.act c.args.ports.now c.only-then-idle.ensures.act
    (none_idle (shape_of c.args.desc.now) c.args.line c.args.self.now (own_of (extents_of c.args.desc.now.regions) c.args.ground.now) waits)

pub returns-clause-acted : goal.returns-clause-acted
returns-clause-acted g c =
    let shape = shape_of c.args.desc.now in
    let names = extents_of c.args.desc.now.regions in
    let cpu : Cpu = c.args.self.now in
    let memory : List (List ℕ) = own_of names c.args.ground.now in
    let ends = g.P.Ports.seen c.args.ports.now in
    let undisturbed : (is_pending c.args.line cpu.registers && are_interrupts_enabled cpu.registers) ≡ false =
    ap (λ (r : Registers). is_pending c.args.line r && are_interrupts_enabled r) (sym (c.regs.ensures ∙ ap (λ (it : Cpu). it.registers) c.self.view_is)) ∙ sym c.is_entered.ensures ∙ c.if-is_entered.false in
    let awake : cpu.registers.idle ≡ false = ap (λ (r : Registers). r.idle) (sym (c.regs-2.ensures ∙ ap (λ (it : Cpu). it.registers) c.self.view_is)) ∙ sym c.idle.ensures ∙ c.if-idle.false in
    let feed : Option Copy → List ℕ = λ copy. g.P.Ports.feed c.args.ports.now c.args.ground.now (asked_by c.args.desc.now.ports copy).handle (asked_by c.args.desc.now.ports copy).ranges in
    let pieces = pieces_of c.args.desc.now.regions c.instruct.new.ground (g.P.Ports.last c.instruct.new.ports) in
    subst (λ (s : CoreStepped). IsCoreStepped names pieces s c.instruct.new.self c.instruct.new.vpic c.instruct.new.ground c.instruct.result.act c.instruct.result.shared.items)
    (sym (instructs shape c.args.line cpu c.args.vpic.now ends memory (feed (copy_in shape c.args.line cpu memory)) undisturbed awake))
    (subst (λ (copy : Option Copy). IsCoreStepped names pieces (instruction shape cpu c.args.vpic.now ends memory (feed copy)) c.instruct.new.self c.instruct.new.vpic c.instruct.new.ground c.instruct.result.act c.instruct.result.shared.items)
    (sym (as_done shape c.args.line cpu memory undisturbed awake)) c.instruct.ensures.done)

pub returns-clause-lent : goal.returns-clause-lent
returns-clause-lent g c =
    let cpu : Cpu = c.args.self.now in
    let memory : List (List ℕ) = own_of (extents_of c.args.desc.now.regions) c.args.ground.now in
    let undisturbed : (is_pending c.args.line cpu.registers && are_interrupts_enabled cpu.registers) ≡ false =
    ap (λ (r : Registers). is_pending c.args.line r && are_interrupts_enabled r) (sym (c.regs.ensures ∙ ap (λ (it : Cpu). it.registers) c.self.view_is)) ∙ sym c.is_entered.ensures ∙ c.if-is_entered.false in
    let awake : cpu.registers.idle ≡ false = ap (λ (r : Registers). r.idle) (sym (c.regs-2.ensures ∙ ap (λ (it : Cpu). it.registers) c.self.view_is)) ∙ sym c.idle.ensures ∙ c.if-idle.false in
    subst (λ (copy : Option Copy). IsLent g.P.Ports.kinds g.P.Ports.seen g.P.Ports.sends g.P.Ports.takes g.P.Ports.copies g.P.Ports.told g.P.Ports.last copy c.args.ground.now c.instruct.result.act c.args.ports.now c.instruct.new.ports)
    (sym (as_done (shape_of c.args.desc.now) c.args.line cpu memory undisturbed awake)) c.instruct.ensures.lent
