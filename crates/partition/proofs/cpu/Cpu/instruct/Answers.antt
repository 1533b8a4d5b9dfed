use Rattle.std.proofs.Common.{◌≡◌, ℕ, true, List, [], Option, filter, ap, sym, subst, ◌∙◌}
use Rattle.ground.specs.Own.{own_of}
use Rattle.core_step.specs.Step as core
use Rattle.core_step.specs.declared.answer.Wrote.{Wrote}
use Rattle.machine_desc.specs.declared.act.Act.{Act as Told}
use Rattle.machine_desc.specs.declared.desc.Desc.{Desc}
use Rattle.machine_desc.specs.declared.desc.Region.{Region}
use Rattle.fresh_load.specs.Placed.{extents_of}
use Rattle.copy_lists.specs.Pieces.{Piece, sources_of, all_put}
use Rattle.partition.specs.Machine.{Cpu, Shape, shape_of}
use Rattle.partition.specs.Reservations.{with_copied}
use Rattle.partition.specs.Copying.{Copy, own_regions, asked_copy, copy, copied_in, copied_at}
use Rattle.partition.specs.Asking.{with_total, asked_by, copy_done}
use Rattle.partition.specs.Step as spec
use Rattle.partition.specs.Step.{CoreStepped, with_registers}
use Rattle.partition.specs.Lending.{IsCoreStepped, IsLent, is_shared_extent, pieces_of}
use Rattle.partition.proofs.Steps.{instructed, instructed_copy, others_stay, nothing_done, copy_so}
use Rattle.partition.proofs.Asked.{calls_keep, fed_alike}
use Rattle.partition.proofs.Lent.{IsPlain, plain_act}
use Rattle.partition.proofs.cpu.Cpu.instruct.Goals as goal

pub returns-clause-done : goal.returns-clause-done
returns-clause-done g c =
    let mid : Cpu = c.execute-answer.new.self in
    let pieces = pieces_of c.args.desc.now.regions c.execute-answer.new.ground (g.P.Ports.last c.handle-act.new.ports) in
    let lent = c.handle-act.ensures.lent c.args.ground.now in
    let plain : IsPlain pieces c.handle-act.result = plain_act g.P.Ports.sends g.P.Ports.takes g.P.Ports.copies g.P.Ports.last c.args.ground.now c.handle-act.result c.args.ports.now c.handle-act.new.ports pieces lent.did in
    instructed c.args.desc.now c.args.self.now c.handle-act.new.self c.args.vpic.now c.handle-act.new.vpic mid.registers (g.P.Ports.seen c.args.ports.now) c.args.ground.now c.execute-answer.new.ground _ pieces
    (core.answered c.execute-answer.result) c.handle-act.result c.shared_ranges-shared.result.items c.requires.sound c.requires.placed c.execute-answer.ensures.done (sym c.if-asks_copy.ensures)
    (ap (λ (cpu : Cpu). spec.handled (shape_of c.args.desc.now) (core.answered c.execute-answer.result) cpu c.args.vpic.now (g.P.Ports.seen c.args.ports.now)) (sym c.execute-answer.ensures.others) ∙ c.handle-act.ensures.handled)
    (subst (λ (regions : List Region). c.shared_ranges-shared.result.items ≡ filter (λ (range : Wrote). is_shared_extent regions range.extent) (spec.written (core.answered c.execute-answer.result))) c.as_slice.ensures c.shared_ranges-shared.ensures)
    plain.same plain.total

pub returns-clause-others : goal.returns-clause-others
returns-clause-others g c =
    let mid : Cpu = c.execute-answer.new.self in
    let lent = c.handle-act.ensures.lent c.args.ground.now in
    let plain : IsPlain _ c.handle-act.result = plain_act g.P.Ports.sends g.P.Ports.takes g.P.Ports.copies g.P.Ports.last c.args.ground.now c.handle-act.result c.args.ports.now c.handle-act.new.ports (pieces_of c.args.desc.now.regions c.execute-answer.new.ground (g.P.Ports.last c.handle-act.new.ports)) lent.did in
    plain.others (g.P.Ports.told c.args.ports.now) c.args.desc.now.regions (g.P.Ports.last c.handle-act.new.ports) c.args.ground.now c.execute-answer.new.ground
    (others_stay c.args.desc.now c.args.self.now mid.registers c.args.ground.now c.execute-answer.new.ground (core.answered c.execute-answer.result) c.requires.sound c.requires.placed c.execute-answer.ensures.done)

pub returns-clause-lent : goal.returns-clause-lent
returns-clause-lent g c =
    let none = nothing_done c.args.desc.now c.args.self.now c.execute-answer.new.self.registers c.args.ground.now c.execute-answer.new.ground (core.answered c.execute-answer.result) c.requires.sound c.requires.placed c.execute-answer.ensures.done (sym c.if-asks_copy.ensures) in
    subst (λ (copy : Option Copy). IsLent g.P.Ports.kinds g.P.Ports.seen g.P.Ports.sends g.P.Ports.takes g.P.Ports.copies g.P.Ports.told g.P.Ports.last copy c.args.ground.now c.handle-act.result c.args.ports.now c.handle-act.new.ports) (sym none) (c.handle-act.ensures.lent c.args.ground.now)

pub returns-then-asks_copy-clause-done : goal.returns-then-asks_copy-clause-done
returns-then-asks_copy-clause-done g c =
    let desc : Desc = c.args.desc.now in
    let shape : Shape = shape_of desc in
    let names : List ℕ = extents_of desc.regions in
    let old : Cpu = c.args.self.now in
    let mid : Cpu = c.execute-answer.new.self in
    let before : List (List ℕ) = c.args.ground.now in
    let between : List (List ℕ) = c.execute-answer.new.ground in
    let own : List (List ℕ) = own_of names between in
    let answer = core.answered c.execute-answer.result in
    let asks : spec.asks_copy answer mid.registers ≡ true = sym c.if-asks_copy.ensures in
    let held : between ≡ before = calls_keep answer old.registers mid.registers before between asks c.execute-answer.ensures.kept in
    let it : Copy = asked_copy shape mid.registers own in
    let feed : Option Copy → List ℕ = λ copy. g.P.Ports.feed c.args.ports.now before (asked_by desc.ports copy).handle (asked_by desc.ports copy).ranges in
    let one : List Piece = copied_in it (g.P.Ports.feed c.args.ports.now between it.handle (sources_of it.entries)) in
    let fed : one ≡ copied_in it (feed (copy_done shape old (own_of names before))) =
    ap (λ (memory : List (List ℕ)). copied_in it (g.P.Ports.feed c.args.ports.now memory it.handle (sources_of it.entries))) held
    ∙ fed_alike desc.ports it (g.P.Ports.feed c.args.ports.now before)
    ∙ ap (λ (copy : Option Copy). copied_in it (feed copy)) (sym (copy_so desc old mid.registers before between answer c.requires.sound c.requires.placed c.execute-answer.ensures.done asks)) in
    let made = λ (cpu : Cpu) (pieces : List Piece).
    let s : CoreStepped = record { cpu = spec.answered (copy shape mid.registers own).reply (with_copied (copied_at it) cpu); interrupts = c.args.vpic.now; memory = all_put (own_regions shape.areas) pieces own; act = (copy shape mid.registers own).act; stored = [] } in s in
    let pieces : List Piece = pieces_of desc.regions c.copy.new.ground (g.P.Ports.last c.copy.new.ports) in
    let whole = instructed_copy desc old c.copy.new.self c.args.vpic.now mid.registers (g.P.Ports.seen c.args.ports.now) before between c.copy.new.ground (feed (copy_done shape old (own_of names before))) pieces answer c.copy.result c.requires.sound c.requires.placed c.execute-answer.ensures.done asks
    (subst (λ (s : CoreStepped). IsCoreStepped names pieces s c.copy.new.self c.args.vpic.now c.copy.new.ground c.copy.result [])
    (ap (λ (cpu : Cpu). made cpu one) c.execute-answer.ensures.others ∙ ap (made (with_registers mid.registers old)) fed) (c.copy.ensures.copied c.args.vpic.now)) in
    let did = spec.instruction shape old c.args.vpic.now (g.P.Ports.seen c.args.ports.now) (own_of names before) (feed (copy_done shape old (own_of names before))) in
    subst (λ (act : Told). IsCoreStepped names pieces did c.copy.new.self c.args.vpic.now c.copy.new.ground act c.only.result.shared.items) (sym c.only.ensures.act)
    (subst (λ (ranges : List Wrote). IsCoreStepped names pieces did c.copy.new.self c.args.vpic.now c.copy.new.ground c.copy.result ranges) (sym c.only.ensures.shared) whole)

pub returns-then-asks_copy-clause-lent : goal.returns-then-asks_copy-clause-lent
returns-then-asks_copy-clause-lent g c =
    let desc : Desc = c.args.desc.now in
    let mid : Cpu = c.execute-answer.new.self in
    let answer = core.answered c.execute-answer.result in
    let asks : spec.asks_copy answer mid.registers ≡ true = sym c.if-asks_copy.ensures in
    let held : c.execute-answer.new.ground ≡ c.args.ground.now = calls_keep answer c.args.self.now.registers mid.registers c.args.ground.now c.execute-answer.new.ground asks c.execute-answer.ensures.kept in
    let copies = copy_so desc c.args.self.now mid.registers c.args.ground.now c.execute-answer.new.ground answer c.requires.sound c.requires.placed c.execute-answer.ensures.done asks in
    subst (λ (act : Told). IsLent g.P.Ports.kinds g.P.Ports.seen g.P.Ports.sends g.P.Ports.takes g.P.Ports.copies g.P.Ports.told g.P.Ports.last (copy_done (shape_of desc) c.args.self.now (own_of (extents_of desc.regions) c.args.ground.now)) c.args.ground.now act c.args.ports.now c.copy.new.ports) (sym c.only.ensures.act)
    (subst (λ (copy : Option Copy). IsLent g.P.Ports.kinds g.P.Ports.seen g.P.Ports.sends g.P.Ports.takes g.P.Ports.copies g.P.Ports.told g.P.Ports.last copy c.args.ground.now c.copy.result c.args.ports.now c.copy.new.ports) (sym copies)
    (subst (λ (memory : List (List ℕ)). IsLent g.P.Ports.kinds g.P.Ports.seen g.P.Ports.sends g.P.Ports.takes g.P.Ports.copies g.P.Ports.told g.P.Ports.last (with_total (asked_copy (shape_of desc) mid.registers (own_of (extents_of desc.regions) c.execute-answer.new.ground))) memory c.copy.result c.args.ports.now c.copy.new.ports) held c.copy.ensures.lent))
