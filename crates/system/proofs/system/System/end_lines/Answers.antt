use Rattle.std.proofs.Common.{◌≡◌, ℕ, List, ◌++◌, ap, subst, ◌∙◌}
use Rattle.outside.specs.Pieces.{Writes}
use Rattle.partition.specs.Lending.{Part}
use Rattle.network.specs.World.{Counts}
use Rattle.network.specs.Report.{end_lines}
use Rattle.system.specs.Shown.{part_lines, console_lines}
use Rattle.system.specs.System.{Held}
use Rattle.system.specs.Turning.{held_of}
use Rattle.system.proofs.Lined.{end_lines_are, writes_on, writes_first}
use Rattle.system.proofs.system.System.end_lines.Goals as goal

pub returns-in_err-write_parts : goal.returns-in_err-write_parts
returns-in_err-write_parts g c given waits =
    let held : Held = held_of c.self.inside.parts.items c.self.inside.memory c.self.inside.board c.self.inside.wiring c.self.inside.counts.items in
    let sink = g.S.Sink in
    let wrote = c.in_err-write_parts.ensures in
    let rest : List ℕ = console_lines held.wiring.consoles held.counts c.args.waiting.now in
    let text : part_lines c.as_slice.result.now ++ rest ≡ end_lines c.args.self.now.network given c.args.self.now.world =
    ap (λ (ps : List Part). part_lines ps ++ rest) c.as_slice.ensures.value ∙ end_lines_are held c.args.self.now given c.args.waiting.now c.self.view_is c.self.invariant.0 c.requires waits in
    subst (Writes c.from_residual.result (sink.taken c.args.out.now) (sink.taken c.write_parts.new.out) (sink.faults c.args.out.now) (sink.faults c.write_parts.new.out)) text
    (writes_first c.from_residual.result (sink.taken c.args.out.now) (sink.taken c.write_parts.new.out) (sink.faults c.args.out.now) (sink.faults c.write_parts.new.out) (part_lines c.as_slice.result.now) rest
    c.from_residual.ensures.0 wrote.front wrote.counted wrote.failed)

pub returns : goal.returns
returns g c given waits =
    let held : Held = held_of c.self.inside.parts.items c.self.inside.memory c.self.inside.board c.self.inside.wiring c.self.inside.counts.items in
    let sink = g.S.Sink in
    let wrote = c.in_ok-write_parts.ensures in
    let rest : List ℕ = console_lines c.as_slice-names.result.now c.as_slice-2.result.now c.args.waiting.now in
    let text : part_lines c.as_slice.result.now ++ rest ≡ end_lines c.args.self.now.network given c.args.self.now.world =
    ap (λ (ps : List Part). part_lines ps ++ rest) c.as_slice.ensures.value
    ∙ (ap (λ (ns : List (List ℕ)). part_lines held.parts ++ console_lines ns c.as_slice-2.result.now c.args.waiting.now) c.as_slice-names.ensures
    ∙ (ap (λ (cs : List Counts). part_lines held.parts ++ console_lines held.wiring.consoles cs c.args.waiting.now) c.as_slice-2.ensures.value
    ∙ end_lines_are held c.args.self.now given c.args.waiting.now c.self.view_is c.self.invariant.0 c.requires waits)) in
    subst (Writes c.write_consoles.result (sink.taken c.args.out.now) (sink.taken c.write_consoles.new.out) (sink.faults c.args.out.now) (sink.faults c.write_consoles.new.out)) text
    (writes_on c.write_consoles.result (sink.taken c.args.out.now) (sink.taken c.write_parts.new.out) (sink.taken c.write_consoles.new.out) (sink.faults c.args.out.now) (sink.faults c.write_parts.new.out)
    (sink.faults c.write_consoles.new.out) (part_lines c.as_slice.result.now) rest wrote.whole wrote.counted c.write_consoles.ensures)
