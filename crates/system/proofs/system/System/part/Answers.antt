use Rattle.std.proofs.Common.{refl, sym, ap, ◌∙◌}
use Rattle.std.proofs.lemmas.List.{get_or_default}
use Rattle.partition.specs.Lending.{Part}
use Rattle.system.specs.System.{Held, no_part}
use Rattle.system.specs.Turning.{held_of}
use Rattle.system.proofs.Lined.{there_in}
use Rattle.system.proofs.Turned.{inner_there}
use Rattle.system.proofs.system.System.part.Goals as goal

pub returns-clause-inner : goal.returns-clause-inner
returns-clause-inner c =
    let held : Held = held_of c.self.inside.parts.items c.self.inside.memory c.self.inside.board c.self.inside.wiring c.self.inside.counts.items in
    let within = there_in held c.args.self.now c.args.i c.self.view_is c.requires in
    ap (λ (p : Part). p.inner) (c.index.ensures ∙ get_or_default held.parts c.args.i c.index.result.now no_part within)
    ∙ sym (inner_there held c.args.self.now c.args.i c.args.i c.self.view_is c.requires refl)
