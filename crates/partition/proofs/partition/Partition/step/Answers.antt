use Rattle.std.proofs.Common.{◌≡◌, [], length, length-set, ap, sym, subst, ◌∙◌}
use Rattle.machine_desc.specs.declared.desc.Desc.{Desc}
use Rattle.fresh_load.specs.Placed.{ArePlaced}
use Rattle.fresh_load.proofs.Places.{all_still_placed}
use Rattle.partition.specs.Machine.{core_at}
use Rattle.partition.specs.Act.{act_of}
use Rattle.partition.specs.Lending.{Part, Reloads, pieces_of, restarts}
use Rattle.partition.proofs.Steps.{machine_stepped, stepped_alike, others_kept}
use Rattle.partition.proofs.partition.Partition.step.Goals as goal

pub returns-clause-stepped : goal.returns-clause-stepped
returns-clause-stepped g c =
    let old : Part = c.args.self.now in
    let last = g.P.Ports.last c.step_core-acts.new.ports in
    let desc : c.step_core-acts.new.self.desc ≡ old.desc = ap (λ (p : Part). p.desc) c.step_core-acts.ensures.rest in
    stepped_alike old.desc _ _ _ c.step_core-acts.new.ground c.settle.new.ground last c.step_core-acts.result.act c.step_core-acts.result.shared.items
    c.settle.ensures.memory.kept
    (machine_stepped old c.step_core-acts.new.self c.settle.new.self c.args.core (g.P.Ports.seen c.args.ports.now) (g.P.Ports.seen c.step_core-acts.new.ports) c.args.ground.now c.step_core-acts.new.ground
    c.settle.new.ground _ (pieces_of old.desc.regions c.step_core-acts.new.ground last) c.step_core-acts.result.act c.step_core-acts.result.shared.items c.step_core-acts.ensures.stepped c.step_core-acts.ensures.rest c.step_core-acts.ensures.lent.seen c.settle.ensures.inner c.settle.ensures.memory)

pub returns-clause-placed : goal.returns-clause-placed
returns-clause-placed g c =
    let desc : c.step_core-acts.new.self.desc ≡ c.settle.new.self.desc = sym (ap (λ (p : Part). p.desc) c.settle.ensures.inner) in
    subst (λ (d : Desc). ArePlaced c.settle.new.ground d.regions) desc c.settle.ensures.memory.placed

pub settle-requires-clause-placed : goal.settle-requires-clause-placed
settle-requires-clause-placed g c =
    let old : Part = c.args.self.now in
    let desc : old.desc ≡ c.step_core-acts.new.self.desc = sym (ap (λ (p : Part). p.desc) c.step_core-acts.ensures.rest) in
    subst (λ (d : Desc). ArePlaced c.step_core-acts.new.ground d.regions) desc
    (all_still_placed c.args.ground.now c.step_core-acts.new.ground old.desc.regions c.step_core-acts.ensures.sizes c.requires.placed)

pub returns-clause-cores : goal.returns-clause-cores
returns-clause-cores g c =
    c.settle.ensures.cores
    ∙ (ap (λ (p : Part). length p.inner.cores) c.step_core-acts.ensures.rest ∙ length-set c.args.self.now.inner.cores c.args.core (core_at c.step_core-acts.new.self.inner.cores c.args.core))

pub returns-clause-others : goal.returns-clause-others
returns-clause-others g c =
    let old : Part = c.args.self.now in
    let desc : c.step_core-acts.new.self.desc ≡ old.desc = ap (λ (p : Part). p.desc) c.step_core-acts.ensures.rest in
    others_kept (g.P.Ports.told c.args.ports.now) old.desc (g.P.Ports.last c.step_core-acts.new.ports) c.step_core-acts.result.act c.args.ground.now c.step_core-acts.new.ground c.settle.new.ground
    c.step_core-acts.ensures.others (subst (λ (d : Desc). Reloads (restarts (act_of [] c.step_core-acts.result.act)) d c.step_core-acts.new.ground c.settle.new.ground) desc c.settle.ensures.memory)
