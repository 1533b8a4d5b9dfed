use Rattle.std.proofs.Common.{◌≡◌, ℕ, List, ap, sym, subst}
use Rattle.ground.specs.Own.{own_of}
use Rattle.machine_desc.specs.declared.desc.Desc.{Desc}
use Rattle.fresh_load.specs.Placed.{extents_of}
use Rattle.copy_lists.specs.Pieces.{Piece}
use Rattle.partition.specs.Regions.{areas_of}
use Rattle.partition.specs.Port.{End}
use Rattle.partition.specs.Copying.{own_regions}
use Rattle.partition.specs.Step as spec
use Rattle.partition.specs.MemPorts.{Held, held_ends}
use Rattle.partition.specs.Lending.{IsStepped, machine_of, pieces_of}
use Rattle.partition.specs.Loading.{Lone}
use Rattle.partition.proofs.Carried.{last_so}
use Rattle.partition.proofs.lone_machine.LoneMachine.step.Goals as goal

pub returns-clause-stepped : goal.returns-clause-stepped
returns-clause-stepped c =
    let desc : Desc = c.self.inside.part.desc in
    let names : List ℕ = extents_of desc.regions in
    let after = c.step-acts.new.self in
    let ground : List (List ℕ) = c.step-acts.new.ground in
    let own : own_of (extents_of after.desc.regions) ground ≡ own_of names ground = ap (λ (d : Desc). own_of (extents_of d.regions) ground) c.step-acts.ensures.desc in
    let pieces = last_so desc.regions ground (own_of (extents_of after.desc.regions) ground) c.step-acts.new.ports.last c.settle.new.self.last own (ap (λ (held : Held). held.last) c.settle.ensures.rest) in
    let done = spec.step desc (machine_of c.self.inside.part (held_ends c.self.inside.ports) c.self.inside.memory) c.args.core c.self.inside.ports.feed in
    subst (λ (lone : Lone). IsStepped (extents_of lone.desc.regions) (pieces_of (own_regions (areas_of lone.desc.regions)) (own_of (extents_of after.desc.regions) ground) c.settle.new.self.last) (spec.step lone.desc lone.machine c.args.core lone.feed) (machine_of after (held_ends c.settle.new.self) ground) c.step-acts.result.act c.step-acts.result.shared.items)
    c.self.view_is
    (subst (λ (all : List Piece). IsStepped names all done (machine_of after (held_ends c.settle.new.self) ground) c.step-acts.result.act c.step-acts.result.shared.items) (sym pieces)
    (subst (λ (ends : List End). IsStepped names (pieces_of desc.regions ground c.step-acts.new.ports.last) done (machine_of after ends ground) c.step-acts.result.act c.step-acts.result.shared.items) (sym c.settle.ensures.ends) c.step-acts.ensures.stepped))
