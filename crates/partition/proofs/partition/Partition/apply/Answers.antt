use Rattle.std.proofs.Common.{◌≡◌, List, sym, ap, subst}
use Rattle.machine_desc.specs.declared.act.Event.{Event as Heard}
use Rattle.machine_desc.specs.declared.desc.Region.{Region}
use Rattle.fresh_load.specs.Placed.{ArePlaced}
use Rattle.partition.specs.Event.{ends_after, apply}
use Rattle.partition.specs.Lending.{Part, machine_of, event_of}
use Rattle.partition.proofs.Applied.{copied_machine, copied_others, copied_placed}
use Rattle.partition.proofs.partition.Partition.apply.Goals as goal

pub returns-in-Ring-clause-applied : goal.returns-in-Ring-clause-applied
returns-in-Ring-clause-applied c ends =
    subst (λ (heard : Heard). machine_of c.ring.new.self (ends_after (event_of heard) ends) c.args.ground.now ≡ apply c.args.self.now.desc (machine_of c.args.self.now ends c.args.ground.now) (event_of heard)) (sym c.in-Ring.is)
    (c.ring.ensures.rung ends c.args.ground.now)

pub returns-in-CopyIn-clause-applied : goal.returns-in-CopyIn-clause-applied
returns-in-CopyIn-clause-applied c ends =
    subst (λ (heard : Heard). machine_of c.copy_in.new.self (ends_after (event_of heard) ends) c.copy_in.new.ground ≡ apply c.args.self.now.desc (machine_of c.args.self.now ends c.args.ground.now) (event_of heard)) (sym c.in-CopyIn.is)
    (copied_machine c.args.self.now c.copy_in.new.self c.args.ground.now c.copy_in.new.ground ends c.in-CopyIn.at c.in-CopyIn.bytes.now c.copy_in.ensures.sound c.copy_in.ensures.inner c.copy_in.ensures.memory)

pub returns-in-CopyIn-clause-others : goal.returns-in-CopyIn-clause-others
returns-in-CopyIn-clause-others c = copied_others c.args.self.now.desc.regions c.args.ground.now c.copy_in.new.ground c.in-CopyIn.at c.in-CopyIn.bytes.now c.copy_in.ensures.memory

pub returns-in-CopyIn-clause-placed : goal.returns-in-CopyIn-clause-placed
returns-in-CopyIn-clause-placed c =
    subst (λ (regions : List Region). ArePlaced c.copy_in.new.ground regions) (sym (ap (λ (p : Part). p.desc.regions) c.copy_in.ensures.inner))
    (copied_placed c.args.self.now.desc.regions c.args.ground.now c.copy_in.new.ground c.in-CopyIn.at c.in-CopyIn.bytes.now c.copy_in.ensures.memory c.requires.placed)
