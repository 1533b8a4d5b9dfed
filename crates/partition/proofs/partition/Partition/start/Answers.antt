use Rattle.std.proofs.Common.{◌≡◌, ap, subst, ◌∙◌}
use Rattle.machine_desc.specs.declared.desc.Desc.{Desc}
use Rattle.partition.specs.Lending.{Part, Reloads}
use Rattle.partition.proofs.Anew.{started_machine}
use Rattle.partition.proofs.partition.Partition.start.Goals as goal

pub returns-clause-started : goal.returns-clause-started
returns-clause-started c ends =
    let old : Part = c.args.self.now in
    let desc : c.self.inside.desc ≡ old.desc = ap (λ (p : Part). p.desc) c.self.view_is ∙ ap (λ (p : Part). p.desc) c.boot.ensures.inner in
    started_machine old c.boot.new.self c.args.ground.now c.reload_if.new.ground ends c.args.entry c.args.load c.boot.ensures.inner
    (subst (λ (d : Desc). Reloads c.args.load d c.args.ground.now c.reload_if.new.ground) desc c.reload_if.ensures)
