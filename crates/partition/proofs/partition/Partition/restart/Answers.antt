use Rattle.std.proofs.Common.{◌≡◌, ℕ, true, ap, subst, ◌∙◌}
use Rattle.machine_desc.specs.declared.desc.Desc.{Desc}
use Rattle.partition.specs.Anew.{started_inner}
use Rattle.partition.specs.Lending.{Part, Reloads}
use Rattle.partition.proofs.Starts.{starts}
use Rattle.partition.proofs.Anew.{restarted_machine}
use Rattle.partition.proofs.partition.Partition.restart.Goals as goal

pub boot-requires : goal.boot-requires
boot-requires c = (starts c.boot.inside.desc c.boot.invariant.0).entry

pub returns-clause-restarted : goal.returns-clause-restarted
returns-clause-restarted c ends =
    let old : Part = c.args.self.now in
    let entry : c.boot.inside.desc.entry ≡ old.desc.entry = ap (λ (p : Part). p.desc.entry) c.boot.view_is in
    let desc : c.self.inside.desc ≡ old.desc = ap (λ (p : Part). p.desc) c.self.view_is ∙ ap (λ (p : Part). p.desc) c.boot-2.ensures.inner in
    restarted_machine old c.boot-2.new.self c.args.ground.now c.reload_if.new.ground ends
    (c.boot-2.ensures.inner ∙ ap (λ (n : ℕ). record old { inner = started_inner old.desc n old.inner }) entry)
    (subst (λ (d : Desc). Reloads true d c.args.ground.now c.reload_if.new.ground) desc c.reload_if.ensures)
