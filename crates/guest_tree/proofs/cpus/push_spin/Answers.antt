use Rattle.std.proofs.Common.{[], ◌∷◌, ◌++◌, codes, ap, ◌∙◌}
use Rattle.std.proofs.lemmas.Result.{on_ok_weaker}
use Rattle.dt_make.specs.Values.{property, double}
use Rattle.guest_tree.proofs.Made.{pushed-twice}
use Rattle.guest_tree.proofs.cpus.push_spin.Goals as goal

pub returns : goal.returns
returns c = λ config.
    on_ok_weaker c.push_address.result (λ is. pushed-twice c.args.properties.now.items c.push_text.new.properties.items c.push_address.new.properties.items _ _ c.in_ok-push_text.ensures
    (is ∙ ap (λ n. c.push_text.new.properties.items ++ property (codes "cpu-release-addr") (double n) ∷ []) (c.spin_at.ensures config))) c.push_address.ensures
