use Rattle.std.proofs.Common.{◌≡◌, None, ap, sym, ◌∙◌}
use Rattle.hv_config.specs.Rule.{first_broken, first_broken_among}
use Rattle.hv_config.proofs.Plain.{config_plain}
use Rattle.hv_config.proofs.reading.parse.Goals as goal

pub returns-clause-plain : goal.returns-clause-plain
returns-clause-plain c = λ fits.
    let none : first_broken c.args.tree.now ≡ None = ap first_broken_among (sym (c.deref.ensures.value ∙ c.in_ok-seats.ensures)) ∙ c.in_ok-check.ensures in
    rw c.in_ok-config_in.ensures (config_plain c.fitting_trees_keep_names_apart.ensures.children c.args.tree.now (c.fitting_trees_keep_names_apart.ensures.root c.args.tree.now fits) none)
