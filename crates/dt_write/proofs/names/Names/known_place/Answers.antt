use Rattle.std.proofs.Common.{List, ℕ, Some, None, cond, ap, ◌∙◌}
use Rattle.dt_model.specs.Name.{has}
use Rattle.dt_model.specs.Canonical.{offset_of}
use Rattle.dt_write.proofs.Laid.{found}
use Rattle.dt_write.proofs.names.Names.known_place.Goals as goal

pub returns : goal.returns
returns c =
    c.copied.ensures ∙ c.get.ensures.value ∙ found c.self.inside.places.entries c.self.inside.end c.args.name.now c.self.invariant
    ∙ ap (λ (names : List (List ℕ)). cond (has names c.args.name.now) (Some (offset_of names c.args.name.now)) None) c.self.view_is
