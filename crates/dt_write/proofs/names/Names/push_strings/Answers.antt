use Rattle.std.proofs.Common.{List, ℕ, ◌++◌, map, ap, ◌∙◌}
use Rattle.std.specs.Borrow.{Bor}
use Rattle.dt_model.specs.Canonical.{strings_of}
use Rattle.dt_write.proofs.Laid.{key_names}
use Rattle.dt_write.proofs.names.Names.push_strings.Goals as goal

pub loop-name-init : goal.loop-name-init
loop-name-init c =
    ap (λ (ns : List (List ℕ)). c.args.out.now.items ++ strings_of ns)
    (ap (λ (ks : List (Bor (List ℕ))). map (λ (key : Bor (List ℕ)). key.now) ks) (c.into_iter-name-iterator.ensures.into_iter_gives ∙ c.keys-name-items.ensures.rest)
    ∙ key_names c.self.inside.places.entries ∙ c.self.view_is)
