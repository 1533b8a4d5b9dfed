use Rattle.std.proofs.Common.{◌∙◌, List, ℕ, [], ◌∷◌, ◌++◌, ap, arith}
use Rattle.dt_model.specs.Name.{has}
use Rattle.dt_write.specs.Names.{names_in}
use Rattle.dt_write.proofs.Laid.{laid_more, names_push, added}
use Rattle.dt_write.proofs.names.Names.add.Goals as goal

pub invariant_of-self-2 : goal.invariant_of-self-2
invariant_of-self-2 c =
    let entries = c.self.inside.places.entries in
    let last = c.in_ok-insert.ensures.entries
    ∙ added entries c.args.name c.self.inside.end (ap (λ (names : List (List ℕ)). has names c.args.name.now) c.self.view_is ∙ c.requires) in
    rw last (laid_more entries c.self.inside.end c.args.name c.self.invariant (omega arith))

pub returns-clause-names : goal.returns-clause-names
returns-clause-names c =
    let entries = c.self.inside.places.entries in
    let last = c.in_ok-insert.ensures.entries
    ∙ added entries c.args.name c.self.inside.end (ap (λ (names : List (List ℕ)). has names c.args.name.now) c.self.view_is ∙ c.requires) in
    ap names_in last ∙ names_push entries (c.args.name, c.self.inside.end)
    ∙ ap (λ (names : List (List ℕ)). names ++ c.args.name.now ∷ []) c.self.view_is
