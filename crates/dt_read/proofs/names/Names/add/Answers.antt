use Rattle.std.proofs.Common.{ap, ◌∙◌, not}
use Rattle.std.specs.Prelude.{◌||◌}
use Rattle.std.specs.Str.{bytes_eq}
use Rattle.dt_model.specs.Name.{has}
use Rattle.dt_read.proofs.NameSets.{seen, contains-is, has-insert_key}
use Rattle.dt_read.proofs.names.Names.add.Goals as goal

pub returns : goal.returns
returns c = (
  c.in_ok-added.ensures.added ∙ ap not (contains-is c.args.name c.self.inside.set.keys ∙ ap (λ names. has names c.args.name.now) c.self.view_is),
  λ other.
      ap (λ keys. has (seen keys) other) c.in_ok-added.ensures.keys
      ∙ has-insert_key c.args.name c.self.inside.set.keys other
      ∙ ap (λ names. bytes_eq c.args.name.now other || has names other) c.self.view_is,
)
