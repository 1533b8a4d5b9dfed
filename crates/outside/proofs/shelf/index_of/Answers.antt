use Rattle.std.specs.Str.{bytes_eq}
use Rattle.outside.specs.declared.named_file.NamedFile.{NamedFile}
use Rattle.outside.proofs.Places.{find_at_position}
use Rattle.outside.proofs.shelf.index_of.Goals as goal

pub returns-clause-first : goal.returns-clause-first
returns-clause-first c =
    let at = find_at_position (λ (f : NamedFile). bytes_eq f.name c.args.name.now) c.args.files.now in cc
