-- What becomes of a blob, by its first fault.
use Rattle.std.proofs.Common.{◌≡◌, ℕ, List, Option, None, ap, ◌∙◌}
use Rattle.dt_model.specs.declared.tree.Tree.{Tree}
use Rattle.dt_model.specs.Fault.{first_fault}
use Rattle.dt_model.specs.Blob.{IsBlobOf}
use Rattle.dt_model.specs.Canonical.{canonical}
use Rattle.dt_model.proofs.Rewritten.{rewritten-is}
use Rattle.topaz_run.specs.Outcome.{dtb, rewriting, writing}

pub by_fault : (name bytes : List ℕ) (fault : Option ℕ) → first_fault bytes ≡ fault → dtb name bytes ≡ rewriting name bytes fault
by_fault name bytes fault is = ap (rewriting name bytes) is

pub sound : (name bytes : List ℕ) (tree : Tree) → first_fault bytes ≡ None → IsBlobOf bytes tree → dtb name bytes ≡ writing name (canonical tree)
sound name bytes tree none blob = by_fault name bytes None none ∙ ap (writing name) (rewritten-is bytes tree blob)
