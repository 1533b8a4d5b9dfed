-- What holds of each tree that fits, whose numbers their types hold, and whose canonical blob keeps the limit.
use Rattle.std.specs.Prelude.{◌≤◌, length}
use Rattle.dt_model.specs.declared.tree.Tree.{Tree}
use Rattle.dt_model.specs.Fit.{Fits}
use Rattle.dt_model.specs.Typed.{IsTyped}
use Rattle.dt_model.specs.Blob.{IsBlobOf}
use Rattle.dt_model.specs.Canonical.{canonical, most_bytes}

-- its canonical blob is a blob of it
abbrev pub CanonicalIsBlob : Type 0
CanonicalIsBlob = (tree : Tree) → IsTyped tree → Fits tree → length (canonical tree) ≤ most_bytes → IsBlobOf (canonical tree) tree
