-- What a blob is rewritten to.
use Rattle.std.proofs.Common.{◌≡◌, ℕ, zero, suc, ◌≤◌, true, List, [], ◌∷◌, length, drop, refl, ap, arith}
use Rattle.std.specs.List.{list_all}
use Rattle.std.proofs.lemmas.Bool.{and_parts}
use Rattle.dt_model.specs.declared.tree.Reserve.{Reserve}
use Rattle.dt_model.specs.declared.tree.Tree.{Tree}
use Rattle.dt_model.specs.Token.{Token}
use Rattle.dt_model.specs.Fit.{is_entry}
use Rattle.dt_model.specs.Header.{reserve_part}
use Rattle.dt_model.specs.Reserve.{IsReserveMap}
use Rattle.dt_model.specs.Blob.{IsBlobOf}
use Rattle.dt_model.specs.Canonical.{entries_in, blob_saying, canonical, rewritten}
use Rattle.dt_model.proofs.Blobs.{found_of}

entries_in-map : (entries : List Reserve) (most : ℕ) (bytes : List ℕ) → length entries ≤ most → list_all is_entry entries ≡ true → IsReserveMap bytes entries → entries_in most bytes ≡ entries
entries_in-map [] zero bytes few all spelled = refl
entries_in-map [] (suc most) bytes few all spelled = rw (ap is_entry spelled.1) refl
entries_in-map (entry ∷ entries) zero bytes few all spelled = absurd (omega arith)
entries_in-map (entry ∷ entries) (suc most) bytes few all spelled =
    let both = and_parts (is_entry entry) (list_all is_entry entries) all in
    let others = entries_in-map entries most (drop 16 bytes) (omega arith) both.1 spelled.2 in
    rw (spelled.1, both.0) (ap (λ (es : List Reserve). entry ∷ es) others)

same_saying : (c d : ℕ) (es fs : List Reserve) (ts us : List Token) → c ≡ d → es ≡ fs → ts ≡ us → blob_saying c es ts ≡ blob_saying d fs us
same_saying c d es fs ts us e f g = rw (e, f, g) refl

pub rewritten-is : (bytes : List ℕ) (tree : Tree) → IsBlobOf bytes tree → rewritten bytes ≡ canonical tree
unfolding rewritten canonical
rewritten-is bytes tree blob =
    same_saying _ _ _ _ _ _ blob.boot_cpu
    (entries_in-map tree.reserve.items 1024 (reserve_part bytes) blob.fits.few_entries blob.fits.entries blob.reserve)
    (found_of bytes tree blob).same
