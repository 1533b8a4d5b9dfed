-- A blob has no fault and one tree.
use Rattle.std.proofs.Common.{◌≡◌, ℕ, zero, suc, ◌≤◌, true, false, List, [], ◌∷◌, length, drop, Option, None, refl, sym, ap, ◌∙◌, arith}
use Rattle.std.specs.List.{list_all}
use Rattle.std.proofs.lemmas.Bool.{le-ltb, and_parts}
use Rattle.dt_model.specs.declared.tree.Reserve.{Reserve}
use Rattle.dt_model.specs.declared.tree.Tree.{Tree}
use Rattle.dt_model.specs.Token.{without_nops}
use Rattle.dt_model.specs.Node.{node_tokens, tokens_of}
use Rattle.dt_model.specs.Rule.{or_else, first_broken}
use Rattle.dt_model.specs.Fit.{is_entry}
use Rattle.dt_model.specs.Header.{header_of, header_fault, reserve_part, structure_part, strings_part}
use Rattle.dt_model.specs.Reserve.{entry_of, last_entry, IsReserveMap}
use Rattle.dt_model.specs.Fault.{lacks_end, reserve_fault, tokens_in, fault_in, first_fault}
use Rattle.dt_model.specs.Blob.{IsBlobOf, IsSameTree}
use Rattle.dt_model.proofs.Found.{IsFound, structure_is, structure_found, are_inner-node, first_broken-without_nops}
use Rattle.dt_model.proofs.Rules.{or_else-is_none}
use Rattle.dt_model.proofs.Rows.{same_rows}

-- ---- the reserve map

not_last : (bytes : List ℕ) → entry_of bytes ≡ last_entry → is_entry (entry_of bytes) ≡ false
not_last bytes e = ap is_entry e

lacks_end-of_map : (entries : List Reserve) (most : ℕ) (bytes : List ℕ) → length entries ≤ most → list_all is_entry entries ≡ true → IsReserveMap bytes entries → lacks_end most bytes ≡ false
lacks_end-of_map [] zero bytes few all spelled = rw (le-ltb (length bytes) 16 spelled.0, not_last bytes spelled.1) refl
lacks_end-of_map [] (suc most) bytes few all spelled = rw (le-ltb (length bytes) 16 spelled.0, not_last bytes spelled.1) refl
lacks_end-of_map (entry ∷ entries) zero bytes few all spelled = absurd (omega arith)
lacks_end-of_map (entry ∷ entries) (suc most) bytes few all spelled =
    let both = and_parts (is_entry entry) (list_all is_entry entries) all in
    rw (le-ltb (length bytes) 16 spelled.0, spelled.1, both.0) (lacks_end-of_map entries most (drop 16 bytes) (omega arith) both.1 spelled.2)

reserve_fault-of_map : (entries : List Reserve) (bytes : List ℕ) → length entries ≤ 1024 → list_all is_entry entries ≡ true → IsReserveMap bytes entries → reserve_fault bytes ≡ None
unfolding reserve_fault
reserve_fault-of_map entries bytes few all spelled = rw (lacks_end-of_map entries 1024 bytes few all spelled) refl

entry_is_no_end : (entry : Reserve) (bytes : List ℕ) → is_entry entry ≡ true → entry_of bytes ≡ entry → entry_of bytes ≡ last_entry → ⊥
entry_is_no_end entry bytes real is last =
    let odd : true ≡ false = sym real ∙ ap is_entry (sym is) ∙ ap is_entry last in absurd cc

one_map : (xs ys : List Reserve) (bytes : List ℕ) → list_all is_entry xs ≡ true → list_all is_entry ys ≡ true → IsReserveMap bytes xs → IsReserveMap bytes ys → xs ≡ ys
one_map [] [] bytes all other a b = refl
one_map [] (y ∷ ys) bytes all other a b = absurd (entry_is_no_end y bytes (and_parts (is_entry y) (list_all is_entry ys) other).0 b.1 a.1)
one_map (x ∷ xs) [] bytes all other a b = absurd (entry_is_no_end x bytes (and_parts (is_entry x) (list_all is_entry xs) all).0 a.1 b.1)
one_map (x ∷ xs) (y ∷ ys) bytes all other a b =
    let same = one_map xs ys (drop 16 bytes) (and_parts (is_entry x) (list_all is_entry xs) all).1 (and_parts (is_entry y) (list_all is_entry ys) other).1 a.2 b.2 in
    ap (λ (z : Reserve). z ∷ xs) (sym a.1 ∙ b.1) ∙ ap (λ (zs : List Reserve). y ∷ zs) same

-- ---- the whole blob

pub found_of : (bytes : List ℕ) (tree : Tree) → IsBlobOf bytes tree → IsFound (strings_part bytes) (structure_part bytes) (tokens_of tree)
found_of bytes tree blob = structure_found (strings_part bytes) (structure_part bytes) (node_tokens tree.root) (are_inner-node tree.root) blob.structure

both_none : (a b : Option ℕ) → a ≡ None → b ≡ None → or_else a b ≡ None
both_none a b e f = rw (e, f) refl

pub no_fault : (bytes : List ℕ) (tree : Tree) → IsBlobOf bytes tree → first_fault bytes ≡ None
unfolding first_fault
no_fault bytes tree blob =
    let found = found_of bytes tree blob in
    let kept : first_broken [] (tokens_in (strings_part bytes) (structure_part bytes)).tokens ≡ None
    = sym (first_broken-without_nops (tokens_in (strings_part bytes) (structure_part bytes)).tokens []) ∙ ap (first_broken []) found.same ∙ blob.fits.tokens in
    both_none _ _ blob.header (both_none _ _ (reserve_fault-of_map tree.reserve.items (reserve_part bytes) blob.fits.few_entries blob.fits.entries blob.reserve) (both_none _ _ kept found.none))

pub one_tree : (bytes : List ℕ) (a b : Tree) → IsBlobOf bytes a → IsBlobOf bytes b → IsSameTree a b
one_tree bytes a b is_a is_b =
    let same = sym (found_of bytes a is_a).same ∙ (found_of bytes b is_b).same in
    record {
      reserve = one_map a.reserve.items b.reserve.items (reserve_part bytes) is_a.fits.entries is_b.fits.entries is_a.reserve is_b.reserve;
      boot_cpu = sym is_a.boot_cpu ∙ is_b.boot_cpu;
      tokens = same;
      rows = same_rows a b same;
    }

-- what was read without a fault is a blob of its tree
pub IsBlobOf-read : (bytes : List ℕ) (tree : Tree) → header_fault bytes ≡ None → (header_of bytes).boot_cpu ≡ tree.boot_cpu → IsReserveMap (reserve_part bytes) tree.reserve.items
    → length tree.reserve.items ≤ 1024 → list_all is_entry tree.reserve.items ≡ true
    → fault_in [] (tokens_in (strings_part bytes) (structure_part bytes)) ≡ None → without_nops (tokens_in (strings_part bytes) (structure_part bytes)).tokens ≡ tokens_of tree
    → IsBlobOf bytes tree
IsBlobOf-read bytes tree header boot_cpu reserve few entries fault same =
    let parts = or_else-is_none (first_broken [] (tokens_in (strings_part bytes) (structure_part bytes)).tokens) (tokens_in (strings_part bytes) (structure_part bytes)).stop fault in
    record {
      header = header;
      boot_cpu = boot_cpu;
      reserve = reserve;
      structure = structure_is (strings_part bytes) (structure_part bytes) (tokens_of tree) parts.1 same;
      fits = record {
        few_entries = few;
        entries = entries;
        tokens = ap (first_broken []) (sym same) ∙ first_broken-without_nops (tokens_in (strings_part bytes) (structure_part bytes)).tokens [] ∙ parts.0;
      };
    }
