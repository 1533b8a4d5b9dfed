-- The canonical blob of a tree is a blob of it.
use Rattle.std.proofs.Common.{◌≡◌, ℕ, ◌+◌, ◌%◌, ◌<◌, ◌≤◌, ◌^◌, List, [], ◌∷◌, ◌++◌, length, map, refl, sym, ap, subst, ◌∙◌, arith, append_assoc}
use Rattle.std.specs.List.{flat_map}
use Rattle.dt_model.specs.declared.tree.Node.{Node}
use Rattle.dt_model.specs.declared.tree.Node.TheOpen.{Node-F}
use Rattle.dt_model.specs.declared.tree.Node.TheViews.{roll-Node}
use Rattle.dt_model.specs.declared.tree.Node.TheFolds.{ind-Node}
use Rattle.dt_model.specs.declared.tree.Property.{Property}
use Rattle.dt_model.specs.declared.tree.Tree.{Tree}
use Rattle.dt_model.specs.Token.{Token, BeginNode, EndNode, Finish, without_nops}
use Rattle.dt_model.specs.Node.{node_tokens, property_token, tokens_of}
use Rattle.dt_model.specs.Header.{Header, structure_part}
use Rattle.dt_model.specs.Reserve.{IsReserveMap}
use Rattle.dt_model.specs.Spelling.{SpellsAll}
use Rattle.dt_model.specs.Fit.{Fits}
use Rattle.dt_model.specs.Blob.{IsBlobOf, IsStructure}
use Rattle.dt_model.specs.Typed.{IsTyped}
use Rattle.dt_model.specs.Canonical.{names_after, strings_of, structure_of, reserve_map_of, header_bytes, blob_of, canonical, most_bytes}
use Rattle.dt_model.proofs.Rules.{inside, node_tokens-roll}
use Rattle.dt_write.proofs.Whole.{length-header, length-blob, length-reserve_map}
use Rattle.dt_write.proofs.CanonicalHeader.{header_of-said, sound_header, reserve_part-is, structure_part-is, strings_part-is}
use Rattle.dt_write.proofs.CanonicalReserve.{map_read}
use Rattle.dt_write.proofs.CanonicalTokens.{are_plain, are_named, are_small, spells_all}

-- ---- a tree's tokens have no NOP

abbrev HasNoNop : Node → Type 0
HasNoNop node = (rest : List Token) → without_nops (node_tokens node ++ rest) ≡ node_tokens node ++ without_nops rest

properties_kept : (ps : List Property) (rest : List Token) → without_nops (map property_token ps ++ rest) ≡ map property_token ps ++ without_nops rest
properties_kept [] rest = refl
properties_kept (p ∷ ps) rest = ap (λ (ts : List Token). property_token p ∷ ts) (properties_kept ps rest)

children_kept : (nodes : List ((node : Node) × HasNoNop node)) (rest : List Token)
    → without_nops (flat_map node_tokens (map (λ e. e.0) nodes) ++ rest) ≡ flat_map node_tokens (map (λ e. e.0) nodes) ++ without_nops rest
children_kept [] rest = refl
children_kept (node ∷ others) rest =
    let more = flat_map node_tokens (map (λ e. e.0) others) in
    ap without_nops (append_assoc (node_tokens node.0) more rest) ∙ node.1 (more ++ rest)
    ∙ ap (λ (ts : List Token). node_tokens node.0 ++ ts) (children_kept others rest) ∙ sym (append_assoc (node_tokens node.0) more (without_nops rest))

abbrev ChildrenKept : List Node → Type 0
ChildrenKept nodes = (rest : List Token) → without_nops (flat_map node_tokens nodes ++ rest) ≡ flat_map node_tokens nodes ++ without_nops rest

inside_kept : (x : Node-F Node) (rest : List Token) → ChildrenKept x.children.items → without_nops (inside x ++ rest) ≡ inside x ++ without_nops rest
inside_kept x rest kept =
    let ps = map property_token x.props.items in
    let cs = flat_map node_tokens x.children.items in
    let split : (ts : List Token) → (ps ++ (cs ++ EndNode ∷ [])) ++ ts ≡ ps ++ (cs ++ EndNode ∷ ts) =
    λ ts. append_assoc ps (cs ++ EndNode ∷ []) ts ∙ ap (λ (l : List Token). ps ++ l) (append_assoc cs (EndNode ∷ []) ts) in
    ap without_nops (split rest) ∙ properties_kept x.props.items (cs ++ EndNode ∷ rest)
    ∙ ap (λ (l : List Token). ps ++ l) (kept (EndNode ∷ rest)) ∙ sym (split (without_nops rest))

node_kept : (x : Node-F Node) → ChildrenKept x.children.items → HasNoNop (roll-Node x)
node_kept x kept rest =
    ap (λ (ts : List Token). without_nops (ts ++ rest)) (node_tokens-roll x) ∙ ap (λ (ts : List Token). BeginNode x.name ∷ ts) (inside_kept x rest kept)
    ∙ ap (λ (ts : List Token). ts ++ without_nops rest) (sym (node_tokens-roll x))

has_no_nop : (node : Node) → HasNoNop node
has_no_nop = ind-Node HasNoNop (λ x y is. node_kept x (subst (λ (z : Node-F Node). ChildrenKept z.children.items) is (children_kept y.children.items)))

tokens_kept : (tree : Tree) → without_nops (tokens_of tree) ≡ tokens_of tree
tokens_kept tree = has_no_nop tree.root (Finish ∷ [])

-- ---- the blob

pub canonical_blob : (tree : Tree) → IsTyped tree → Fits tree → length (canonical tree) ≤ most_bytes → IsBlobOf (canonical tree) tree
unfolding canonical
canonical_blob tree typed fits few =
    let tokens = tokens_of tree in
    let names = names_after [] tokens in
    let r = reserve_map_of tree.reserve.items in
    let s = structure_of names tokens in
    let t = strings_of names in
    let h = header_bytes tree.boot_cpu (length r) (length s) (length t) in
    let bytes = blob_of tree.boot_cpu r s t in
    let size = length-blob tree.boot_cpu r s t in
    let total : 40 + length r + length s + length t ≤ most_bytes = omega arith in
    let is = header_of-said tree.boot_cpu (length r) (length s) (length t) (r ++ (s ++ t)) typed.boot_cpu total in
    let head = length-header tree.boot_cpu (length r) (length s) (length t) in
    let aligned : length r % 4 ≡ 0 = omega (arith, length-reserve_map tree.reserve.items) in
    let reserve_is = reserve_part-is bytes h r s t tree.boot_cpu refl head is size in
    let structure_is = structure_part-is bytes h r s t tree.boot_cpu refl head is in
    let strings_is = strings_part-is bytes h r s t tree.boot_cpu refl head is in
    let few_strings : length t < 2 ^ 32 = omega arith in
    let few_structure : length s < 2 ^ 32 = omega arith in
    let spelled : SpellsAll t tokens s [] =
    spells_all names tokens few_strings (are_plain [] tokens fits.tokens) (are_named [] tokens) (are_small names tokens few_structure) in
    let structure : IsStructure t s tokens = record { spelled = tokens; rest = []; spells = spelled; same = tokens_kept tree } in
    record {
      header = sound_header bytes tree.boot_cpu (length r) (length s) (length t) is size total aligned;
      boot_cpu = ap (λ (x : Header). x.boot_cpu) is;
      reserve = subst (λ (l : List ℕ). IsReserveMap l tree.reserve.items) (sym reserve_is) (map_read tree.reserve.items (s ++ t) typed.reserve);
      structure = subst (λ (l : List ℕ). IsStructure l (structure_part bytes) tokens) (sym strings_is)
          (subst (λ (l : List ℕ). IsStructure t l tokens) (sym structure_is) structure);
      fits = fits;
    }
