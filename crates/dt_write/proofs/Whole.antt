-- The whole layout is that of the canonical blob.
use Rattle.std.proofs.Common.{◌≡◌, ℕ, ◌+◌, ◌*◌, Bool, true, false, ◌||◌, cond, List, [], ◌∷◌, ◌++◌, length, replicate, refl, sym, ap, ◌∙◌, arith, append_assoc, append-nil, length-append}
use Rattle.std.specs.List.{flat_map}
use Rattle.std.specs.Str.{bytes_eq}
use Rattle.std.specs.Cmp.Lexicographic.{nat_list_eq_equiv}
use Rattle.byteorder.specs.Numbers.{length-bytes_high_first}
use Rattle.dt_model.specs.declared.tree.Reserve.{Reserve}
use Rattle.dt_model.specs.declared.tree.Tree.{Tree}
use Rattle.dt_model.specs.Name.{has}
use Rattle.dt_model.specs.Token.{Token, BeginNode, Prop, EndNode, Nop, Finish}
use Rattle.dt_model.specs.Node.{tokens_of}
use Rattle.dt_model.specs.Spelling.{padded}
use Rattle.dt_model.specs.Canonical.{word, with_name, names_after, offset_of, strings_of, spelling, structure_of, entry_bytes, reserve_map_of, header_bytes, blob_of, canonical}
use Rattle.dt_write.specs.Layout.{Laid, with_token, with_tokens, size_of}

-- ---- a name keeps its place

stays_by : (first : List ℕ) (names more : List (List ℕ)) (name : List ℕ) (b : Bool) → bytes_eq first name ≡ b
    → (has names name ≡ true → offset_of (names ++ more) name ≡ offset_of names name)
    → (bytes_eq first name || has names name) ≡ true → offset_of (first ∷ names ++ more) name ≡ offset_of (first ∷ names) name
stays_by first names more name true same others there = rw same refl
stays_by first names more name false other others there = rw other (ap (λ n. length first + 1 + n) (others (rw other at there)))

offset_stays : (names more : List (List ℕ)) (name : List ℕ) → has names name ≡ true → offset_of (names ++ more) name ≡ offset_of names name
offset_stays [] more name there = absurd (cc)
offset_stays (first ∷ names) more name there = stays_by first names more name _ refl (offset_stays names more name) there

or_true : (b : Bool) → (b || true) ≡ true
or_true true = refl
or_true false = refl

has_last : (names : List (List ℕ)) (name : List ℕ) → has (names ++ name ∷ []) name ≡ true
has_last [] name = rw (nat_list_eq_equiv.refl name) refl
has_last (first ∷ names) name = rw (has_last names name) (or_true (bytes_eq first name))

pub has_with : (names : List (List ℕ)) (name : List ℕ) (b : Bool) → has names name ≡ b → has (with_name names name) name ≡ true
has_with names name true is = rw is is
has_with names name false is = rw is (has_last names name)

-- names only join
more_by : (names : List (List ℕ)) (name : List ℕ) (all : List (List ℕ)) (b : Bool) → has names name ≡ b
    → (more : List (List ℕ)) × (all ≡ with_name names name ++ more) → (more : List (List ℕ)) × (all ≡ names ++ more)
more_by names name all true is (more, joined) = (more, joined ∙ ap (λ (c : Bool). cond c names (names ++ name ∷ []) ++ more) is)
more_by names name all false is (more, joined) =
    (name ∷ more, joined ∙ ap (λ (c : Bool). cond c names (names ++ name ∷ []) ++ more) is ∙ append_assoc names (name ∷ []) more)

pub more_names : (names : List (List ℕ)) (tokens : List Token) → (more : List (List ℕ)) × (names_after names tokens ≡ names ++ more)
more_names names [] = ([], sym (append-nil names))
more_names names (Prop name value ∷ tokens) = more_by names name _ _ refl (more_names (with_name names name) tokens)
more_names names (BeginNode name ∷ tokens) = more_names names tokens
more_names names (EndNode ∷ tokens) = more_names names tokens
more_names names (Nop ∷ tokens) = more_names names tokens
more_names names (Finish ∷ tokens) = more_names names tokens

-- a property is spelled alike by the names so far and by all of them
spelled_alike : (names : List (List ℕ)) (name value : List ℕ) (tokens : List Token)
    → spelling (with_name names name) (Prop name value) ≡ spelling (names_after (with_name names name) tokens) (Prop name value)
unfolding spelling
spelled_alike names name value tokens =
    let (more, joined) = more_names (with_name names name) tokens in
    let there : has (with_name names name) name ≡ true = has_with names name _ refl in
    let same : offset_of (with_name names name) name ≡ offset_of (names_after (with_name names name) tokens) name =
    sym (offset_stays (with_name names name) more name there) ∙ ap (λ (ns : List (List ℕ)). offset_of ns name) (sym joined) in
    ap (λ n. word 3 ++ (word (length value) ++ (word n ++ padded value))) same

-- ---- all tokens

regroup : (a b c d : List ℕ) → ((a ++ b) ++ c) ++ d ≡ a ++ (b ++ (c ++ d))
regroup a b c d = simp append_assoc

abbrev whole : Laid → List Token → Laid
whole laid tokens = record {
  structure = laid.structure ++ structure_of (names_after laid.names tokens) tokens;
  names = names_after laid.names tokens;
}

-- one more token in front, which the names don't touch
in_front : (laid : Laid) (piece alike : List ℕ) (tokens : List Token) → piece ≡ alike
    → whole (record laid { structure = laid.structure ++ piece }) tokens
    ≡ record { structure = laid.structure ++ (alike ++ structure_of (names_after laid.names tokens) tokens); names = names_after laid.names tokens }
in_front laid piece alike tokens same =
    let names = names_after laid.names tokens in
    ap (λ (s : List ℕ). record { structure = (laid.structure ++ s) ++ structure_of names tokens; names = names }) same
    ∙ ap (λ (s : List ℕ). record { structure = s; names = names }) (append_assoc laid.structure alike (structure_of names tokens))

begin_alike : (a b : List (List ℕ)) (name : List ℕ) → spelling a (BeginNode name) ≡ spelling b (BeginNode name)
unfolding spelling
begin_alike a b name = refl

end_alike : (a b : List (List ℕ)) → spelling a EndNode ≡ spelling b EndNode
unfolding spelling
end_alike a b = refl

nop_alike : (a b : List (List ℕ)) → spelling a Nop ≡ spelling b Nop
unfolding spelling
nop_alike a b = refl

finish_alike : (a b : List (List ℕ)) → spelling a Finish ≡ spelling b Finish
unfolding spelling
finish_alike a b = refl

pub laid_whole : (laid : Laid) (tokens : List Token) → with_tokens laid tokens ≡ whole laid tokens
unfolding with_token
laid_whole laid [] = ap (λ (s : List ℕ). record { structure = s; names = laid.names }) (sym (append-nil laid.structure))
laid_whole laid (Prop name value ∷ tokens) =
    let names = with_name laid.names name in
    let all = names_after names tokens in
    laid_whole (with_token laid (Prop name value)) tokens
    ∙ ap (λ (s : List ℕ). record { structure = (laid.structure ++ s) ++ structure_of all tokens; names = all }) (spelled_alike laid.names name value tokens)
    ∙ ap (λ (s : List ℕ). record { structure = s; names = all }) (append_assoc laid.structure (spelling all (Prop name value)) (structure_of all tokens))
laid_whole laid (BeginNode name ∷ tokens) =
    laid_whole (with_token laid (BeginNode name)) tokens ∙ in_front laid _ _ tokens (begin_alike laid.names (names_after laid.names tokens) name)
laid_whole laid (EndNode ∷ tokens) =
    laid_whole (with_token laid EndNode) tokens ∙ in_front laid _ _ tokens (end_alike laid.names (names_after laid.names tokens))
laid_whole laid (Nop ∷ tokens) =
    laid_whole (with_token laid Nop) tokens ∙ in_front laid _ _ tokens (nop_alike laid.names (names_after laid.names tokens))
laid_whole laid (Finish ∷ tokens) =
    laid_whole (with_token laid Finish) tokens ∙ in_front laid _ _ tokens (finish_alike laid.names (names_after laid.names tokens))

-- ---- the blob

length-word : (n : ℕ) → length (word n) ≡ 4
length-word n = length-bytes_high_first 4 n

pub length-header : (b r s t : ℕ) → length (header_bytes b r s t) ≡ 40
unfolding header_bytes
length-header b r s t = refl

pub length-blob : (b : ℕ) (r s t : List ℕ) → length (blob_of b r s t) ≡ 40 + length r + length s + length t
length-blob b r s t =
    omega (
      arith,
      length-header b (length r) (length s) (length t),
      length-append (header_bytes b (length r) (length s) (length t)) (r ++ (s ++ t)),
      length-append r (s ++ t),
      length-append s t,
    )

length-entry : (entry : Reserve) → length (entry_bytes entry) ≡ 16
length-entry entry = refl

length-entries : (entries : List Reserve) → length (flat_map entry_bytes entries) ≡ 16 * length entries
length-entries [] = refl
length-entries (entry ∷ entries) =
    omega (arith, length-append (entry_bytes entry) (flat_map entry_bytes entries), length-entry entry, length-entries entries)

pub length-reserve_map : (entries : List Reserve) → length (reserve_map_of entries) ≡ 16 * (length entries + 1)
length-reserve_map entries = omega (arith, length-append (flat_map entry_bytes entries) (replicate 16 0), length-entries entries)

-- the blocks of the canonical blob are what is laid out of its tokens
pub canonical-laid : (tree : Tree) (laid : Laid) → laid ≡ with_tokens (record { structure = []; names = [] }) (tokens_of tree)
    → canonical tree ≡ blob_of tree.boot_cpu (reserve_map_of tree.reserve.items) laid.structure (strings_of laid.names)
unfolding canonical
canonical-laid tree laid is =
    let parts : laid ≡ whole (record { structure = []; names = [] }) (tokens_of tree) = is ∙ laid_whole (record { structure = []; names = [] }) (tokens_of tree) in
    ap (λ (l : Laid). blob_of tree.boot_cpu (reserve_map_of tree.reserve.items) l.structure (strings_of l.names)) (sym parts)

pub length-canonical : (tree : Tree) → length (canonical tree)
    ≡ 40 + 16 * (length tree.reserve.items + 1) + size_of (with_tokens (record { structure = []; names = [] }) (tokens_of tree))
length-canonical tree =
    let laid = with_tokens (record { structure = []; names = [] }) (tokens_of tree) in
    ap length (canonical-laid tree laid refl)
    ∙ omega (arith, length-blob tree.boot_cpu (reserve_map_of tree.reserve.items) laid.structure (strings_of laid.names), length-reserve_map tree.reserve.items)

-- the header, word by word
pub header_is : (boot_cpu reserve structure strings : ℕ)
    → flat_map word (0xd00dfeed ∷ (40 + reserve + structure + strings) ∷ (40 + reserve) ∷ (40 + reserve + structure) ∷ 40 ∷ 17 ∷ 16 ∷ boot_cpu ∷ strings ∷ structure ∷ [])
    ≡ header_bytes boot_cpu reserve structure strings
unfolding header_bytes
header_is boot_cpu reserve structure strings = refl

-- the blocks, one appended behind the other
pub blocks_appended : (boot_cpu : ℕ) (entries : List Reserve) (structure strings : List ℕ) (a b c d e : List ℕ) (r s t : ℕ)
    → r ≡ 16 * (length entries + 1) → s ≡ length structure → t ≡ length strings → a ≡ [] → b ≡ a ++ header_bytes boot_cpu r s t → c ≡ b ++ reserve_map_of entries → d ≡ c ++ structure → e ≡ d ++ strings
    → e ≡ blob_of boot_cpu (reserve_map_of entries) structure strings
blocks_appended boot_cpu entries structure strings a b c d e r s t r_is s_is t_is a_is b_is c_is d_is e_is =
    let map = reserve_map_of entries in
    let header : b ≡ header_bytes boot_cpu (length map) (length structure) (length strings) =
    b_is ∙ ap (λ (l : List ℕ). l ++ header_bytes boot_cpu r s t) a_is
    ∙ ap (λ n. header_bytes boot_cpu n s t) (r_is ∙ sym (length-reserve_map entries))
    ∙ ap (λ n. header_bytes boot_cpu (length map) n t) s_is ∙ ap (header_bytes boot_cpu (length map) (length structure)) t_is in
    e_is ∙ ap (λ (l : List ℕ). l ++ strings) (d_is ∙ ap (λ (l : List ℕ). l ++ structure) (c_is ∙ ap (λ (l : List ℕ). l ++ map) header))
    ∙ regroup (header_bytes boot_cpu (length map) (length structure) (length strings)) map structure strings
