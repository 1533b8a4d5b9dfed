-- The tokens that are found in a block are those that it spells.
use Rattle.std.proofs.Common.{◌≡◌, ℕ, zero, suc, ◌-◌, ◌≤◌, Bool, true, false, not, List, [], ◌∷◌, ◌++◌, map, length, None, Result, Ok, Err, refl, sym, ap, subst, ◌∙◌, arith}
use Rattle.std.specs.List.{list_all, flat_map}
use Rattle.std.proofs.lemmas.Bool.{and_parts, and_from}
use Rattle.std.proofs.lemmas.List.{append-nil}
use Rattle.dt_model.specs.declared.tree.Node.{Node}
use Rattle.dt_model.specs.declared.tree.Node.TheOpen.{Node-F}
use Rattle.dt_model.specs.declared.tree.Node.TheFolds.{ind-Node}
use Rattle.dt_model.specs.declared.tree.Property.{Property}
use Rattle.dt_model.specs.Token.{Token, BeginNode, Prop, EndNode, Nop, Finish, is_end, onto, without_nops}
use Rattle.dt_model.specs.Node.{property_token, node_tokens}
use Rattle.dt_model.specs.Rule.{or_else, broken, first_broken}
use Rattle.dt_model.specs.Spelling.{SpellsAll}
use Rattle.dt_model.specs.Fault.{Found, found_from, found_in, tokens_in, token_at}
use Rattle.dt_model.specs.Blob.{IsStructure}
use Rattle.dt_model.proofs.Rules.{inside, node_tokens-roll}
use Rattle.dt_model.proofs.Spelled.{token_takes, token_again}

-- ---- one step

token_at-nothing : (strings : List ℕ) → token_at strings [] ≡ Err 7
unfolding token_at
token_at-nothing strings = refl

-- with room for each byte there is room for each token
pub found_in-is : (most : ℕ) (strings rest : List ℕ) → length rest ≤ most → found_in most strings rest ≡ found_from (token_at strings rest) (found_in (most - 1) strings)
found_in-is zero strings [] enough = rw (token_at-nothing strings) refl
found_in-is zero strings (b ∷ rest) enough = absurd (omega arith)
found_in-is (suc most) strings rest enough = ap (λ (n : ℕ). found_from (token_at strings rest) (found_in n strings)) (omega arith)

-- ---- what is found is spelled

abbrev pub SpelledTo : List ℕ → List Token → List ℕ → Type 0
SpelledTo strings tokens bytes = (rest : List ℕ) × SpellsAll strings tokens bytes rest

from_token : (most : ℕ) (strings bytes : List ℕ) (r : Result (Token × List ℕ) ℕ) → token_at strings bytes ≡ r
    → ((rest : List ℕ) → (found_in most strings rest).stop ≡ None → SpelledTo strings (found_in most strings rest).tokens rest)
    → (found_from r (found_in most strings)).stop ≡ None → SpelledTo strings (found_from r (found_in most strings)).tokens bytes
from_token most strings bytes (Err rule) e others none = absurd cc
from_token most strings bytes (Ok (Finish, rest)) e others none = let t = token_takes strings bytes Finish rest e in (rest, (t.front, rest, t.parts, t.spells, refl))
from_token most strings bytes (Ok (BeginNode n, rest)) e others none = let t = token_takes strings bytes (BeginNode n) rest e in let o = others rest none in (o.0, (t.front, rest, t.parts, t.spells, o.1))
from_token most strings bytes (Ok (Prop n v, rest)) e others none = let t = token_takes strings bytes (Prop n v) rest e in let o = others rest none in (o.0, (t.front, rest, t.parts, t.spells, o.1))
from_token most strings bytes (Ok (EndNode, rest)) e others none = let t = token_takes strings bytes EndNode rest e in let o = others rest none in (o.0, (t.front, rest, t.parts, t.spells, o.1))
from_token most strings bytes (Ok (Nop, rest)) e others none = let t = token_takes strings bytes Nop rest e in let o = others rest none in (o.0, (t.front, rest, t.parts, t.spells, o.1))

pub found_in-spelled : (most : ℕ) (strings bytes : List ℕ) → (found_in most strings bytes).stop ≡ None → SpelledTo strings (found_in most strings bytes).tokens bytes
found_in-spelled zero strings bytes none = absurd cc
found_in-spelled (suc most) strings bytes none = from_token most strings bytes (token_at strings bytes) refl (found_in-spelled most strings) none

-- ---- what is spelled is found

-- no END among them
abbrev pub is_middle : List Token → Bool
is_middle = list_all (λ token. not (is_end token))

with_token : (most : ℕ) (strings rest : List ℕ) (token : Token) (tokens : List Token) → not (is_end token) ≡ true → found_in most strings rest ≡ record { tokens = tokens; stop = None }
    → found_from (Ok (token, rest)) (found_in most strings) ≡ record { tokens = token ∷ tokens; stop = None }
with_token most strings rest (BeginNode n) tokens middle e = rw e refl
with_token most strings rest (Prop n v) tokens middle e = rw e refl
with_token most strings rest EndNode tokens middle e = rw e refl
with_token most strings rest Nop tokens middle e = rw e refl
with_token most strings rest Finish tokens middle e = absurd cc

pub found_in-again : (tokens more : List Token) (most : ℕ) (strings bytes rest : List ℕ) → is_middle tokens ≡ true → length bytes ≤ most → SpellsAll strings (tokens ++ Finish ∷ more) bytes rest
    → found_in most strings bytes ≡ record { tokens = tokens ++ Finish ∷ []; stop = None }
found_in-again [] more most strings bytes rest middle enough spells =
    let read : token_at strings bytes ≡ Ok (Finish, spells.1) = ap (token_at strings) spells.2 ∙ token_again strings Finish spells.0 spells.1 spells.3 in
    found_in-is most strings bytes enough ∙ ap (λ (r : Result (Token × List ℕ) ℕ). found_from r (found_in (most - 1) strings)) read
found_in-again (token ∷ tokens) more most strings bytes rest middle enough spells =
    let both = and_parts (not (is_end token)) (is_middle tokens) middle in
    let read : token_at strings bytes ≡ Ok (token, spells.1) = ap (token_at strings) spells.2 ∙ token_again strings token spells.0 spells.1 spells.3 in
    let shorter = (token_takes strings bytes token spells.1 read).shorter in
    found_in-is most strings bytes enough ∙ ap (λ (r : Result (Token × List ℕ) ℕ). found_from r (found_in (most - 1) strings)) read
    ∙ with_token (most - 1) strings spells.1 token (tokens ++ Finish ∷ []) both.0 (found_in-again tokens more (most - 1) strings spells.1 rest both.1 (omega arith) spells.4)

-- ---- the tokens of a tree

abbrev pub is_inner : Token → Bool
is_inner Finish = false
is_inner Nop = false
is_inner token = true

abbrev pub are_inner : List Token → Bool
are_inner = list_all is_inner

are_inner-append : (xs ys : List Token) → are_inner xs ≡ true → are_inner ys ≡ true → are_inner (xs ++ ys) ≡ true
are_inner-append [] ys e f = f
are_inner-append (x ∷ xs) ys e f = let both = and_parts (is_inner x) (are_inner xs) e in and_from (is_inner x) (are_inner (xs ++ ys)) both.0 (are_inner-append xs ys both.1 f)

are_inner-properties : (ps : List Property) → are_inner (map property_token ps) ≡ true
are_inner-properties [] = refl
are_inner-properties (p ∷ ps) = are_inner-properties ps

abbrev HasInner : Node → Type 0
HasInner node = are_inner (node_tokens node) ≡ true

are_inner-children : (nodes : List ((node : Node) × HasInner node)) → are_inner (flat_map node_tokens (map (λ e. e.0) nodes)) ≡ true
are_inner-children [] = refl
are_inner-children (node ∷ others) = are_inner-append (node_tokens node.0) (flat_map node_tokens (map (λ e. e.0) others)) node.1 (are_inner-children others)

pub are_inner-node : (node : Node) → are_inner (node_tokens node) ≡ true
are_inner-node = ind-Node HasInner (λ x y is.
    let children = subst (λ (z : Node-F Node). are_inner (flat_map node_tokens z.children.items) ≡ true) is (are_inner-children y.children.items) in
    let all : are_inner (inside x) ≡ true = are_inner-append (map property_token x.props.items) (flat_map node_tokens x.children.items ++ EndNode ∷ []) (are_inner-properties x.props.items)
    (are_inner-append (flat_map node_tokens x.children.items) (EndNode ∷ []) children refl) in
    rw (node_tokens-roll x) all)

pub without_nops-inner : (tokens : List Token) → are_inner tokens ≡ true → without_nops (tokens ++ Finish ∷ []) ≡ tokens ++ Finish ∷ []
without_nops-inner [] e = refl
without_nops-inner (BeginNode n ∷ tokens) e = ap (λ (ts : List Token). BeginNode n ∷ ts) (without_nops-inner tokens e)
without_nops-inner (Prop n v ∷ tokens) e = ap (λ (ts : List Token). Prop n v ∷ ts) (without_nops-inner tokens e)
without_nops-inner (EndNode ∷ tokens) e = ap (λ (ts : List Token). EndNode ∷ ts) (without_nops-inner tokens e)
without_nops-inner (Nop ∷ tokens) e = absurd cc
without_nops-inner (Finish ∷ tokens) e = absurd cc

-- the tokens before the first END
record UpToEnd (spelled tokens : List Token) : Type 0 where
  before : List Token
  more : List Token
  parts : spelled ≡ before ++ Finish ∷ more
  middle : is_middle before ≡ true
  same : without_nops (before ++ Finish ∷ []) ≡ tokens ++ Finish ∷ []

with_first : (token : Token) (spelled tokens : List Token) → not (is_end token) ≡ true → is_inner token ≡ true → UpToEnd spelled tokens → UpToEnd (token ∷ spelled) (token ∷ tokens)
with_first (BeginNode n) spelled tokens middle inner u = record { before = BeginNode n ∷ u.before; more = u.more; parts = ap (λ (ts : List Token). BeginNode n ∷ ts) u.parts; middle = u.middle; same = ap (λ (ts : List Token). BeginNode n ∷ ts) u.same }
with_first (Prop n v) spelled tokens middle inner u = record { before = Prop n v ∷ u.before; more = u.more; parts = ap (λ (ts : List Token). Prop n v ∷ ts) u.parts; middle = u.middle; same = ap (λ (ts : List Token). Prop n v ∷ ts) u.same }
with_first EndNode spelled tokens middle inner u = record { before = EndNode ∷ u.before; more = u.more; parts = ap (λ (ts : List Token). EndNode ∷ ts) u.parts; middle = u.middle; same = ap (λ (ts : List Token). EndNode ∷ ts) u.same }
with_first Nop spelled tokens middle inner u = absurd cc
with_first Finish spelled tokens middle inner u = absurd cc

heads : (x y : Token) (xs ys : List Token) → x ∷ xs ≡ y ∷ ys → x ≡ y
heads x y xs ys e = cc

tails : (x y : Token) (xs ys : List Token) → x ∷ xs ≡ y ∷ ys → xs ≡ ys
tails x y xs ys e = cc

up_to_end : (spelled tokens : List Token) → are_inner tokens ≡ true → without_nops spelled ≡ tokens ++ Finish ∷ [] → UpToEnd spelled tokens
up_to_end [] [] inner e = absurd cc
up_to_end [] (t ∷ ts) inner e = absurd cc
up_to_end (Nop ∷ s) tokens inner e =
    let u = up_to_end s tokens inner e in
    record { before = Nop ∷ u.before; more = u.more; parts = ap (λ (xs : List Token). Nop ∷ xs) u.parts; middle = u.middle; same = u.same }
up_to_end (Finish ∷ s) [] inner e = record { before = []; more = s; parts = refl; middle = refl; same = refl }
up_to_end (Finish ∷ s) (t ∷ ts) inner e =
    let both = and_parts (is_inner t) (are_inner ts) inner in
    let odd : false ≡ true = subst (λ (u : Token). is_inner u ≡ true) (sym (heads _ _ _ _ e)) both.0 in
    absurd cc
up_to_end (BeginNode n ∷ s) [] inner e = absurd cc
up_to_end (BeginNode n ∷ s) (t ∷ ts) inner e =
    let both = and_parts (is_inner t) (are_inner ts) inner in
    subst (λ (u : Token). UpToEnd (BeginNode n ∷ s) (u ∷ ts)) (heads _ _ _ _ e) (with_first (BeginNode n) s ts refl refl (up_to_end s ts both.1 (tails _ _ _ _ e)))
up_to_end (Prop n v ∷ s) [] inner e = absurd cc
up_to_end (Prop n v ∷ s) (t ∷ ts) inner e =
    let both = and_parts (is_inner t) (are_inner ts) inner in
    subst (λ (u : Token). UpToEnd (Prop n v ∷ s) (u ∷ ts)) (heads _ _ _ _ e) (with_first (Prop n v) s ts refl refl (up_to_end s ts both.1 (tails _ _ _ _ e)))
up_to_end (EndNode ∷ s) [] inner e = absurd cc
up_to_end (EndNode ∷ s) (t ∷ ts) inner e =
    let both = and_parts (is_inner t) (are_inner ts) inner in
    subst (λ (u : Token). UpToEnd (EndNode ∷ s) (u ∷ ts)) (heads _ _ _ _ e) (with_first EndNode s ts refl refl (up_to_end s ts both.1 (tails _ _ _ _ e)))

-- ---- the structure block

pub structure_is : (strings block : List ℕ) (tokens : List Token) → (tokens_in strings block).stop ≡ None → without_nops (tokens_in strings block).tokens ≡ tokens → IsStructure strings block tokens
structure_is strings block tokens none same =
    let s = found_in-spelled (length block) strings block none in
    record { spelled = (tokens_in strings block).tokens; rest = s.0; spells = s.1; same = same }

pub record IsFound (strings block : List ℕ) (tokens : List Token) : Type 0 where
  pub none : (tokens_in strings block).stop ≡ None
  pub same : without_nops (tokens_in strings block).tokens ≡ tokens

pub structure_found : (strings block : List ℕ) (tokens : List Token) → are_inner tokens ≡ true → IsStructure strings block (tokens ++ Finish ∷ []) → IsFound strings block (tokens ++ Finish ∷ [])
structure_found strings block tokens inner s =
    let u = up_to_end s.spelled tokens inner s.same in
    let found = found_in-again u.before u.more (length block) strings block s.rest u.middle (omega arith) (subst (λ (ts : List Token). SpellsAll strings ts block s.rest) u.parts s.spells) in
    record { none = ap (λ (f : Found). f.stop) found; same = ap (λ (f : Found). without_nops f.tokens) found ∙ u.same }

pub first_broken-without_nops : (tokens before : List Token) → first_broken before (without_nops tokens) ≡ first_broken before tokens
first_broken-without_nops [] before = refl
first_broken-without_nops (BeginNode n ∷ tokens) before = ap (or_else (broken before (BeginNode n))) (first_broken-without_nops tokens (BeginNode n ∷ before))
first_broken-without_nops (Prop n v ∷ tokens) before = ap (or_else (broken before (Prop n v))) (first_broken-without_nops tokens (Prop n v ∷ before))
first_broken-without_nops (EndNode ∷ tokens) before = ap (or_else (broken before EndNode)) (first_broken-without_nops tokens (EndNode ∷ before))
first_broken-without_nops (Nop ∷ tokens) before = first_broken-without_nops tokens before
first_broken-without_nops (Finish ∷ tokens) before = ap (or_else (broken before Finish)) (first_broken-without_nops tokens (Finish ∷ before))

-- ---- tokens on top of one another

unroll : List Token → List Token → List Token
unroll [] others = others
unroll (token ∷ tokens) others = unroll tokens (token ∷ others)

unroll-onto : (xs before others : List Token) → unroll (onto xs before) others ≡ unroll before (without_nops xs ++ others)
unfolding unroll
unroll-onto [] before others = refl
unroll-onto (BeginNode n ∷ xs) before others = unroll-onto xs (BeginNode n ∷ before) others
unroll-onto (Prop n v ∷ xs) before others = unroll-onto xs (Prop n v ∷ before) others
unroll-onto (EndNode ∷ xs) before others = unroll-onto xs (EndNode ∷ before) others
unroll-onto (Nop ∷ xs) before others = unroll-onto xs before others
unroll-onto (Finish ∷ xs) before others = unroll-onto xs (Finish ∷ before) others

pub same_but_nops : (xs ys : List Token) → onto xs [] ≡ onto ys [] → without_nops xs ≡ without_nops ys
unfolding unroll
same_but_nops xs ys e =
    sym (append-nil (without_nops xs)) ∙ sym (unroll-onto xs [] []) ∙ ap (λ (t : List Token). unroll t []) e ∙ unroll-onto ys [] [] ∙ append-nil (without_nops ys)
