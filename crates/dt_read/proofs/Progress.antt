-- How far the tokens of a block were read.
use Rattle.std.proofs.Common.{◌≡◌, ℕ, true, false, ◌-◌, ◌<◌, ◌≤◌, List, [], ◌∷◌, ◌++◌, length, Option, Some, None, Result, Ok, Err, refl, sym, ap, ◌∙◌, arith}
use Rattle.dt_model.specs.declared.Node.{Node}
use Rattle.dt_model.specs.Token.{Token, BeginNode, Prop, EndNode, Nop, Finish, is_end, onto, without_nops}
use Rattle.dt_model.specs.Node.{node_tokens}
use Rattle.dt_model.specs.Rule.{or_else, broken, broken_by_finish}
use Rattle.dt_model.specs.Fault.{Found, found_from, found_in, tokens_in, fault_in, token_at}
use Rattle.std.specs.Prelude.{MatchResult}
use Rattle.dt_read.specs.declared.fault.BlobFault.{BlobFault}
use Rattle.dt_read.specs.declared.fault.BlobFault.TheVariants.{Rule, NoMemory}
use Rattle.dt_read.specs.Given.{Fails, FailsBy, ReadsRoot}
use Rattle.dt_model.proofs.Rules.{onto-append}
use Rattle.dt_model.proofs.Found.{found_in-is, are_inner-node, without_nops-inner, same_but_nops}
use Rattle.dt_model.proofs.Spelled.{token_takes}

-- What is left of the block gives the rest of its tokens, and so its fault.
pub record ReadTo (strings block rest : List ℕ) (before : List Token) : Type 0 where
  pub most : ℕ
  pub enough : length rest ≤ most
  pub fault_is : fault_in [] (tokens_in strings block) ≡ fault_in before (found_in most strings rest)
  pub tokens_is : onto (tokens_in strings block).tokens [] ≡ onto (found_in most strings rest).tokens before

pub at_start : (strings block : List ℕ) (before : List Token) → before ≡ [] → ReadTo strings block block before
at_start strings block before none = rw none (record { most = length block; enough = omega arith; fault_is = refl; tokens_is = refl })

-- what is found where this was read
found_here : (most : ℕ) (strings rest : List ℕ) (r : Result (Token × List ℕ) ℕ) → length rest ≤ most → token_at strings rest ≡ r → found_in most strings rest ≡ found_from r (found_in (most - 1) strings)
found_here most strings rest r enough e = found_in-is most strings rest enough ∙ ap (λ x. found_from x (found_in (most - 1) strings)) e

-- ---- nothing can be read

pub at_fault : (strings block rest : List ℕ) (before : List Token) (rule : ℕ) → ReadTo strings block rest before → token_at strings rest ≡ Err rule → fault_in [] (tokens_in strings block) ≡ Some rule
at_fault strings block rest before rule to e = to.fault_is ∙ ap (fault_in before) (found_here to.most strings rest (Err rule) to.enough e)

-- ---- a token that breaks a rule

or_some : (a b c : Option ℕ) (rule : ℕ) → a ≡ Some rule → or_else (or_else a b) c ≡ Some rule
or_some a b c rule e = rw e refl

faulty : (most : ℕ) (strings after : List ℕ) (before : List Token) (token : Token) (rule : ℕ) → broken before token ≡ Some rule → fault_in before (found_from (Ok (token, after)) (found_in most strings)) ≡ Some rule
faulty most strings after before (BeginNode n) rule e = or_some _ _ _ rule e
faulty most strings after before (Prop n v) rule e = or_some _ _ _ rule e
faulty most strings after before EndNode rule e = or_some _ _ _ rule e
faulty most strings after before Nop rule e = absurd cc
faulty most strings after before Finish rule e = or_some _ _ _ rule e

pub at_broken : (strings block rest after : List ℕ) (before : List Token) (token : Token) (rule : ℕ) → ReadTo strings block rest before → token_at strings rest ≡ Ok (token, after) → broken before token ≡ Some rule
    → fault_in [] (tokens_in strings block) ≡ Some rule
at_broken strings block rest after before token rule to e fault =
    to.fault_is ∙ ap (fault_in before) (found_here to.most strings rest (Ok (token, after)) to.enough e) ∙ faulty (to.most - 1) strings after before token rule fault

-- ---- a token that keeps them

or_none : (a b c : Option ℕ) → a ≡ None → or_else (or_else a b) c ≡ or_else b c
or_none a b c e = rw e refl

sound : (most : ℕ) (strings after : List ℕ) (before : List Token) (token : Token) → is_end token ≡ false → broken before token ≡ None
    → fault_in before (found_from (Ok (token, after)) (found_in most strings)) ≡ fault_in (onto (token ∷ []) before) (found_in most strings after)
sound most strings after before (BeginNode n) middle e = or_none _ _ _ e
sound most strings after before (Prop n v) middle e = or_none _ _ _ e
sound most strings after before EndNode middle e = or_none _ _ _ e
sound most strings after before Nop middle e = refl
sound most strings after before Finish middle e = absurd cc

kept : (most : ℕ) (strings after : List ℕ) (before : List Token) (token : Token) → is_end token ≡ false
    → onto (found_from (Ok (token, after)) (found_in most strings)).tokens before ≡ onto (found_in most strings after).tokens (onto (token ∷ []) before)
kept most strings after before (BeginNode n) middle = refl
kept most strings after before (Prop n v) middle = refl
kept most strings after before EndNode middle = refl
kept most strings after before Nop middle = refl
kept most strings after before Finish middle = absurd cc

pub shorter : (strings rest after : List ℕ) (token : Token) → token_at strings rest ≡ Ok (token, after) → length after < length rest
shorter strings rest after token e = (token_takes strings rest token after e).shorter

pub at_token : (strings block rest after : List ℕ) (before longer : List Token) (token : Token) → ReadTo strings block rest before → token_at strings rest ≡ Ok (token, after) → is_end token ≡ false → broken before token ≡ None
    → longer ≡ onto (token ∷ []) before → ReadTo strings block after longer
at_token strings block rest after before longer token to e middle none is =
    let here = found_here to.most strings rest (Ok (token, after)) to.enough e in
    rw is (record {
      most = to.most - 1;
      enough = omega (arith, shorter strings rest after token e, to.enough);
      fault_is = to.fault_is ∙ ap (fault_in before) here ∙ sound (to.most - 1) strings after before token middle none;
      tokens_is = to.tokens_is ∙ ap (λ (f : Found). onto f.tokens before) here ∙ kept (to.most - 1) strings after before token middle;
    })

-- ---- the end

pub at_end : (strings block rest after : List ℕ) (before : List Token) (root : Node) → ReadTo strings block rest before → token_at strings rest ≡ Ok (Finish, after) → broken_by_finish before ≡ None
    → before ≡ onto (node_tokens root) []
    → (fault_in [] (tokens_in strings block) ≡ None) × (without_nops (tokens_in strings block).tokens ≡ node_tokens root ++ Finish ∷ [])
at_end strings block rest after before root to e none is =
    let here = found_here to.most strings rest (Ok (Finish, after)) to.enough e in
    let last : onto (tokens_in strings block).tokens [] ≡ onto (node_tokens root ++ Finish ∷ []) []
    = to.tokens_is ∙ ap (λ (f : Found). onto f.tokens before) here ∙ ap (λ (t : List Token). Finish ∷ t) is ∙ sym (onto-append (node_tokens root) (Finish ∷ []) []) in (
      to.fault_is ∙ ap (fault_in before) here ∙ or_none _ None None none,
      same_but_nops (tokens_in strings block).tokens (node_tokens root ++ Finish ∷ []) last ∙ without_nops-inner (node_tokens root) (are_inner-node root),
    )

-- ---- as the code sees it

pub fails_at : (fault : BlobFault) (strings block rest : List ℕ) (before : List Token) → ReadTo strings block rest before → Fails fault (token_at strings rest) → FailsBy fault (fault_in [] (tokens_in strings block))
fails_at (Rule rule) strings block rest before to e = at_fault strings block rest before rule to e
fails_at NoMemory strings block rest before to e = tt

pub fails_by : (fault : BlobFault) (strings block rest after : List ℕ) (before : List Token) (token : Token) → ReadTo strings block rest before → token_at strings rest ≡ Ok (token, after) → FailsBy fault (broken before token)
    → FailsBy fault (fault_in [] (tokens_in strings block))
fails_by (Rule rule) strings block rest after before token to e fault = at_broken strings block rest after before token rule to e fault
fails_by NoMemory strings block rest after before token to e fault = tt

is_finish : (token : Token) → true ≡ is_end token → token ≡ Finish
is_finish (BeginNode n) e = absurd cc
is_finish (Prop n v) e = absurd cc
is_finish EndNode e = absurd cc
is_finish Nop e = absurd cc
is_finish Finish e = refl

pub finishes : (r : Result Node BlobFault) (strings block rest after : List ℕ) (before : List Token) (token : Token) → ReadTo strings block rest before → token_at strings rest ≡ Ok (token, after) → true ≡ is_end token
    → MatchResult r (λ root. (broken_by_finish before ≡ None) × (before ≡ onto (node_tokens root) [])) (λ fault. FailsBy fault (broken_by_finish before))
    → ReadsRoot strings block r
finishes (Ok root) strings block rest after before token to e end given =
    at_end strings block rest after before root to (e ∙ ap (λ (t : Token). Ok (t, after)) (is_finish token end)) given.0 given.1
finishes (Err fault) strings block rest after before token to e end given =
    fails_by fault strings block rest after before Finish to (e ∙ ap (λ (t : Token). Ok (t, after)) (is_finish token end)) given
