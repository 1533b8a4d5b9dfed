-- Plans that come to something, whichever way they go on with it.
use Rattle.std.proofs.Common.{◌≡◌, ℕ, List, [], ◌∷◌, Option, None, Some, Result, Ok, Err, IfOk, IfSome, sym, ap, subst, ◌∙◌}
use Rattle.std.specs.Prelude.{Contains}
use Rattle.std.proofs.lemmas.List.Elements.{Contains-append_right}
use Rattle.hv_config.specs.declared.config.Config.{Config}
use Rattle.hv_read.specs.Read.{Flaw, config_said}
use Rattle.outside.specs.Content.{Content, cut}
use Rattle.topaz_run.specs.declared.setup.Setup.{Setup}
use Rattle.topaz_run.specs.declared.status.Stop.{Stop}
use Rattle.topaz_run.specs.Plan.{Outcome, Plan, Ends, Opens, outcome_of, needs_of}
use Rattle.topaz_run.specs.Outcome.{configured, equipping}
use Rattle.topaz_run.specs.Answers.{GoesOn, IsRead, Meets, Stops}
use Rattle.topaz_run.proofs.Plans.{goes_on, meets_alike}
use Rattle.topaz_run.proofs.Checks.{needs_behind, needs_through}

abbrev pub Next : Type 0 → Type 0
Next X = X → Plan

-- what is known for all is known for one
pub for_one : {X : Type 0} (known : Option Content) (P : Content → X → Type 0) (x : X) → IfSome known (λ content. (x : X) → P content x) → IfSome known (λ content. P content x)
for_one None P x all = tt
for_one (Some content) P x all = all x

-- an early end in reading a file is one of every plan that opens it
pub ends_early_always : {X : Type 0} (known : Option Content) (name place : List ℕ) (rest : Next X → List ℕ → Plan) (s : Stop)
    → IfSome known (λ content. (next : List ℕ → Plan) → Stops s (outcome_of content (Opens name place next)))
    → IfSome known (λ content. (next : Next X) → Stops s (outcome_of content (Opens name place (rest next))))
ends_early_always None name place rest s stops = tt
ends_early_always (Some content) name place rest s stops = λ next. stops (rest next)

-- ---- a file that was read

through : (content : Content) (name place bytes : List ℕ) (rest : List ℕ → Plan) (whole : Plan) → IsRead content name bytes → GoesOn content (rest bytes) whole → GoesOn content (Opens name place rest) whole
through content name place bytes rest whole read goes = record {
  comes_to = goes_on content name place bytes rest read ∙ goes.comes_to;
  needs = λ blamed needed. subst (λ (names : List (List ℕ)). Contains names blamed) (sym (needs_behind content name place bytes rest read))
      (Contains-append_right (cut name ∷ []) (needs_of content (rest bytes)) blamed (goes.needs blamed needed));
}

-- what goes on behind its bytes goes on behind the file
pub goes_through : {X : Type 0} (before after : Option Content) (name place bytes : List ℕ) (rest : Next X → List ℕ → Plan) (r : Result X Stop) → after ≡ before
    → IfSome before (λ content. IsRead content name bytes)
    → IfOk r (λ said. IfSome after (λ content. (next : Next X) → GoesOn content (rest next bytes) (next said)))
    → IfOk r (λ said. IfSome before (λ content. (next : Next X) → GoesOn content (Opens name place (rest next)) (next said)))
goes_through before after name place bytes rest (Err s) same read goes = tt
goes_through {X} before after name place bytes rest (Ok said) same read goes =
    let cases : (known : Option Content) → IfSome known (λ content. IsRead content name bytes) → IfSome known (λ content. (next : Next X) → GoesOn content (rest next bytes) (next said))
    → IfSome known (λ content. (next : Next X) → GoesOn content (Opens name place (rest next)) (next said)) =
    λ known. elim known as (λ known. IfSome known (λ content. IsRead content name bytes) → IfSome known (λ content. (next : Next X) → GoesOn content (rest next bytes) (next said))
    → IfSome known (λ content. (next : Next X) → GoesOn content (Opens name place (rest next)) (next said))) [
      | None ↦ λ read goes. tt
      | Some content ↦ λ read goes next. through content name place bytes (rest next) (next said) read (goes next)
    ] in
    cases before read (subst (λ (known : Option Content). IfSome known (λ content. (next : Next X) → GoesOn content (rest next bytes) (next said))) same goes)

-- the same where the plan behind the bytes is known as it is
pub goes_behind : {X : Type 0} (known : Option Content) (name place bytes : List ℕ) (rest : Next X → List ℕ → Plan) (r : Result X Stop)
    → IfSome known (λ content. IsRead content name bytes)
    → IfOk r (λ said. (next : Next X) → rest next bytes ≡ next said)
    → IfOk r (λ said. IfSome known (λ content. (next : Next X) → GoesOn content (Opens name place (rest next)) (next said)))
goes_behind known name place bytes rest (Err s) read is = tt
goes_behind None name place bytes rest (Ok said) read is = tt
goes_behind (Some content) name place bytes rest (Ok said) read is = λ next. through content name place bytes (rest next) (next said) read (record {
  comes_to = ap (outcome_of content) (is next);
  needs = λ blamed needed. subst (λ (plan : Plan). Contains (needs_of content plan) blamed) (sym (is next)) needed;
})

every_next : {X : Type 0} (known : Option Content) (P : Content → Next X → Type 0) → ((next : Next X) → IfSome known (λ content. P content next))
    → IfSome known (λ content. (next : Next X) → P content next)
every_next None P each = tt
every_next (Some content) P each = each

-- a name that is needed behind the file is needed
pub needs_always : {X : Type 0} (before after : Option Content) (name place bytes : List ℕ) (rest : Next X → List ℕ → Plan) (blamed : List ℕ) → after ≡ before
    → IfSome before (λ content. IsRead content name bytes) → IfSome after (λ content. (next : Next X) → Contains (needs_of content (rest next bytes)) blamed)
    → IfSome before (λ content. (next : Next X) → Contains (needs_of content (Opens name place (rest next))) blamed)
needs_always {X} before after name place bytes rest blamed same read needed =
    every_next before (λ content next. Contains (needs_of content (Opens name place (rest next))) blamed)
    (λ next. needs_through before after name place bytes (rest next) blamed same read (for_one after (λ content next. Contains (needs_of content (rest next bytes)) blamed) next needed))

-- ---- a configuration's bytes that are right

-- what is said of each way to go on is said behind them
pub right_bytes : (P : (Next Setup → Plan) → Type 0) (config hw bytes : List ℕ) (flaw : Option Flaw) (said : Config) → flaw ≡ None → said ≡ config_said bytes
    → P (λ next. equipping hw next said) → P (λ next. configured config hw next bytes flaw)
right_bytes P config hw bytes flaw said right is holds =
    subst (λ (flaw : Option Flaw). P (λ next. configured config hw next bytes flaw)) (sym right) (subst (λ (said : Config). P (λ next. equipping hw next said)) is holds)

-- ---- a command whose plan goes on with something

-- it ends there
pub meets_ended : {X : Type 0} (known : Option Content) (whole : Next X → Plan) (x : X) (meaning : X → Outcome) (r : Result (List ℕ) Stop)
    → IfSome known (λ content. (next : Next X) → GoesOn content (whole next) (next x)) → Meets r (meaning x)
    → IfSome known (λ content. Meets r (outcome_of content (whole (λ x. Ends (meaning x)))))
meets_ended None whole x meaning r goes meets = tt
meets_ended (Some content) whole x meaning r goes meets = meets_alike r _ _ (goes (λ x. Ends (meaning x))).comes_to meets

-- what is answered on the way on is answered by the whole
pub meets_behind : {X : Type 0} (before after : Option Content) (whole : Next X → Plan) (x : X) (next : Next X) (r : Result (List ℕ) Stop) → after ≡ before
    → IfSome before (λ content. (next : Next X) → GoesOn content (whole next) (next x)) → IfSome after (λ content. Meets r (outcome_of content (next x)))
    → IfSome before (λ content. Meets r (outcome_of content (whole next)))
meets_behind {X} before after whole x next r same goes meets =
    let cases : (known : Option Content) → IfSome known (λ content. (next : Next X) → GoesOn content (whole next) (next x)) → IfSome known (λ content. Meets r (outcome_of content (next x)))
    → IfSome known (λ content. Meets r (outcome_of content (whole next))) =
    λ known. elim known as (λ known. IfSome known (λ content. (next : Next X) → GoesOn content (whole next) (next x)) → IfSome known (λ content. Meets r (outcome_of content (next x)))
    → IfSome known (λ content. Meets r (outcome_of content (whole next)))) [
      | None ↦ λ goes meets. tt
      | Some content ↦ λ goes meets. meets_alike r _ _ (goes next).comes_to meets
    ] in
    cases before goes (subst (λ (known : Option Content). IfSome known (λ content. Meets r (outcome_of content (next x)))) same meets)

-- what is needed on the way on is needed by the whole
pub needs_on : {X : Type 0} (before after : Option Content) (whole : Next X → Plan) (x : X) (next : Next X) (blamed : List ℕ) → after ≡ before
    → IfSome before (λ content. (next : Next X) → GoesOn content (whole next) (next x)) → IfSome after (λ content. Contains (needs_of content (next x)) blamed)
    → IfSome before (λ content. Contains (needs_of content (whole next)) blamed)
needs_on {X} before after whole x next blamed same goes needed =
    let cases : (known : Option Content) → IfSome known (λ content. (next : Next X) → GoesOn content (whole next) (next x)) → IfSome known (λ content. Contains (needs_of content (next x)) blamed)
    → IfSome known (λ content. Contains (needs_of content (whole next)) blamed) =
    λ known. elim known as (λ known. IfSome known (λ content. (next : Next X) → GoesOn content (whole next) (next x)) → IfSome known (λ content. Contains (needs_of content (next x)) blamed)
    → IfSome known (λ content. Contains (needs_of content (whole next)) blamed)) [
      | None ↦ λ goes needed. tt
      | Some content ↦ λ goes needed. (goes next).needs blamed needed
    ] in
    cases before goes (subst (λ (known : Option Content). IfSome known (λ content. Contains (needs_of content (next x)) blamed)) same needed)

-- ---- faults

pub one_fault : {T : Type 0} (r : Result T Stop) (s t : Stop) → r ≡ Err s → r ≡ Err t → s ≡ t
one_fault r s t e f = cc
