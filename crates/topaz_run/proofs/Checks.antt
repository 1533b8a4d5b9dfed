-- What a plan needs that opens a file and goes on.
use Rattle.std.proofs.Common.{◌≡◌, ℕ, List, [], ◌∷◌, Option, None, Some, IfSome, sym, ap, subst, ◌∙◌}
use Rattle.std.specs.Prelude.{Contains, length, nat_lt}
use Rattle.std.proofs.lemmas.List.Elements.{Contains-append_right}
use Rattle.outside.specs.Limit.{file_limit}
use Rattle.outside.specs.Content.{Content, cut}
use Rattle.topaz_run.specs.Plan.{Plan, Opens, needs_of, needed_behind}
use Rattle.topaz_run.specs.Answers.{IsRead}
use Rattle.topaz_run.proofs.Choices.{pass, not_below}

pub needs_behind : (content : Content) (name place bytes : List ℕ) (next : List ℕ → Plan) → IsRead content name bytes
    → needs_of content (Opens name place next) ≡ cut name ∷ needs_of content (next bytes)
needs_behind content name place bytes next read =
    ap (λ (file : Option (List ℕ)). cut name ∷ needed_behind file (λ bytes. needs_of content (next bytes))) read.is
    ∙ ap (λ (names : List (List ℕ)). cut name ∷ names) (pass (nat_lt file_limit (length bytes)) _ _ (not_below file_limit (length bytes) read.short))

-- what is needed behind a file that was read is needed by the whole
pub needs_through : (before after : Option Content) (name place bytes : List ℕ) (next : List ℕ → Plan) (blamed : List ℕ) → after ≡ before
    → IfSome before (λ content. IsRead content name bytes) → IfSome after (λ content. Contains (needs_of content (next bytes)) blamed)
    → IfSome before (λ content. Contains (needs_of content (Opens name place next)) blamed)
needs_through before after name place bytes next blamed same read needed =
    let cases : (known : Option Content) → IfSome known (λ content. IsRead content name bytes) → IfSome known (λ content. Contains (needs_of content (next bytes)) blamed)
    → IfSome known (λ content. Contains (needs_of content (Opens name place next)) blamed) =
    λ known. elim known as (λ known. IfSome known (λ content. IsRead content name bytes) → IfSome known (λ content. Contains (needs_of content (next bytes)) blamed)
    → IfSome known (λ content. Contains (needs_of content (Opens name place next)) blamed)) [
      | None ↦ λ read needed. tt
      | Some content ↦ λ read needed.
          subst (λ (names : List (List ℕ)). Contains names blamed) (sym (needs_behind content name place bytes next read)) (Contains-append_right (cut name ∷ []) (needs_of content (next bytes)) blamed needed)
    ] in
    cases before read (subst (λ (known : Option Content). IfSome known (λ content. Contains (needs_of content (next bytes)) blamed)) same needed)
