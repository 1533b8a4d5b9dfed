-- What becomes of a plan that opens a file, and of its answers.
use Rattle.std.proofs.Common.{◌≡◌, ℕ, ◌<◌, ◌≤◌, nat_lt, List, length, codes, Option, None, Some, Result, Ok, Err, IfSome, IsSomeAnd, ap, ◌∙◌}
use Rattle.outside.specs.Limit.{file_limit}
use Rattle.outside.specs.Content.{Content, file_of, IsFile, IsLonger}
use Rattle.topaz_run.specs.Plan.{Outcome, Plan, Ends, Opens, refusal, opened, outcome_of}
use Rattle.topaz_run.specs.Answers.{Stops, Meets, IsRead}
use Rattle.topaz_run.specs.declared.status.Stop.{Stop}
use Rattle.topaz_run.specs.declared.status.Stop.TheVariants as stop
use Rattle.topaz_run.proofs.Choices.{choose, pass, below, not_below}

-- a file that was read goes on with its bytes
pub goes_on : (content : Content) (name place bytes : List ℕ) (next : List ℕ → Plan) → IsRead content name bytes
    → outcome_of content (Opens name place next) ≡ outcome_of content (next bytes)
goes_on content name place bytes next read =
    ap (λ (file : Option (List ℕ)). opened file place (λ bytes. outcome_of content (next bytes))) read.is
    ∙ pass (nat_lt file_limit (length bytes)) _ _ (not_below file_limit (length bytes) read.short)

-- a longer one breaks F1
longer : (file : Option (List ℕ)) (place : List ℕ) (rest : List ℕ → Outcome) → IsSomeAnd file (λ bytes. file_limit < length bytes)
    → opened file place rest ≡ refusal (codes "F1") place
longer None place rest long = absurd long
longer (Some bytes) place rest long = choose (nat_lt file_limit (length bytes)) _ _ (below file_limit (length bytes) long)

-- the same outcome by another name
pub stops_alike : (s : Stop) (meaning other : Outcome) → meaning ≡ other → Stops s other → Stops s meaning
stops_alike (stop.Refused text) meaning other same is = same ∙ is
stops_alike stop.ReadFault meaning other same is = tt
stops_alike stop.NoMemory meaning other same is = tt

pub meets_alike : (r : Result (List ℕ) Stop) (meaning other : Outcome) → meaning ≡ other → Meets r other → Meets r meaning
meets_alike (Ok bytes) meaning other same is = same ∙ is
meets_alike (Err s) meaning other same is = stops_alike s meaning other same is

-- an early end is one of a longer file's plan
pub too_long : (known : Option Content) (name place : List ℕ) (s : Stop) → IsLonger known name file_limit → Stops s (refusal (codes "F1") place)
    → IfSome known (λ content. (next : List ℕ → Plan) → Stops s (outcome_of content (Opens name place next)))
too_long None name place s long is = tt
too_long (Some content) name place s long is = λ next. stops_alike s _ _ (longer (file_of content name) place _ long) is

-- what was read whole, and within the limit
pub is_read : (known : Option Content) (name bytes : List ℕ) → IsFile known name bytes → length bytes ≤ file_limit → IfSome known (λ content. IsRead content name bytes)
is_read None name bytes is short = tt
is_read (Some content) name bytes is short = record { is = is; short = short }

-- ---- a function that reads a file first

-- an early end there is the plan's, however it goes on
pub ends_early : (known : Option Content) (name place : List ℕ) (next : List ℕ → Plan) (s : Stop)
    → IfSome known (λ content. (next : List ℕ → Plan) → Stops s (outcome_of content (Opens name place next)))
    → IfSome known (λ content. Stops s (outcome_of content (Opens name place next)))
ends_early None name place next s stops = tt
ends_early (Some content) name place next s stops = stops next

-- what it makes of the bytes is what the plan comes to
pub ends_with : (known : Option Content) (name place bytes : List ℕ) (meaning : List ℕ → Outcome) (r : Result (List ℕ) Stop)
    → IfSome known (λ content. IsRead content name bytes) → Meets r (meaning bytes)
    → IfSome known (λ content. Meets r (outcome_of content (Opens name place (λ bytes. Ends (meaning bytes)))))
ends_with None name place bytes meaning r read meets = tt
ends_with (Some content) name place bytes meaning r read meets =
    meets_alike r _ _ (goes_on content name place bytes (λ bytes. Ends (meaning bytes)) read) meets
