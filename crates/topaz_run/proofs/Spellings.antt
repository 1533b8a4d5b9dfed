-- The number that a text spells is what parsing gives, where that is spelled by the text.
use Rattle.std.proofs.Common.{◌≡◌, ℕ, ◌<◌, ◌≤◌, ◌^◌, Bool, true, false, ◌&&◌, nat_le, List, Option, None, Some, Result, Ok, Err, cond, decimal, refl, sym, ap, ◌∙◌, arith}
use Rattle.std.specs.Str.{bytes_eq}
use Rattle.std.specs.Str.Parse.{digits_value, ParsesUnsigned}
use Rattle.std.proofs.lemmas.Fmt.{parse-decimal, decimal_is_IsNumeral}
use Rattle.std.proofs.lemmas.Slice.Eq.{bytes_eq-Decides}
use Rattle.std.proofs.lemmas.Bool.{leb-true, and_parts}
use Rattle.topaz_run.specs.Number.{number_of}

-- the text spells the number, which is small enough
abbrev is_spelled : ℕ → List ℕ → ℕ → Bool
is_spelled most text n = nat_le n most && bytes_eq text (decimal n)

abbrev pub spelled_within : {E : Type 0} → ℕ → List ℕ → Result ℕ E → Option ℕ
spelled_within most text (Ok n) = cond (is_spelled most text n) (Some n) None
spelled_within most text (Err e) = None

spells : (most : ℕ) (text : List ℕ) (n : ℕ) → is_spelled most text n ≡ true → (n ≤ most) × (text ≡ decimal n)
spells most text n h = let p = and_parts (nat_le n most) (bytes_eq text (decimal n)) h in (leb-true n most p.0, (bytes_eq-Decides text (decimal n)).0 p.1)

-- what a spelled number is parsed to
parsed : {E : Type 0} (most : ℕ) (text : List ℕ) (n : ℕ) (r : Result ℕ E) → most < 2 ^ 64 → ParsesUnsigned 64 10 text r
    → is_spelled most text n ≡ true → r ≡ Ok n
parsed most text n r small gives h =
    let p = spells most text n h in
    let fits : n < 2 ^ 64 = omega (arith, p.0) in
    parse-decimal 64 n text r fits fits p.1 gives

valued : (most : ℕ) (text : List ℕ) (n : ℕ) → most < 2 ^ 64 → is_spelled most text n ≡ true → digits_value 10 text ≡ n
valued most text n small h =
    let p = spells most text n h in
    let fits : n < 2 ^ 64 = omega (arith, p.0) in
    ap (digits_value 10) p.1 ∙ (decimal_is_IsNumeral n fits).1

-- where the text's value isn't spelled, no number is
unspelled : (most : ℕ) (text : List ℕ) (n : ℕ) (b : Bool) → most < 2 ^ 64 → is_spelled most text (digits_value 10 text) ≡ false
    → is_spelled most text n ≡ b → number_of most text ≡ cond (is_spelled most text n) (Some n) None
unspelled most text n true small other same =
    let clash : false ≡ true = sym other ∙ ap (is_spelled most text) (valued most text n small same) ∙ same in absurd (cc)
unspelled most text n false small other same = ap (λ b. cond b (Some (digits_value 10 text)) None) other ∙ sym (ap (λ b. cond b (Some n) None) same)

-- by whether the text's value is spelled, and by what parsing gave
by_value : {E : Type 0} (most : ℕ) (text : List ℕ) (r : Result ℕ E) (b : Bool) → most < 2 ^ 64 → ParsesUnsigned 64 10 text r
    → is_spelled most text (digits_value 10 text) ≡ b → number_of most text ≡ spelled_within most text r
by_value most text r true small gives h = sym (ap (spelled_within most text) (parsed most text (digits_value 10 text) r small gives h))
by_value most text (Err e) false small gives h = ap (λ b. cond b (Some (digits_value 10 text)) None) h
by_value most text (Ok n) false small gives h = unspelled most text n _ small h refl

pub number_from_parse : {E : Type 0} (most : ℕ) (text : List ℕ) (r : Result ℕ E) → most < 2 ^ 64 → ParsesUnsigned 64 10 text r
    → number_of most text ≡ spelled_within most text r
number_from_parse most text r small gives = by_value most text r _ small gives refl
