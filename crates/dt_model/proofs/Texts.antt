-- The text in a value is the one that the value is with a NUL behind it.
use Rattle.std.proofs.Common.{◌≡◌, ℕ, ◌-◌, Bool, true, false, ◌&&◌, IfSome, IfNone, List, [], ◌∷◌, ◌++◌, take, length, Option, Some, None, Bor, refl, sym, ap, ◌∙◌, arith, length-append}
use Rattle.std.proofs.Math.Seq.{take-append_seam}
use Rattle.std.proofs.lemmas.Bool.{and_parts}
use Rattle.std.proofs.lemmas.Slice.Eq.{bytes_eq-Decides}
use Rattle.std.specs.Prelude.{if◌then◌else◌}
use Rattle.std.specs.Str.{bytes_eq}
use Rattle.std.specs.Option.{option_copied}
use Rattle.dt_model.specs.Value.{is_text, IsTextValue, text_in}

abbrev text_if : Bool → List ℕ → Option (List ℕ)
text_if b text = if b then Some text else None

front_is : (text : List ℕ) → take (length (text ++ 0 ∷ []) - 1) (text ++ 0 ∷ []) ≡ text
front_is text = rw (length-append text (0 ∷ [])) (ap (λ (n : ℕ). take n (text ++ 0 ∷ [])) (omega arith) ∙ take-append_seam text (0 ∷ []))

text_in-some : (value text : List ℕ) → IsTextValue value text → Some text ≡ text_in value
unfolding text_in
text_in-some value text is =
    let front : take (length value - 1) value ≡ text = ap (λ (v : List ℕ). take (length v - 1) v) is.0 ∙ front_is text in
    let whole : bytes_eq value (take (length value - 1) value ++ 0 ∷ []) ≡ true =
    (bytes_eq-Decides value (take (length value - 1) value ++ 0 ∷ [])).1 (is.0 ∙ ap (λ (t : List ℕ). t ++ 0 ∷ []) (sym front)) in
    let good : is_text (take (length value - 1) value) ≡ true = ap is_text front ∙ is.1 in
    rw (whole, good) (ap (λ (t : List ℕ). Some t) (sym front))

text_in-none : (value : List ℕ) → ((text : List ℕ) → IsTextValue value text → ⊥) → None ≡ text_in value
unfolding text_in
text_in-none value none =
    let text = take (length value - 1) value in
    let test = bytes_eq value (text ++ 0 ∷ []) && is_text text in
    let cases : (b : Bool) → test ≡ b → None ≡ text_if b text =
    λ b. elim b as (λ b. test ≡ b → None ≡ text_if b text) [
      | true ↦ λ e. let both = and_parts (bytes_eq value (text ++ 0 ∷ [])) (is_text text) e in absurd (none text ((bytes_eq-Decides value (text ++ 0 ∷ [])).0 both.0, both.1))
      | false ↦ λ e. refl
    ] in
    cases test refl

pub text_in-is : (value : List ℕ) (o : Option (Bor (List ℕ))) → IfSome o (λ text. IsTextValue value text.now) → IfNone o ((text : List ℕ) → IsTextValue value text → ⊥)
    → option_copied o ≡ text_in value
text_in-is value (Some text) is none = text_in-some value text.now is
text_in-is value None is none = text_in-none value none
