-- What each console is given, by its place.
use Rattle.std.proofs.Common.{◌≡◌, ℕ, ◌<◌, Bool, true, false, cond, List, [], ◌∷◌, ◌++◌, length, get_or, map, Option, Some, None, zero, suc, refl, ap, sym, ◌∙◌, arith, append-nil, length-set, get_or-set_other, ◌≢◌}
use Rattle.std.specs.Prelude.{◌==◌, slice_set}
use Rattle.std.specs.List.{range_with_len, cons_option}
use Rattle.std.proofs.lemmas.Bool.{eqb-true}
use Rattle.std.proofs.lemmas.Bool.Decides.{nat_tests}
use Rattle.std.proofs.lemmas.Grind.{get_or-set_at}
use Rattle.std.proofs.lemmas.List.Elements.{filter_map-append}
use Rattle.std.proofs.lemmas.List.FromFn.{fill_by_all, length-map-range_with_len, get_or-map-range_with_len}
use Rattle.script.specs.declared.line.Line.{Line}
use Rattle.script.specs.declared.line.Line.TheVariants.{At}
use Rattle.script.specs.Course.{Given, given_at, given_by, given_to, given_by_lines}
use Rattle.script.specs.Steps.{with_given}

pub given_at_is : (inputs : List (List Given)) (place : ℕ) (d : List Given) → place < length inputs → given_at place inputs ≡ get_or inputs place d
given_at_is [] place d l = absurd (omega arith)
given_at_is (input ∷ inputs) zero d l = refl
given_at_is (input ∷ inputs) (suc place) d l = given_at_is inputs place d (omega arith)

-- ---- each console by its place

pub length_lines : (consoles : ℕ) (lines : List Line) → length (given_by_lines consoles lines) ≡ consoles
unfolding given_by_lines
length_lines consoles lines = length-map-range_with_len (given_to lines) 0 consoles

pub given_at_lines : (consoles : ℕ) (lines : List Line) (place : ℕ) → place < consoles → given_at place (given_by_lines consoles lines) ≡ given_to lines place
unfolding given_by_lines
given_at_lines consoles lines place h =
    given_at_is (map (given_to lines) (range_with_len 0 consoles)) place [] (omega (arith, length-map-range_with_len (given_to lines) 0 consoles))
    ∙ get_or-map-range_with_len (given_to lines) 0 consoles place place [] h (omega arith)

-- lists that are alike at each place
by_places : (consoles : ℕ) (lines : List Line) (inputs : List (List Given)) → length inputs ≡ consoles
    → ((place : ℕ) → place < consoles → given_at place inputs ≡ given_to lines place) → given_by_lines consoles lines ≡ inputs
unfolding given_by_lines
by_places consoles lines inputs same each =
    sym (fill_by_all (given_to lines) inputs consoles [] same (λ place h. sym (given_at_is inputs place [] (omega arith)) ∙ each place h))

given_to_more : (lines : List Line) (line : Line) (place : ℕ) → given_to (lines ++ line ∷ []) place ≡ given_to lines place ++ cons_option (given_by place line) []
given_to_more lines line place = filter_map-append (given_by place) lines (line ∷ [])

-- a line that gives no console anything
pub silent_line : (consoles : ℕ) (lines : List Line) (line : Line) → ((place : ℕ) → given_by place line ≡ None)
    → given_by_lines consoles (lines ++ line ∷ []) ≡ given_by_lines consoles lines
silent_line consoles lines line silent =
    by_places consoles (lines ++ line ∷ []) (given_by_lines consoles lines) (length_lines consoles lines) (λ place h.
    given_at_lines consoles lines place h
    ∙ sym (given_to_more lines line place ∙ ap (λ (o : Option Given). given_to lines place ++ cons_option o []) (silent place) ∙ append-nil (given_to lines place)))

at_set : (inputs : List (List Given)) (place other : ℕ) (given : List Given) (b : Bool) → (place == other) ≡ b → other < length inputs
    → given_at other (slice_set inputs place given) ≡ cond b given (given_at other inputs)
at_set inputs place other given true e h =
    let same : other ≡ place = sym (eqb-true place other e) in
    given_at_is (slice_set inputs place given) other [] (omega (arith, length-set inputs place given)) ∙ get_or-set_at inputs place other given [] same (omega arith)
at_set inputs place other given false e h =
    let apart : other ≢ place = grind (arith, nat_tests) in
    given_at_is (slice_set inputs place given) other [] (omega (arith, length-set inputs place given))
    ∙ get_or-set_other inputs place other given [] apart ∙ sym (given_at_is inputs other [] h)

given_at_set : (inputs : List (List Given)) (place other : ℕ) (given : List Given) → other < length inputs
    → given_at other (slice_set inputs place given) ≡ cond (place == other) given (given_at other inputs)
given_at_set inputs place other given h = at_set inputs place other given (place == other) refl h

added : (named place : ℕ) (inputs : List (List Given)) (given : Given) (b : Bool) → (named == place) ≡ b
    → cond b (given_at named inputs ++ given ∷ []) (given_at place inputs) ≡ given_at place inputs ++ cons_option (cond b (Some given) None) []
added named place inputs given true e = ap (λ (n : ℕ). given_at n inputs ++ given ∷ []) (eqb-true named place e)
added named place inputs given false e = sym (append-nil (given_at place inputs))

pub input_line : (consoles : ℕ) (lines : List Line) (turn named : ℕ) (bytes : List ℕ) → named < consoles
    → given_by_lines consoles (lines ++ At turn (Some named) bytes ∷ []) ≡ with_given named (record { turn = turn; bytes = bytes }) (given_by_lines consoles lines)
input_line consoles lines turn named bytes h =
    let inputs = given_by_lines consoles lines in
    let given : Given = record { turn = turn; bytes = bytes } in
    by_places consoles (lines ++ At turn (Some named) bytes ∷ []) (with_given named given inputs) (length-set inputs named (given_at named inputs ++ given ∷ []) ∙ length_lines consoles lines) (λ place within.
    given_at_set inputs named place (given_at named inputs ++ given ∷ []) (omega (arith, length_lines consoles lines))
    ∙ added named place inputs given (named == place) refl
    ∙ ap (λ (xs : List Given). xs ++ cons_option (cond (named == place) (Some given) None) []) (given_at_lines consoles lines place within)
    ∙ sym (given_to_more lines (At turn (Some named) bytes) place))
