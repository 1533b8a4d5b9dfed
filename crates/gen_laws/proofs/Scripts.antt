-- The script of one line breaks no rule.
use Rattle.std.proofs.Common.{◌≡◌, ℕ, zero, suc, ◌+◌, ◌*◌, ◌<◌, Bool, true, false, ◌||◌, cond, eqb, ltb, List, [], ◌∷◌, ◌++◌, map, length, codes, Some, None, Option, refl, ap, ◌∙◌, arith}
use Rattle.std.specs.Option.{option_map, option_or}
use Rattle.std.specs.Prelude.{option_and_then}
use Rattle.std.specs.List.{flat_map, list_all, onto_first, cons_option}
use Rattle.std.proofs.lemmas.Bool.{and_parts, ltb-true, le-ltb, ne_eqb}
use Rattle.script.specs.declared.names.Names.{Names}
use Rattle.script.specs.declared.line.Line.{Line}
use Rattle.script.specs.declared.line.Line.TheVariants.{Skipped, Order}
use Rattle.script.specs.Text.{lines_of, words_of}
use Rattle.script.specs.Form.{core_of, decimal_of, last_core}
use Rattle.script.specs.Meaning.{is_skipped, cores_of, order_of, said_by, meaning_of}
use Rattle.script.specs.Course.{said, order_in}
use Rattle.script.specs.Kept.{kept_of}
use Rattle.script.specs.Fault.{Broken, fault_of, broken_by, first_broken, is_above}
use Rattle.gen_load.specs.Draws.{order_of as order_word}
use Rattle.gen_load.specs.Names.{digit}
use Rattle.gen_load.specs.Files.{script_of, script_text}
use Rattle.gen_load.specs.Laws.{are_below}
use Rattle.gen_load.proofs.Drawing.{order-named, order-below}
use Rattle.gen_laws.specs.Laws.{OrdersCores, script_size}

-- each core behind a blank
abbrev tail : List ℕ → List ℕ
tail order = flat_map (λ core. 0x20 ∷ digit core ∷ []) order

abbrev line : List ℕ → List ℕ
line order = codes "order" ++ tail order

abbrev words : List ℕ → List (List ℕ)
words order = map (λ core. digit core ∷ []) order

-- ---- one line

not-end : (core : ℕ) → eqb (digit core) 10 ≡ false
not-end core = ne_eqb (digit core) 10 (λ (e : digit core ≡ 10). omega arith)

tail-lines : (order : List ℕ) → lines_of (tail order ++ 10 ∷ []) ≡ tail order ∷ []
tail-lines [] = refl
tail-lines (core ∷ order) =
    ap (λ (lines : List (List ℕ)). onto_first 0x20 (cond (eqb (digit core) 10) ([] ∷ lines) (onto_first (digit core) lines))) (tail-lines order)
    ∙ ap (λ (b : Bool). onto_first 0x20 (cond b ([] ∷ tail order ∷ []) (onto_first (digit core) (tail order ∷ [])))) (not-end core)

script-lines : (order : List ℕ) → lines_of (script_of order) ≡ line order ∷ []
script-lines order =
    ap (λ (lines : List (List ℕ)). onto_first 111 (onto_first 114 (onto_first 100 (onto_first 101 (onto_first 114 lines))))) (tail-lines order)

length-tail : (order : List ℕ) → length (tail order ++ 10 ∷ []) ≡ 2 * length order + 1
length-tail [] = refl
length-tail (core ∷ order) = let below = length-tail order in omega arith

length-script : (order : List ℕ) → length order ≡ 64 → length (script_of order) ≡ script_size
length-script order many = let behind = length-tail order in omega arith

-- ---- its words

not-blank : (core : ℕ) → eqb (digit core) 32 ≡ false
not-blank core = ne_eqb (digit core) 32 (λ (e : digit core ≡ 32). omega arith)

tail-words : (order : List ℕ) → words_of (tail order) ≡ [] ∷ words order
tail-words [] = refl
tail-words (core ∷ order) =
    ap (λ (parts : List (List ℕ)). [] ∷ cond (eqb (digit core) 32) ([] ∷ parts) (onto_first (digit core) parts)) (tail-words order)
    ∙ ap (λ (b : Bool). [] ∷ cond b ([] ∷ [] ∷ words order) (onto_first (digit core) ([] ∷ words order))) (not-blank core)

line-words : (order : List ℕ) → words_of (line order) ≡ codes "order" ∷ words order
line-words order =
    ap (λ (parts : List (List ℕ)). onto_first 111 (onto_first 114 (onto_first 100 (onto_first 101 (onto_first 114 parts))))) (tail-words order)

-- ---- its cores

core-digit : (core : ℕ) → core < 8 → core_of (digit core ∷ []) ≡ Some core
unfolding core_of decimal_of
core-digit zero low = refl
core-digit (suc zero) low = refl
core-digit (suc (suc zero)) low = refl
core-digit (suc (suc (suc zero))) low = refl
core-digit (suc (suc (suc (suc zero)))) low = refl
core-digit (suc (suc (suc (suc (suc zero))))) low = refl
core-digit (suc (suc (suc (suc (suc (suc zero)))))) low = refl
core-digit (suc (suc (suc (suc (suc (suc (suc zero))))))) low = refl
core-digit (suc (suc (suc (suc (suc (suc (suc (suc n)))))))) low = absurd (omega arith)

cores-words : (order : List ℕ) → list_all (are_below 8) order ≡ true → cores_of (words order) ≡ Some order
cores-words [] e = refl
cores-words (core ∷ order) e =
    let both = and_parts (ltb core 8) (list_all (are_below 8) order) e in
    ap (λ (o : Option ℕ). option_and_then (λ core. option_map (λ cores. core ∷ cores) (cores_of (words order))) o) (core-digit core (ltb-true core 8 both.0))
    ∙ ap (λ (o : Option (List ℕ)). option_map (λ cores. core ∷ cores) o) (cores-words order both.1)

not-skipped : (order : List ℕ) → is_skipped (line order) ≡ false
not-skipped order = ap (λ (b : Bool). b || eqb 111 35) (ne_eqb (length (line order)) 0 (λ (e : length (line order) ≡ 0). omega arith))

line-meaning : (names : Names) (core : ℕ) (order : List ℕ) → list_all (are_below 8) (core ∷ order) ≡ true → meaning_of names (line (core ∷ order)) ≡ Some (Order (core ∷ order))
unfolding meaning_of said_by order_of
line-meaning names core order e =
    let whole : List ℕ = core ∷ order in
    ap (λ (b : Bool). cond b (Some Skipped) (said_by names (words_of (line whole)))) (not-skipped whole)
    ∙ ap (λ (ws : List (List ℕ)). said_by names ws) (line-words whole) ∙ ap (λ (o : Option (List ℕ)). option_map Order o) (cores-words whole e)

-- ---- the rules

none-above : (order : List ℕ) → list_all (are_below 8) order ≡ true → is_above order ≡ false
none-above [] e = refl
none-above (core ∷ order) e =
    let both = and_parts (ltb core 8) (list_all (are_below 8) order) e in
    let low : core < 8 = ltb-true core 8 both.0 in
    (λ i. le-ltb last_core core (omega arith) i || none-above order both.1 i)

line-faultless : (names : Names) (order : List ℕ) → length order ≡ 64 → list_all (are_below 8) order ≡ true → fault_of (kept_of names []) (Some (Order order)) ≡ None
unfolding fault_of kept_of
line-faultless names order many e = rw (many, none-above order e) refl

broken-none : (names : Names) (o : Option ℕ) → o ≡ None
    → option_or (option_map (λ (number : ℕ). let b : Broken = record { number = number; line = (kept_of names []).place + 1 } in b) o) None ≡ None
broken-none names o e = ap (λ (o : Option ℕ). option_or (option_map (λ (number : ℕ). let b : Broken = record { number = number; line = (kept_of names []).place + 1 } in b) o) None) e

line-unbroken : (names : Names) (order : List ℕ) → length order ≡ 64 → list_all (are_below 8) order ≡ true → option_or (broken_by (kept_of names []) (Some (Order order))) None ≡ None
unfolding broken_by
line-unbroken names order many e = broken-none names (fault_of (kept_of names []) (Some (Order order))) (line-faultless names order many e)

orders : (names : Names) (order : List ℕ) → length order ≡ 64 → list_all (are_below 8) order ≡ true → OrdersCores names (script_of order) order
orders names [] many e = absurd cc
orders names (core ∷ order) many e =
    let whole : List ℕ = core ∷ order in
    let means : meaning_of names (line whole) ≡ Some (Order whole) = line-meaning names core order e in
    record {
      size = length-script whole many;
      rules =
          ap (first_broken names) (script-lines whole) ∙ ap (λ (m : Option Line). option_or (broken_by (kept_of names []) m) None) means
          ∙ line-unbroken names whole many e;
      order_is = ap (λ (lines : List (List ℕ)). order_in (said names lines)) (script-lines whole) ∙ ap (λ (m : Option Line). order_in (cons_option m [])) means;
    }

pub script-sound : (names : Names) (number : ℕ) → OrdersCores names (script_text number) (order_word number)
unfolding script_text
script-sound names number = orders names (order_word number) (order-named number).0 (order-below number 8 (omega arith))
