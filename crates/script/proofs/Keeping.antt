-- What is kept behind one line more.
use Rattle.std.proofs.Common.{◌≡◌, ℕ, ◌+◌, ◌<◌, ◌≤◌, max, Bool, true, false, cond, List, [], ◌∷◌, ◌++◌, length, nat_le, nat_lt, Option, Some, None, refl, ap, sym, ◌∙◌, subst, arith, length-append, append_assoc, append-nil}
use Rattle.std.specs.Prelude.{◌==◌, ◌&&◌, ◌||◌, is_some, codes}
use Rattle.std.specs.List.{cons_option, list_all}
use Rattle.std.specs.Option.{option_map, option_or, option_and_then}
use Rattle.std.specs.Str.{bytes_eq}
use Rattle.std.proofs.lemmas.Bool.Decides.{nat_tests}
use Rattle.std.proofs.lemmas.List.Elements.{filter_map-append}
use Rattle.std.proofs.lemmas.List.Quantifiers.{position-Some}
use Rattle.script.specs.declared.names.Names.{Names}
use Rattle.script.specs.declared.line.Line.{Line}
use Rattle.script.specs.declared.line.Line.TheVariants.{Skipped, Order, At}
use Rattle.script.specs.declared.fault.ScriptFault.{ScriptFault}
use Rattle.script.specs.declared.fault.ScriptFault.TheVariants.{Rule, NoMemory}
use Rattle.script.specs.Text.{lines_of, words_of}
use Rattle.script.specs.Form.{turn_of, bytes_of}
use Rattle.script.specs.Meaning.{meaning_of, console_of, cores_of, order_of, input_of, at_of, said_by, is_skipped}
use Rattle.script.specs.Course.{Course, course_of, Given, given_at, given_to, given_by_lines, latest_turn, order_in, said, is_place}
use Rattle.script.specs.Kept.{Kept, kept_of}
use Rattle.script.specs.Steps.{after_line, is_up_to, CanBeKept, IsKept}
use Rattle.script.specs.Fault.{Broken, fault_of, broken_by, first_broken_from, first_broken, Says, is_late, is_above, most_cores}
use Rattle.script.proofs.Places.{length_lines, given_at_lines, silent_line, input_line}

-- ---- what lines say together, with one more

said_more : (names : Names) (before : List (List ℕ)) (line : List ℕ) (one : Line) → meaning_of names line ≡ Some one → said names (before ++ line ∷ []) ≡ said names before ++ one ∷ []
said_more names before line one e =
    filter_map-append (meaning_of names) before (line ∷ []) ∙ ap (λ (o : Option Line). said names before ++ cons_option o []) e

latest_more : (lines : List Line) (one : Line) → latest_turn (lines ++ one ∷ []) ≡ max (latest_turn lines) (latest_turn (one ∷ []))
latest_more [] one = omega arith
latest_more (Skipped ∷ lines) one = latest_more lines one
latest_more (Order cores ∷ lines) one = latest_more lines one
latest_more (At turn console bytes ∷ lines) one = omega (arith, latest_more lines one)

order_more : (lines : List Line) (one : Line) → order_in (lines ++ one ∷ []) ≡ option_or (order_in lines) (order_in (one ∷ []))
order_more [] one = refl
order_more (Skipped ∷ lines) one = order_more lines one
order_more (Order cores ∷ lines) one = refl
order_more (At turn console bytes ∷ lines) one = order_more lines one

-- ---- consoles have places

-- a console's place is one of so many
pub IsPlaced : ℕ → Option Line → Type 0
IsPlaced consoles None = Unit {0}
IsPlaced consoles (Some Skipped) = Unit {0}
IsPlaced consoles (Some (Order cores)) = Unit {0}
IsPlaced consoles (Some (At turn None bytes)) = Unit {0}
IsPlaced consoles (Some (At turn (Some place) bytes)) = place < consoles

console_placed : (names : Names) (word : List ℕ) (turn : ℕ) (bytes : List ℕ) (found : Option ℕ) → console_of names word ≡ found
    → IsPlaced (length names.consoles) (Some (At turn found bytes))
unfolding IsPlaced
console_placed names word turn bytes None e = tt
console_placed names word turn bytes (Some place) e = (position-Some (λ name. bytes_eq name word) names.consoles place [] e).0

input_placed : (names : Names) (turn console bytes : List ℕ) → IsPlaced (length names.consoles) (input_of names turn console bytes)
unfolding IsPlaced
input_placed names turn console bytes =
    elim (turn_of turn) as (λ t. IsPlaced (length names.consoles) (option_and_then (λ turn. option_map (λ bytes. At turn (console_of names console) bytes) (bytes_of bytes)) t)) [
      | None ↦ tt
      | Some t ↦ elim (bytes_of bytes) as (λ b. IsPlaced (length names.consoles) (option_map (λ bytes. At t (console_of names console) bytes) b))
          [ None ↦ tt | Some b ↦ console_placed names console t b (console_of names console) refl ]
    ]

at_placed : (names : Names) (words : List (List ℕ)) → IsPlaced (length names.consoles) (at_of names words)
unfolding IsPlaced at_of
at_placed names [] = tt
at_placed names (turn ∷ []) = tt
at_placed names (turn ∷ console ∷ []) = tt
at_placed names (turn ∷ console ∷ bytes ∷ []) =
    elim (length console == 0) as (λ b. IsPlaced (length names.consoles) (cond b None (input_of names turn console bytes)))
    [ true ↦ tt | false ↦ input_placed names turn console bytes ]
at_placed names (turn ∷ console ∷ bytes ∷ more ∷ words) = tt

order_placed : (consoles : ℕ) (words : List (List ℕ)) → IsPlaced consoles (order_of words)
unfolding IsPlaced order_of
order_placed consoles [] = tt
order_placed consoles (word ∷ words) =
    elim (cores_of (word ∷ words)) as (λ found. IsPlaced consoles (option_map Order found)) [ None ↦ tt | Some cores ↦ tt ]

said_placed : (names : Names) (words : List (List ℕ)) → IsPlaced (length names.consoles) (said_by names words)
unfolding IsPlaced said_by
said_placed names [] = tt
said_placed names (word ∷ words) =
    elim (bytes_eq word (codes "order")) as (λ b. IsPlaced (length names.consoles) (cond b (order_of words) (cond (bytes_eq word (codes "at")) (at_of names words) None))) [
      | true ↦ order_placed (length names.consoles) words
      | false ↦
          elim (bytes_eq word (codes "at")) as (λ b. IsPlaced (length names.consoles) (cond b (at_of names words) None))
          [ true ↦ at_placed names words | false ↦ tt ]
    ]

placed : (names : Names) (line : List ℕ) → IsPlaced (length names.consoles) (meaning_of names line)
unfolding IsPlaced meaning_of
placed names line =
    elim (is_skipped line) as (λ b. IsPlaced (length names.consoles) (cond b (Some Skipped) (said_by names (words_of line))))
    [ true ↦ tt | false ↦ said_placed names (words_of line) ]

-- ---- what lines that break no rule keep

turns_below : (lines : List Line) (place latest : ℕ) → latest_turn lines ≤ latest → is_up_to latest (given_to lines place) ≡ true
unfolding is_up_to
turns_below [] place latest h = refl
turns_below (Skipped ∷ lines) place latest h = turns_below lines place latest h
turns_below (Order cores ∷ lines) place latest h = turns_below lines place latest h
turns_below (At turn console bytes ∷ lines) place latest h =
    let rest = turns_below lines place latest (omega arith) in
    let here : nat_le turn latest ≡ true = grind (arith, nat_tests) in
    elim (is_place place console) as (λ b. list_all (λ given. nat_le given.turn latest) (cons_option (cond b (Some (record { turn = turn; bytes = bytes })) None) (given_to lines place)) ≡ true)
    [ true ↦ rw here rest | false ↦ rest ]

is_kept : (names : Names) (before : List (List ℕ)) → IsKept (length names.consoles) (kept_of names before)
unfolding kept_of
is_kept names before = record {
  inputs = length_lines (length names.consoles) (said names before);
  turns = λ console h. rw (given_at_lines (length names.consoles) (said names before) console h) (turns_below (said names before) console _ (omega arith));
}

later : (inputs : List Given) (turn latest : ℕ) → latest ≤ turn → is_up_to latest inputs ≡ true → is_up_to turn inputs ≡ true
unfolding is_up_to
later [] turn latest h e = refl
later (given ∷ inputs) turn latest h e =
    elim (nat_le given.turn latest) as (λ b. nat_le given.turn latest ≡ b → (b && list_all (λ given. nat_le given.turn latest) inputs) ≡ true → (nat_le given.turn turn && list_all (λ given. nat_le given.turn turn) inputs) ≡ true)
    [ true ↦ λ here rest. let there : nat_le given.turn turn ≡ true = grind (arith, nat_tests) in rw there (later inputs turn latest h rest) | false ↦ λ here rest. cc ]
    refl e

order_fine : (a b c d : Bool) → cond {A = Option ℕ} a (Some 3) (cond (b || c) (Some 5) (cond d (Some 6) None)) ≡ None → (a ≡ false) × (b ≡ false)
order_fine true b c d e = cc
order_fine false true c d e = cc
order_fine false false c d e = (refl, refl)

input_fine : (a b : Bool) → cond {A = Option ℕ} a (Some 4) (cond b (Some 5) None) ≡ None → (a ≡ false) × (b ≡ false)
input_fine true b e = cc
input_fine false true e = cc
input_fine false false e = (refl, refl)

late_fine : (b : Bool) → cond {A = Option ℕ} b (Some 5) None ≡ None → b ≡ false
late_fine true e = cc
late_fine false e = refl

not_behind : (turn latest : ℕ) → nat_lt turn latest ≡ false → latest ≤ turn
not_behind turn latest e = grind (arith, nat_tests)

early : (place : ℕ) → nat_le 65536 place ≡ false → place < 65536
early place e = grind (arith, nat_tests)

pub can_be_kept : (consoles : ℕ) (kept : Kept) (one : Option Line) → IsKept consoles kept → IsPlaced consoles one → fault_of kept one ≡ None → CanBeKept kept one
unfolding IsPlaced fault_of
can_be_kept consoles kept None is in_range fine = tt
can_be_kept consoles kept (Some Skipped) is in_range fine = early kept.place (late_fine _ fine)
can_be_kept consoles kept (Some (Order cores)) is in_range fine = early kept.place (order_fine _ _ _ _ fine).1
can_be_kept consoles kept (Some (At turn None bytes)) is in_range fine = tt
can_be_kept consoles kept (Some (At turn (Some console) bytes)) is in_range fine =
    let tests = input_fine _ _ fine in
    let rises : kept.latest ≤ turn = not_behind turn kept.latest tests.0 in
    (early kept.place tests.1, omega (arith, is.inputs), later (given_at console kept.inputs) turn kept.latest rises (is.turns console in_range))

-- ---- one line more

or_none : (found : Option (List ℕ)) → option_or found None ≡ found
or_none None = refl
or_none (Some cores) = refl

first_order : (found : Option (List ℕ)) (latest : ℕ) (cores : List ℕ) → (is_some found || nat_lt 0 latest) ≡ false → option_or found (Some cores) ≡ Some cores
first_order None latest cores e = refl
first_order (Some old) latest cores e = cc

same_kept : (p q l m : ℕ) (o r : Option (List ℕ)) (i j : List (List Given)) → p ≡ q → l ≡ m → o ≡ r → i ≡ j
    → let before : Kept = record { place = p; latest = l; order = o; inputs = i } in let after : Kept = record { place = q; latest = m; order = r; inputs = j } in before ≡ after
same_kept p q l m o r i j a b c d = rw (a, b, c, d) refl

kept_with : (names : Names) (before : List (List ℕ)) (line : List ℕ) (one : Option Line) → meaning_of names line ≡ one → IsPlaced (length names.consoles) one
    → fault_of (kept_of names before) one ≡ None → kept_of names (before ++ line ∷ []) ≡ after_line (kept_of names before) one
unfolding kept_of after_line fault_of IsPlaced
kept_with names before line None e in_range fine = absurd cc
kept_with names before line (Some Skipped) e in_range fine =
    let more = said_more names before line Skipped e in
    same_kept _ _ _ _ _ _ _ _ (omega (arith, length-append before (line ∷ [])))
    (ap latest_turn more ∙ latest_more (said names before) Skipped ∙ omega arith)
    (ap order_in more ∙ order_more (said names before) Skipped ∙ or_none (order_in (said names before)))
    (ap (given_by_lines (length names.consoles)) more ∙ silent_line (length names.consoles) (said names before) Skipped (λ place. refl))
kept_with names before line (Some (Order cores)) e in_range fine =
    let more = said_more names before line (Order cores) e in
    same_kept _ _ _ _ _ _ _ _ (omega (arith, length-append before (line ∷ [])))
    (ap latest_turn more ∙ latest_more (said names before) (Order cores) ∙ omega arith)
    (ap order_in more ∙ order_more (said names before) (Order cores) ∙ first_order (order_in (said names before)) _ cores (order_fine _ (is_late (kept_of names before)) (nat_lt most_cores (length cores)) (is_above cores) fine).0)
    (ap (given_by_lines (length names.consoles)) more ∙ silent_line (length names.consoles) (said names before) (Order cores) (λ place. refl))
kept_with names before line (Some (At turn None bytes)) e in_range fine = absurd cc
kept_with names before line (Some (At turn (Some console) bytes)) e in_range fine =
    let more = said_more names before line (At turn (Some console) bytes) e in
    let rises : latest_turn (said names before) ≤ turn = not_behind turn _ (input_fine _ _ fine).0 in
    same_kept _ _ _ _ _ _ _ _ (omega (arith, length-append before (line ∷ [])))
    (ap latest_turn more ∙ latest_more (said names before) (At turn (Some console) bytes) ∙ omega arith)
    (ap order_in more ∙ order_more (said names before) (At turn (Some console) bytes) ∙ or_none (order_in (said names before)))
    (ap (given_by_lines (length names.consoles)) more ∙ input_line (length names.consoles) (said names before) turn console bytes in_range)

-- ---- all lines

-- some lines were read without a fault, and these are left
pub record SoFar (names : Names) (text : List ℕ) (kept : Kept) (left : List (List ℕ)) : Type 0 where
  pub before : List (List ℕ)
  pub kept_is : kept ≡ kept_of names before
  pub whole : lines_of text ≡ before ++ left
  pub broken : first_broken names (lines_of text) ≡ first_broken_from names before left

pub at_start : (names : Names) (text : List ℕ) (kept : Kept) (left : List (List ℕ)) → kept ≡ kept_of names [] → left ≡ lines_of text → SoFar names text kept left
at_start names text kept left e f =
    record { before = []; kept_is = e; whole = sym f; broken = ap (first_broken_from names []) (sym f) }

pub is_kept_so_far : (names : Names) (text : List ℕ) (kept : Kept) (left : List (List ℕ)) → SoFar names text kept left → IsKept (length names.consoles) kept
is_kept_so_far names text kept left so = subst (IsKept (length names.consoles)) (sym so.kept_is) (is_kept names so.before)

no_fault : (kept : Kept) (one : Option Line) → broken_by kept one ≡ None → fault_of kept one ≡ None
unfolding broken_by
no_fault kept one e = mapped_none (fault_of kept one) e
  where
    mapped_none : (fault : Option ℕ) → option_map (λ number. let b : Broken = record { number = number; line = kept.place + 1 } in b) fault ≡ None → fault ≡ None
    mapped_none None h = refl
    mapped_none (Some number) h = cc

pub one_more : (names : Names) (text : List ℕ) (kept next : Kept) (line : List ℕ) (old left : List (List ℕ)) → SoFar names text kept old → old ≡ line ∷ left
    → broken_by kept (meaning_of names line) ≡ None → next ≡ after_line kept (meaning_of names line) → SoFar names text next left
one_more names text kept next line old left so e fine after =
    let fault = subst (λ (k : Kept). fault_of k (meaning_of names line) ≡ None) so.kept_is (no_fault kept (meaning_of names line) fine) in
    let none = subst (λ (k : Kept). broken_by k (meaning_of names line) ≡ None) so.kept_is fine in
    record {
      before = so.before ++ line ∷ [];
      kept_is = after ∙ ap (λ (k : Kept). after_line k (meaning_of names line)) so.kept_is ∙ sym (kept_with names so.before line (meaning_of names line) refl (placed names line) fault);
      whole = so.whole ∙ ap (λ (xs : List (List ℕ)). so.before ++ xs) e ∙ sym (append_assoc so.before (line ∷ []) left);
      broken = so.broken ∙ ap (first_broken_from names so.before) e ∙ ap (λ (b : Option Broken). option_or b (first_broken_from names (so.before ++ line ∷ []) left)) none;
    }

pub at_end : (names : Names) (text : List ℕ) (kept : Kept) (left : List (List ℕ)) → SoFar names text kept left → left ≡ []
    → (kept ≡ kept_of names (lines_of text)) × (first_broken names (lines_of text) ≡ None)
at_end names text kept left so e =
    let all : lines_of text ≡ so.before = so.whole ∙ ap (λ (xs : List (List ℕ)). so.before ++ xs) e ∙ append-nil so.before in
    (so.kept_is ∙ ap (kept_of names) (sym all), so.broken ∙ ap (first_broken_from names so.before) e)

says_or : (fault : ScriptFault) (first rest : Option Broken) → Says fault first → Says fault (option_or first rest)
says_or (Rule number line) first rest h = ap (λ (b : Option Broken). option_or b rest) h
says_or NoMemory first rest h = tt

pub at_fault : (names : Names) (text : List ℕ) (kept : Kept) (line : List ℕ) (old left : List (List ℕ)) (fault : ScriptFault) → SoFar names text kept old → old ≡ line ∷ left
    → Says fault (broken_by kept (meaning_of names line)) → Says fault (first_broken names (lines_of text))
at_fault names text kept line old left fault so e h =
    let here = subst (λ (k : Kept). Says fault (broken_by k (meaning_of names line))) so.kept_is h in
    subst (Says fault) (sym (so.broken ∙ ap (first_broken_from names so.before) e)) (says_or fault _ (first_broken_from names (so.before ++ line ∷ []) left) here)

pub can_keep : (names : Names) (kept : Kept) (line : List ℕ) → IsKept (length names.consoles) kept → fault_of kept (meaning_of names line) ≡ None → CanBeKept kept (meaning_of names line)
can_keep names kept line is fine = can_be_kept (length names.consoles) kept (meaning_of names line) is (placed names line) fine

pub fault_told : (kept : Kept) (one : Option Line) (number place : ℕ) → fault_of kept one ≡ Some number → kept.place ≡ place
    → broken_by kept one ≡ Some (record { number = number; line = place + 1 })
unfolding broken_by
fault_told kept one number place e same =
    ap (option_map (λ number. let b : Broken = record { number = number; line = kept.place + 1 } in b)) e
    ∙ ap (λ (n : ℕ). let b : Broken = record { number = number; line = n + 1 } in Some b) same

pub nothing_told : (kept : Kept) (one : Option Line) → fault_of kept one ≡ None → broken_by kept one ≡ None
unfolding broken_by
nothing_told kept one e = ap (option_map (λ number. let b : Broken = record { number = number; line = kept.place + 1 } in b)) e

pub length_course : (names : Names) (lines : List (List ℕ)) (course : Course) → course ≡ course_of names lines → length course.inputs ≡ length names.consoles
unfolding course_of
length_course names lines course e = ap (λ (c : Course). length c.inputs) e ∙ length_lines (length names.consoles) (said names lines)
