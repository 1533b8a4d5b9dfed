-- What a console is given, by its marks.
use Rattle.std.proofs.Common.{◌≡◌, ℕ, ◌+◌, ◌-◌, ◌<◌, ◌≤◌, true, false, zero, suc, List, [], ◌∷◌, ◌++◌, length, get_or, take, drop, nat_le, refl, ap, sym, ◌∙◌, arith, length-append, length-drop, drop-drop}
use Rattle.std.specs.Prelude.{◌&&◌, slice_range}
use Rattle.std.specs.List.{list_all}
use Rattle.std.specs.List.Sorted.{IsNonDecreasingBy, IsPartitionPoint}
use Rattle.std.proofs.Math.Seq.{take-add, take-append-add, take-length, drop-append_seam}
use Rattle.std.proofs.lemmas.Bool.{le-leb, leb-true, leb-false}
use Rattle.std.proofs.lemmas.Bool.Decides.{nat_tests}
use Rattle.std.proofs.lemmas.List.{drop-append-le, take-append-le}
use Rattle.std.proofs.lemmas.List.Sorted.{IsNonDecreasingBy-push}
use Rattle.std.proofs.lemmas.List.Sums.{AllPass-from_list_all}
use Rattle.script.specs.declared.input.Mark.{Mark}
use Rattle.script.specs.Course.{bytes_up_to}
use Rattle.script.specs.Steps.{is_up_to}
use Rattle.script.specs.Marked.{start_of, given_by_marks, StartsRise, AreMarks}

-- ---- a look-up

-- the first marks, so many of them, are of the turn or below, and the others above
Splits : ℕ → List Mark → ℕ → Type 0
Splits turn [] count = Unit {0}
Splits turn (mark ∷ marks) zero = (nat_le mark.turn turn ≡ false) × Splits turn marks zero
Splits turn (mark ∷ marks) (suc count) = (nat_le mark.turn turn ≡ true) × Splits turn marks count

splits_at : (turn : ℕ) (marks : List Mark) (count : ℕ)
    → IsPartitionPoint (λ mark. nat_le mark.turn turn ≡ true) (λ mark. nat_le mark.turn turn ≡ false) marks count → Splits turn marks count
unfolding Splits
splits_at turn [] count h = tt
splits_at turn (mark ∷ marks) zero h =
    (h.1 0 mark (omega arith) (omega arith), splits_at turn marks zero (λ k d l u. absurd (omega arith), λ k d l u. h.1 (suc k) d (omega arith) (omega arith)))
splits_at turn (mark ∷ marks) (suc count) h =
    (h.0 0 mark (omega arith) (omega arith), splits_at turn marks count (λ k d l u. h.0 (suc k) d (omega arith) (omega arith), λ k d l u. h.1 (suc k) d (omega arith) (omega arith)))

starts_below : (marks : List Mark) (end : ℕ) → StartsRise marks end → start_of marks end ≤ end
starts_below [] end h = omega arith
starts_below (mark ∷ marks) end h = omega (arith, h.0, starts_below marks end h.1)

later_start : (marks : List Mark) (end count : ℕ) → StartsRise marks end → start_of marks end ≤ start_of (drop count marks) end
later_start marks end zero h = omega arith
later_start [] end (suc count) h = omega arith
later_start (mark ∷ marks) end (suc count) h = omega (arith, h.0, later_start marks end count h.1)

-- two ranges, one behind the other
joined : (xs : List ℕ) (a b c : ℕ) → a ≤ b → b ≤ c → slice_range xs a b ++ slice_range xs b c ≡ slice_range xs a c
joined xs a b c low high =
    let whole : c - a ≡ (b - a) + (c - b) = omega arith in
    let place : a + (b - a) ≡ b = omega arith in
    rw (whole, take-add, drop-drop, place) refl

no_range : (xs : List ℕ) (a : ℕ) → slice_range xs a a ≡ []
no_range xs a = let none : a - a ≡ 0 = omega arith in rw none refl

none_later : (turn : ℕ) (marks : List Mark) (bytes : List ℕ) → Splits turn marks zero → bytes_up_to turn (given_by_marks marks bytes) ≡ []
unfolding Splits bytes_up_to
none_later turn [] bytes h = refl
none_later turn (mark ∷ marks) bytes h = rw h.0 (none_later turn marks bytes h.1)

up_to_split : (turn : ℕ) (marks : List Mark) (bytes : List ℕ) (count : ℕ) → StartsRise marks (length bytes) → Splits turn marks count
    → bytes_up_to turn (given_by_marks marks bytes) ≡ slice_range bytes (start_of marks (length bytes)) (start_of (drop count marks) (length bytes))
unfolding Splits bytes_up_to
up_to_split turn marks bytes zero rise h = none_later turn marks bytes h ∙ sym (no_range bytes _)
up_to_split turn [] bytes (suc count) rise h = sym (no_range bytes (length bytes))
up_to_split turn (mark ∷ marks) bytes (suc count) rise h =
    rw (h.0, up_to_split turn marks bytes count rise.1 h.1) (joined bytes _ _ _ rise.0 (later_start marks (length bytes) count rise.1))

-- the bytes up to a turn are those before the first mark above it
pub up_to_marks : (turn : ℕ) (marks : List Mark) (bytes : List ℕ) (count : ℕ) → AreMarks marks (length bytes)
    → IsPartitionPoint (λ mark. nat_le mark.turn turn ≡ true) (λ mark. nat_le mark.turn turn ≡ false) marks count
    → bytes_up_to turn (given_by_marks marks bytes) ≡ take (start_of (drop count marks) (length bytes)) bytes
up_to_marks turn marks bytes count are h = up_to_split turn marks bytes count are.starts (splits_at turn marks count h) ∙ rw are.first (ap (λ (n : ℕ). take n bytes) (omega arith))

start_at : (marks : List Mark) (end count : ℕ) (mark : Mark) → count < length marks → start_of (drop count marks) end ≡ (get_or marks count mark).start
start_at [] end count mark l = absurd (omega arith)
start_at (first ∷ marks) end zero mark l = refl
start_at (first ∷ marks) end (suc count) mark l = start_at marks end count mark (omega arith)

start_past : (marks : List Mark) (end count : ℕ) → length marks ≤ count → start_of (drop count marks) end ≡ end
start_past [] end zero l = refl
start_past [] end (suc count) l = refl
start_past (first ∷ marks) end zero l = absurd (omega arith)
start_past (first ∷ marks) end (suc count) l = start_past marks end count (omega arith)

start_bound : (marks : List Mark) (end count : ℕ) → StartsRise marks end → start_of (drop count marks) end ≤ end
start_bound marks end zero rise = starts_below marks end rise
start_bound [] end (suc count) rise = omega arith
start_bound (first ∷ marks) end (suc count) rise = start_bound marks end count rise.1

-- a mark begins among the bytes
pub mark_bound : (marks : List Mark) (end count : ℕ) (mark : Mark) → AreMarks marks end → count < length marks → (get_or marks count mark).start ≤ end
mark_bound marks end count mark are l = omega (arith, start_bound marks end count are.starts, start_at marks end count mark l)

pub up_to_mark : (turn : ℕ) (marks : List Mark) (bytes : List ℕ) (count : ℕ) (mark : Mark) → AreMarks marks (length bytes)
    → IsPartitionPoint (λ mark. nat_le mark.turn turn ≡ true) (λ mark. nat_le mark.turn turn ≡ false) marks count
    → count < length marks → take (get_or marks count mark).start bytes ≡ bytes_up_to turn (given_by_marks marks bytes)
up_to_mark turn marks bytes count mark are h l =
    sym (up_to_marks turn marks bytes count are h ∙ ap (λ (n : ℕ). take n bytes) (start_at marks (length bytes) count mark l))

pub up_to_all : (turn : ℕ) (marks : List Mark) (bytes : List ℕ) (count : ℕ) → AreMarks marks (length bytes)
    → IsPartitionPoint (λ mark. nat_le mark.turn turn ≡ true) (λ mark. nat_le mark.turn turn ≡ false) marks count
    → length marks ≤ count → bytes ≡ bytes_up_to turn (given_by_marks marks bytes)
up_to_all turn marks bytes count are h l =
    sym (up_to_marks turn marks bytes count are h ∙ ap (λ (n : ℕ). take n bytes) (start_past marks (length bytes) count l) ∙ take-length bytes)

-- ---- later turns

later_false : (a turn : ℕ) → turn < a → nat_le a turn ≡ false
later_false a turn h = grind (arith, nat_tests)

all_later : (turn : ℕ) (mark : Mark) (marks : List Mark) → nat_le mark.turn turn ≡ false → IsNonDecreasingBy (λ mark. mark.turn) (mark ∷ marks) → Splits turn (mark ∷ marks) zero
all_later turn mark marks e rise =
    splits_at turn (mark ∷ marks) zero (
      λ k d l u. absurd (omega arith),
      λ k d l u.
          let above : turn < mark.turn = leb-false mark.turn turn e in
          let first = rise 0 k d (omega arith) u in
          later_false _ turn (omega (arith, above, first)),
    )

fronts_join : (a b c : List ℕ) → b ≡ take (length b) c → a ++ b ≡ take (length (a ++ b)) (a ++ c)
fronts_join a b c e = ap (λ (x : List ℕ). a ++ x) e ∙ sym (ap (λ (n : ℕ). take n (a ++ c)) (length-append a b) ∙ take-append-add a c (length b))

-- what is there at a turn is a front of what is there later
pub up_to_grows : (turn more : ℕ) (marks : List Mark) (bytes : List ℕ) → turn ≤ more → IsNonDecreasingBy (λ mark. mark.turn) marks
    → bytes_up_to turn (given_by_marks marks bytes) ≡ take (length (bytes_up_to turn (given_by_marks marks bytes))) (bytes_up_to more (given_by_marks marks bytes))
unfolding bytes_up_to
up_to_grows turn more [] bytes le rise = refl
up_to_grows turn more (mark ∷ marks) bytes le rise =
    elim (nat_le mark.turn turn) as (λ b. nat_le mark.turn turn ≡ b → bytes_up_to turn (given_by_marks (mark ∷ marks) bytes) ≡ take (length (bytes_up_to turn (given_by_marks (mark ∷ marks) bytes))) (bytes_up_to more (given_by_marks (mark ∷ marks) bytes))) [
      | true ↦ λ now.
          let then : nat_le mark.turn more ≡ true = le-leb mark.turn more (omega (arith, leb-true mark.turn turn now)) in
          rw (now, then) (fronts_join _ _ _ (up_to_grows turn more marks bytes le (λ i j d l u. rise (suc i) (suc j) d (omega arith) (omega arith))))
      | false ↦ λ not_now. let none = none_later turn (mark ∷ marks) bytes (all_later turn mark marks not_now rise) in rw none refl
    ]
    refl

-- ---- one more line

start_more : (marks : List Mark) (mark : Mark) (end more : ℕ) → mark.start ≡ end → start_of (marks ++ mark ∷ []) more ≡ start_of marks end
start_more [] mark end more e = e
start_more (first ∷ marks) mark end more e = refl

range_kept : (xs ys : List ℕ) (a b : ℕ) → a ≤ b → b ≤ length xs → slice_range (xs ++ ys) a b ≡ slice_range xs a b
range_kept xs ys a b low high =
    rw (drop-append-le a xs ys (omega arith)) (take-append-le (b - a) (drop a xs) ys (omega (arith, length-drop a xs)))

range_new : (xs ys : List ℕ) → slice_range (xs ++ ys) (length xs) (length (xs ++ ys)) ≡ ys
range_new xs ys =
    let more : length (xs ++ ys) - length xs ≡ length ys = omega (arith, length-append xs ys) in rw (more, drop-append_seam) (take-length ys)

pub given_more : (marks : List Mark) (bytes piece : List ℕ) (turn : ℕ) → StartsRise marks (length bytes)
    → given_by_marks (marks ++ record { turn = turn; start = length bytes } ∷ []) (bytes ++ piece) ≡ given_by_marks marks bytes ++ record { turn = turn; bytes = piece } ∷ []
given_more [] bytes piece turn rise = ap (λ (b : List ℕ). record { turn = turn; bytes = b } ∷ []) (range_new bytes piece)
given_more (mark ∷ marks) bytes piece turn rise =
    let front : slice_range (bytes ++ piece) mark.start (start_of (marks ++ record { turn = turn; start = length bytes } ∷ []) (length (bytes ++ piece))) ≡ slice_range bytes mark.start (start_of marks (length bytes)) =
    ap (slice_range (bytes ++ piece) mark.start) (start_more marks (record { turn = turn; start = length bytes }) (length bytes) (length (bytes ++ piece)) refl)
    ∙ range_kept bytes piece mark.start (start_of marks (length bytes)) rise.0 (starts_below marks (length bytes) rise.1) in
    rw (front, given_more marks bytes piece turn rise.1) refl

rise_more : (marks : List Mark) (turn end more : ℕ) → StartsRise marks end → end ≤ more → StartsRise (marks ++ record { turn = turn; start = end } ∷ []) more
rise_more [] turn end more rise grows = (grows, tt)
rise_more (mark ∷ marks) turn end more rise grows =
    (rw (start_more marks (record { turn = turn; start = end }) end more refl) rise.0, rise_more marks turn end more rise.1 grows)

first_more : (marks : List Mark) (turn end more : ℕ) → start_of marks end ≡ 0 → start_of (marks ++ record { turn = turn; start = end } ∷ []) more ≡ 0
first_more marks turn end more e = start_more marks (record { turn = turn; start = end }) end more refl ∙ e

same_turns : (marks : List Mark) (bytes : List ℕ) (turn : ℕ) → list_all (λ given. nat_le given.turn turn) (given_by_marks marks bytes) ≡ list_all (λ mark. nat_le mark.turn turn) marks
same_turns [] bytes turn = refl
same_turns (mark ∷ marks) bytes turn = ap (λ b. nat_le mark.turn turn && b) (same_turns marks bytes turn)

turns_more : (marks : List Mark) (turn end : ℕ) → list_all (λ mark. nat_le mark.turn turn) marks ≡ true → IsNonDecreasingBy (λ mark. mark.turn) marks
    → IsNonDecreasingBy (λ mark. mark.turn) (marks ++ record { turn = turn; start = end } ∷ [])
turns_more marks turn end all rise =
    IsNonDecreasingBy-push (λ mark. mark.turn) marks (record { turn = turn; start = end }) rise (λ d some.
    let below = AllPass-from_list_all (λ mark. nat_le mark.turn turn) marks all (length marks - 1) d (omega arith) in
    grind (arith, nat_tests))

pub are_marks_more : (marks : List Mark) (bytes : List ℕ) (turn more : ℕ) → AreMarks marks (length bytes)
    → is_up_to turn (given_by_marks marks bytes) ≡ true → length bytes ≤ more
    → AreMarks (marks ++ record { turn = turn; start = length bytes } ∷ []) more
unfolding is_up_to
are_marks_more marks bytes turn more are all grows = record {
  first = first_more marks turn (length bytes) more are.first;
  starts = rise_more marks turn (length bytes) more are.starts grows;
  turns = turns_more marks turn (length bytes) (sym (same_turns marks bytes turn) ∙ all) are.turns;
}
