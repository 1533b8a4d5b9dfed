-- A reserve map entry by entry.
use Rattle.std.proofs.Common.{◌≡◌, ℕ, zero, suc, ◌+◌, ◌-◌, ◌<◌, ◌≤◌, true, false, List, [], ◌∷◌, ◌++◌, length, drop, refl, sym, ap, ◌∙◌, append_assoc, arith}
use Rattle.std.specs.List.{list_all}
use Rattle.std.proofs.lemmas.Bool.{lt-ltb, le-ltb, and_parts}
use Rattle.std.proofs.lemmas.List.{length-append}
use Rattle.dt_model.specs.declared.Reserve.{Reserve}
use Rattle.dt_model.specs.Fit.{is_entry}
use Rattle.dt_model.specs.Reserve.{entry_of, IsReserveMap}
use Rattle.dt_model.specs.Fault.{lacks_end}
use Rattle.dt_model.proofs.Existence.{last_of}

-- the two zeros
pub lacks_end-at_end : (most : ℕ) (bytes : List ℕ) → 16 ≤ length bytes → is_entry (entry_of bytes) ≡ false → lacks_end most bytes ≡ false
lacks_end-at_end zero bytes long e = rw (le-ltb (length bytes) 16 long, e) refl
lacks_end-at_end (suc most) bytes long e = rw (le-ltb (length bytes) 16 long, e) refl

pub IsReserveMap-at_end : (bytes : List ℕ) → 16 ≤ length bytes → is_entry (entry_of bytes) ≡ false → IsReserveMap bytes []
IsReserveMap-at_end bytes long e = (long, last_of (entry_of bytes) e)

-- one entry too many
pub lacks_end-at_most : (bytes : List ℕ) → 16 ≤ length bytes → is_entry (entry_of bytes) ≡ true → lacks_end 0 bytes ≡ true
lacks_end-at_most bytes long e = rw (le-ltb (length bytes) 16 long, e) refl

-- the bytes are too short
pub lacks_end-short : (most : ℕ) (bytes : List ℕ) → length bytes < 16 → lacks_end most bytes ≡ true
lacks_end-short zero bytes short = rw (lt-ltb (length bytes) 16 short) refl
lacks_end-short (suc most) bytes short = rw (lt-ltb (length bytes) 16 short) refl

-- an entry
lacks_end-step : (most : ℕ) (bytes : List ℕ) → 16 ≤ length bytes → is_entry (entry_of bytes) ≡ true → lacks_end (suc most) bytes ≡ lacks_end most (drop 16 bytes)
lacks_end-step most bytes long e = rw (le-ltb (length bytes) 16 long, e) refl

pub lacks_end-more : (most n : ℕ) (bytes : List ℕ) → n < most → 16 ≤ length bytes → is_entry (entry_of bytes) ≡ true → lacks_end (most - n) bytes ≡ lacks_end (most - (n + 1)) (drop 16 bytes)
lacks_end-more most n bytes lt long e =
    let k : most - n ≡ suc (most - (n + 1)) = omega arith in
    ap (λ (j : ℕ). lacks_end j bytes) k ∙ lacks_end-step (most - (n + 1)) bytes long e

pub list_all-push : (entries : List Reserve) (entry : Reserve) → list_all is_entry entries ≡ true → is_entry entry ≡ true → list_all is_entry (entries ++ entry ∷ []) ≡ true
list_all-push [] entry all e = rw e refl
list_all-push (x ∷ entries) entry all e =
    let both = and_parts (is_entry x) (list_all is_entry entries) all in
    rw (both.0, list_all-push entries entry both.1 e) refl

-- what was read from the front of a map
pub record ReadSoFar (most : ℕ) (bytes rest : List ℕ) (entries : List Reserve) : Type 0 where
  pub few : length entries ≤ most
  pub all : list_all is_entry entries ≡ true
  pub lacks : lacks_end most bytes ≡ lacks_end (most - length entries) rest
  pub spelled : (more : List Reserve) → IsReserveMap rest more → IsReserveMap bytes (entries ++ more)

one_more : (most : ℕ) (bytes rest : List ℕ) (entries : List Reserve) (entry : Reserve) → ReadSoFar most bytes rest entries → 16 ≤ length rest → entry ≡ entry_of rest → is_entry entry ≡ true
    → (length entries ≡ most → ⊥) → ReadSoFar most bytes (drop 16 rest) (entries ++ entry ∷ [])
one_more most bytes rest entries entry so_far long is real room =
    let lt : length entries < most = omega (arith, so_far.few) in
    let real_here : is_entry (entry_of rest) ≡ true = rw (← is) real in
    record {
      few = omega (arith, length-append entries (entry ∷ []));
      all = list_all-push entries entry so_far.all real;
      lacks = so_far.lacks ∙ lacks_end-more most (length entries) rest lt long real_here ∙ ap (λ (n : ℕ). lacks_end (most - n) (drop 16 rest)) (omega (arith, length-append entries (entry ∷ [])));
      spelled = λ more rest_is. rw append_assoc (so_far.spelled (entry ∷ more) (long, sym is, rest_is));
    }

pub read_more : (most : ℕ) (bytes rest after : List ℕ) (entries longer : List Reserve) (entry : Reserve) → ReadSoFar most bytes rest entries → 16 ≤ length rest → entry ≡ entry_of rest → is_entry entry ≡ true
    → (length entries ≡ most → ⊥) → longer ≡ entries ++ entry ∷ [] → after ≡ drop 16 rest → ReadSoFar most bytes after longer
read_more most bytes rest after entries longer entry so_far long is real room longer_is after_is =
    rw (longer_is, after_is) (one_more most bytes rest entries entry so_far long is real room)
