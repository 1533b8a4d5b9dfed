-- What a change answers: it rises, and is exactly what died.
use Rattle.std.proofs.Common.{arith, refl, ap, sym, ◌∙◌, subst, ◌≡◌, ◌≢◌, ◌↔◌, ℕ, zero, suc, ◌+◌, ◌<◌, ◌≤◌, ◌==◌, Bool, true, false, not, cond, ◌&&◌, ◌||◌, List, [], ◌∷◌, length, get_or, ⊎_elim, Option}
use Rattle.std.proofs.lemmas.Bool.{cases_lt, cases_Bool, false≢true, and_parts, eqb-true, eq-eqb}
use Rattle.std.proofs.lemmas.List.{get_or_past, get_or-set_other}
use Rattle.std.proofs.lemmas.List.FromFn.{length-range_with_len, get_or-range_with_len}
use Rattle.std.proofs.lemmas.List.Elements.{All-filter, All-contains, All-contains_itself, filter_passes}
use Rattle.std.proofs.lemmas.List.Kept.{IsStrictlyIncreasing-filter}
use Rattle.std.specs.List.{Contains, filter, range_with_len}
use Rattle.std.specs.List.Sorted.{IsStrictlyIncreasing}
use Rattle.mas.specs.declared.entry.Entry.{Entry}
use Rattle.guest_tlb.specs.Translation.{meets}
use Rattle.guest_tlb.specs.Slots.{blank, entry_at, written_entry}
use Rattle.guest_tlb.specs.Invalidation.{dead, after, invalidated, ended_slots, is_exposed, ends_all, ends_pid, ends_address, ends_write, with_entry, after_write, ended_by_write}
use Rattle.guest_tlb.specs.Laws.{AnswersRise, AnswersAreEnded, AnswersDeaths, Dies, InvalidationsAnswerDeaths, WritesAnswerDeaths}
use Rattle.guest_tlb.proofs.Passes.{invalidated_at}
use Rattle.guest_tlb.proofs.Upkeep.{after_write_there, ended_there}

range_rises : (n : ℕ) → IsStrictlyIncreasing (range_with_len 0 n)
range_rises n k h =
    let count = length-range_with_len 0 n in
    let here = get_or-range_with_len 0 n k 0 (omega (arith, count, h)) in
    let next = get_or-range_with_len 0 n (k + 1) 0 (omega (arith, count, h)) in
    omega (arith, here, next)

pub answers_rise : AnswersRise
unfolding ended_slots
answers_rise ends slots = IsStrictlyIncreasing-filter (λ slot. ends slot (entry_at slots slot)) (range_with_len 0 (length slots)) (range_rises (length slots))

-- what a filter has
behind : {X : Type 0} (b : Bool) (y x : X) (zs : List X) → Contains zs x → Contains (cond b (y ∷ zs) zs) x
behind true y x zs (k, h, e) = (suc k, omega (arith, h), e)
behind false y x zs h = h

passes : {X : Type 0} (p : X → Bool) (xs : List X) (k : ℕ) (x : X) → k < length xs → get_or xs k x ≡ x → p x ≡ true → Contains (filter p xs) x
passes p [] k x h e t = absurd (omega arith)
passes {X} p (y ∷ ys) zero x h e t =
    let Q : Bool → Type 0 = λ b. Contains (cond b (y ∷ filter p ys) (filter p ys)) x in
    subst Q (sym (ap p e ∙ t)) (0, omega arith, e)
passes p (y ∷ ys) (suc k) x h e t = behind (p y) y x (filter p ys) (passes p ys k x (omega arith) e t)

-- what a range has
in_range : (n slot : ℕ) → Contains (range_with_len 0 n) slot → slot < n
in_range n slot (k, h, e) =
    let inside : k < n = omega (arith, h, length-range_with_len 0 n) in
    let is = get_or-range_with_len 0 n k slot inside in
    omega (arith, e, is)

pub answers_are_ended : AnswersAreEnded
unfolding ended_slots
answers_are_ended ends slots slot =
    let p : ℕ → Bool = λ k. ends k (entry_at slots k) in
    let n : ℕ = length slots in (
      λ h. (
        in_range n slot (All-contains (Contains (range_with_len 0 n)) (filter p (range_with_len 0 n)) slot (All-filter p (Contains (range_with_len 0 n)) (range_with_len 0 n) (All-contains_itself (range_with_len 0 n))) h),
        All-contains (λ k. p k ≡ true) (filter p (range_with_len 0 n)) slot (filter_passes p (range_with_len 0 n)) h,
      ),
      λ (h, t). passes p (range_with_len 0 n) slot slot (omega (arith, h, length-range_with_len 0 n)) (get_or-range_with_len 0 n slot slot h ∙ omega arith) t,
    )

-- a slot that passes a test that only the live pass died, and no other did
died_of : (b : Bool) (entry : Entry) → b ≡ true → (cond b (dead entry) entry).valid ≡ false
died_of true entry h = refl
died_of false entry h = absurd (false≢true h)

passed_of : (b : Bool) (entry : Entry) → entry.valid ≡ true → (cond b (dead entry) entry).valid ≡ false → b ≡ true
passed_of true entry v d = refl
passed_of false entry v d = absurd (false≢true (sym d ∙ v))

live_inside : (slots : List Entry) (slot : ℕ) → (entry_at slots slot).valid ≡ true → slot < length slots
live_inside slots slot v =
    ⊎_elim (λ (h : slot < length slots). h) (λ (h : length slots ≤ slot). absurd (false≢true (sym (ap (λ (e : Entry). e.valid) (get_or_past slots slot blank h)) ∙ v))) (cases_lt slot (length slots))

deaths : (ends : ℕ → Entry → Bool) (slots : List Entry) (slot : ℕ) → (ends slot (entry_at slots slot) ≡ true → (entry_at slots slot).valid ≡ true)
    → Contains (ended_slots ends slots) slot ↔ Dies slots (invalidated ends slots) slot
deaths ends slots slot live =
    let taken = answers_are_ended ends slots slot in (
      λ c.
          let t = taken.0 c in
          (live t.1, ap (λ (e : Entry). e.valid) (invalidated_at ends slots slot blank t.0) ∙ died_of (ends slot (entry_at slots slot)) (entry_at slots slot) t.1),
      λ (v, d).
          let inside = live_inside slots slot v in
          let now : (after ends slot (entry_at slots slot)).valid ≡ false = sym (ap (λ (e : Entry). e.valid) (invalidated_at ends slots slot blank inside)) ∙ d in
          taken.1 (inside, passed_of (ends slot (entry_at slots slot)) (entry_at slots slot) v now),
    )

-- an invalidation ends only what is live
exposed_live : (entry : Entry) (b : Bool) → (is_exposed entry && b) ≡ true → entry.valid ≡ true
exposed_live entry b h = (and_parts entry.valid (not entry.iprot) (and_parts (is_exposed entry) b h).0).0

all_deaths : (tlb0 tlb1 : Bool) → AnswersDeaths (ends_all tlb0 tlb1)
unfolding ends_all
all_deaths tlb0 tlb1 slots slot = deaths (ends_all tlb0 tlb1) slots slot (exposed_live (entry_at slots slot) _)

pid_deaths : (pid : ℕ) → AnswersDeaths (ends_pid pid)
unfolding ends_pid
pid_deaths pid slots slot = deaths (ends_pid pid) slots slot (exposed_live (entry_at slots slot) _)

address_deaths : (ea : ℕ) (pid : Option ℕ) (tlb0 tlb1 : Bool) → AnswersDeaths (ends_address ea pid tlb0 tlb1)
unfolding ends_address
address_deaths ea pid tlb0 tlb1 slots slot = deaths (ends_address ea pid tlb0 tlb1) slots slot (exposed_live (entry_at slots slot) _)

pub invalidations_answer_deaths : InvalidationsAnswerDeaths
invalidations_answer_deaths = (all_deaths, pid_deaths, address_deaths)

-- a write overwrites its own slot
pub own : (at : ℕ) (new entry : Entry) → ends_write at new at entry ≡ true
unfolding ends_write
own at new entry = ap (λ b. b || (new.valid && (entry.valid && meets new entry))) (eq-eqb at at refl)

other_live : (a b c m : Bool) → (a || (b && (c && m))) ≡ true → a ≡ false → c ≡ true
other_live true b c m h n = absurd (false≢true (sym n))
other_live false b c m h n = (and_parts c m (and_parts b (c && m) h).1).0

not_own : (m n : ℕ) → m ≢ n → (m == n) ≡ false
not_own m n h = ⊎_elim (λ (t : (m == n) ≡ true). absurd (h (eqb-true m n t))) (λ (f : (m == n) ≡ false). f) (cases_Bool (m == n))

ends_live : (at slot : ℕ) (new entry : Entry) → slot ≢ at → ends_write at new slot entry ≡ true → entry.valid ≡ true
unfolding ends_write
ends_live at slot new entry ne h = other_live (slot == at) new.valid entry.valid (meets new entry) h (not_own slot at ne)

put_deaths : (at slot : ℕ) (new : Entry) (slots : List Entry) → slot ≢ at → Contains (ended_slots (ends_write at new) slots) slot ↔ Dies slots (with_entry at new slots) slot
put_deaths at slot new slots ne =
    let stays : (entry_at (with_entry at new slots) slot).valid ≡ (entry_at (invalidated (ends_write at new) slots) slot).valid = ap (λ (e : Entry). e.valid) (get_or-set_other (invalidated (ends_write at new) slots) at slot new blank ne) in
    let both = deaths (ends_write at new) slots slot (ends_live at slot new (entry_at slots slot) ne) in
    (λ c. let d = both.0 c in (d.0, stays ∙ d.1), λ (v, d). both.1 (v, sym stays ∙ d))

pub writes_answer_deaths : WritesAnswerDeaths
writes_answer_deaths mas slots at named inside =
    let new : Entry = written_entry at mas in
    let answer : ended_slots (ends_write at new) slots ≡ ended_by_write mas slots = sym (ended_there mas slots at named) in
    let result : with_entry at new slots ≡ after_write mas slots = sym (after_write_there mas slots at named) in
    let Own : List ℕ → Type 0 = λ xs. Contains xs at in (
      subst Own answer ((answers_are_ended (ends_write at new) slots at).1 (inside, own at new (entry_at slots at))),
      λ slot ne.
          let Answers : List ℕ → Type 0 = λ xs. Contains xs slot ↔ Dies slots (after_write mas slots) slot in
          let Becomes : List Entry → Type 0 = λ ys. Contains (ended_slots (ends_write at new) slots) slot ↔ Dies slots ys slot in
          subst Answers answer (subst Becomes result (put_deaths at slot new slots ne)),
    )
