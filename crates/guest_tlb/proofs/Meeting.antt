-- When translations meet.
use Rattle.std.proofs.Common.{arith, refl, ap, sym, ◌∙◌, ◌≡◌, ℕ, ◌+◌, ◌<◌, ◌≤◌, ◌==◌, Bool, true, false, ◌&&◌, ◌||◌, nat_lt, nat_le, ⊎_elim}
use Rattle.std.proofs.lemmas.Bool.{and_parts, and_from, or_cases, cases_lt, lt-ltb, le-leb, ltb-true, leb-true, eqb-true}
use Rattle.std.proofs.lemmas.Bool.Decides.{nat_tests}
use Rattle.std.proofs.Math.Bool.{and_comm, or_comm}
use Rattle.std.specs.Bool.{beq}
use Rattle.mas.specs.declared.entry.Entry.{Entry}
use Rattle.mas.specs.Page.{page_size, is_in_page}
use Rattle.guest_tlb.specs.Translation.{has_address, is_for, overlap, share_pid, matches, meets, IsSound, IsMatch}
use Rattle.guest_tlb.specs.Laws.{MeetingSharesAnAccess}
use Rattle.mas.proofs.Sizes.{size_is_positive}

-- the order of two doesn't matter
beq_swap : (x y : Bool) → beq x y ≡ beq y x
beq_swap true true = refl
beq_swap true false = refl
beq_swap false true = refl
beq_swap false false = refl

eqb_swap : (m n : ℕ) → (m == n) ≡ (n == m)
eqb_swap m n = grind (arith, nat_tests)

pub meets_swap : (a b : Entry) → meets a b ≡ meets b a
unfolding meets
meets_swap a b =
    let pages = and_comm (nat_lt a.epn (b.epn + page_size b.tsize)) (nat_lt b.epn (a.epn + page_size a.tsize)) in
    let pids : share_pid a b ≡ share_pid b a =
    ap (λ t. t || (a.tid == 0 || b.tid == 0)) (eqb_swap a.tid b.tid) ∙ ap (λ t. b.tid == a.tid || t) (or_comm (a.tid == 0) (b.tid == 0)) in
    ap (λ t. t && (beq a.ts b.ts && share_pid a b)) pages
    ∙ (ap (λ t. overlap b a && (t && share_pid a b)) (beq_swap a.ts b.ts) ∙ ap (λ t. overlap b a && (beq b.ts a.ts && t)) pids)

-- two that translate one access meet
same_space : (x y s : Bool) → beq x s ≡ true → beq y s ≡ true → beq x y ≡ true
same_space true true s h k = refl
same_space false false s h k = refl
same_space true false true h k = k
same_space true false false h k = h
same_space false true true h k = h
same_space false true false h k = k

same_pid : (m n pid : ℕ) → (m == 0 || m == pid) ≡ true → (n == 0 || n == pid) ≡ true → (m == n || (m == 0 || n == 0)) ≡ true
same_pid m n pid h k = grind (arith, nat_tests)

-- what a match says
pub address_parts : (ea : ℕ) (entry : Entry) → has_address entry ea ≡ true → (entry.epn ≤ ea) × (ea < entry.epn + page_size entry.tsize)
unfolding is_in_page
address_parts ea entry h =
    let both = and_parts (nat_le entry.epn ea) (nat_lt ea (entry.epn + page_size entry.tsize)) h in
    (leb-true entry.epn ea both.0, ltb-true ea (entry.epn + page_size entry.tsize) both.1)

pub match_parts : (space : Bool) (pid ea : ℕ) (entry : Entry) → matches space pid ea entry ≡ true → (entry.valid ≡ true) × (beq entry.ts space ≡ true) × (is_for pid entry ≡ true) × (has_address entry ea ≡ true)
unfolding matches
match_parts space pid ea entry h =
    let one = and_parts entry.valid (beq entry.ts space && (is_for pid entry && has_address entry ea)) h in
    let two = and_parts (beq entry.ts space) (is_for pid entry && has_address entry ea) one.1 in
    let three = and_parts (is_for pid entry) (has_address entry ea) two.1 in
    (one.0, two.0, three.0, three.1)

same_bool : (x y : Bool) → beq x y ≡ true → x ≡ y
same_bool true true h = refl
same_bool true false h = sym h
same_bool false true h = h
same_bool false false h = refl

pub match_is : (space : Bool) (pid ea : ℕ) (entry : Entry) → matches space pid ea entry ≡ true → IsSound entry → IsMatch space pid ea entry
match_is space pid ea entry h sound =
    let parts = match_parts space pid ea entry h in
    let page = address_parts ea entry parts.3 in
    record { live = parts.0; space_same = same_bool entry.ts space parts.1; pid_fits = parts.2; begins = page.0; ends = page.1; sound = sound }

pub matches_meet : (space : Bool) (pid ea : ℕ) (a b : Entry) → matches space pid ea a ≡ true → matches space pid ea b ≡ true → meets a b ≡ true
unfolding meets
matches_meet space pid ea a b h k =
    let one = match_parts space pid ea a h in
    let two = match_parts space pid ea b k in
    let here = address_parts ea a one.3 in
    let there = address_parts ea b two.3 in
    and_from _ _
    (and_from _ _ (lt-ltb a.epn (b.epn + page_size b.tsize) (omega (arith, here, there))) (lt-ltb b.epn (a.epn + page_size a.tsize) (omega (arith, here, there))))
    (and_from _ _ (same_space a.ts b.ts space one.1 two.1) (same_pid a.tid b.tid pid one.2 two.2))

-- and two live ones that meet would both translate some access
common_pid : (m n : ℕ) → (m == n || (m == 0 || n == 0)) ≡ true → (pid : ℕ) × ((m == 0 || m == pid) ≡ true) × ((n == 0 || n == pid) ≡ true)
common_pid m n h =
    ⊎_elim (λ (e : (m == n) ≡ true). let is : m ≡ n = eqb-true m n e in (m, grind (arith, nat_tests), grind (arith, nat_tests)))
    (λ (e : (m == 0 || n == 0) ≡ true).
    ⊎_elim (λ (z : (m == 0) ≡ true). let is : m ≡ 0 = eqb-true m 0 z in (n, grind (arith, nat_tests), grind (arith, nat_tests)))
    (λ (z : (n == 0) ≡ true). let is : n ≡ 0 = eqb-true n 0 z in (m, grind (arith, nat_tests), grind (arith, nat_tests))) (or_cases (m == 0) (n == 0) e))
    (or_cases (m == n) (m == 0 || n == 0) h)

in_page : (entry : Entry) (ea : ℕ) → entry.epn ≤ ea → ea < entry.epn + page_size entry.tsize → has_address entry ea ≡ true
unfolding is_in_page
in_page entry ea h k = and_from _ _ (le-leb entry.epn ea h) (lt-ltb ea (entry.epn + page_size entry.tsize) k)

common_address : (a b : Entry) → overlap a b ≡ true → (ea : ℕ) × (has_address a ea ≡ true) × (has_address b ea ≡ true)
common_address a b h =
    let both = and_parts (nat_lt a.epn (b.epn + page_size b.tsize)) (nat_lt b.epn (a.epn + page_size a.tsize)) h in
    let here : a.epn < b.epn + page_size b.tsize = ltb-true a.epn (b.epn + page_size b.tsize) both.0 in
    let there : b.epn < a.epn + page_size a.tsize = ltb-true b.epn (a.epn + page_size a.tsize) both.1 in
    ⊎_elim (λ (l : a.epn < b.epn). (b.epn, in_page a b.epn (omega arith) there, in_page b b.epn (omega arith) (omega (arith, size_is_positive b.tsize))))
    (λ (l : b.epn ≤ a.epn). (a.epn, in_page a a.epn (omega arith) (omega (arith, size_is_positive a.tsize)), in_page b a.epn l here)) (cases_lt a.epn b.epn)

match_from : (space : Bool) (pid ea : ℕ) (entry : Entry) → entry.valid ≡ true → beq entry.ts space ≡ true → is_for pid entry ≡ true → has_address entry ea ≡ true → matches space pid ea entry ≡ true
unfolding matches
match_from space pid ea entry v t p h = and_from _ _ v (and_from _ _ t (and_from _ _ p h))

beq_itself : (x : Bool) → beq x x ≡ true
beq_itself true = refl
beq_itself false = refl

meeting_parts : (a b : Entry) → meets a b ≡ true → (overlap a b ≡ true) × (beq a.ts b.ts ≡ true) × (share_pid a b ≡ true)
unfolding meets
meeting_parts a b h =
    let one = and_parts (overlap a b) (beq a.ts b.ts && share_pid a b) h in
    let two = and_parts (beq a.ts b.ts) (share_pid a b) one.1 in
    (one.0, two.0, two.1)

pub meeting_shares_an_access : MeetingSharesAnAccess
meeting_shares_an_access a b va vb = (
  λ h.
      let parts = meeting_parts a b h in
      let (pid, pa, pb) = common_pid a.tid b.tid parts.2 in
      let (ea, ha, hb) = common_address a b parts.0 in
      (a.ts, pid, ea, (match_from a.ts pid ea a va (beq_itself a.ts) pa ha, match_from a.ts pid ea b vb (beq_swap b.ts a.ts ∙ parts.1) pb hb)),
  λ (space, pid, ea, (ma, mb)). matches_meet space pid ea a b ma mb,
)
