-- The handles on something: which they are, how many, and how often each is counted.
use Rattle.std.proofs.Common.{◌≡◌, ℕ, zero, suc, ◌+◌, ◌<◌, Bool, true, false, cond, ◌==◌, List, [], ◌∷◌, ◌++◌, length, Some, refl, sym, ap, subst, ◌∙◌, sum_by, arith}
use Rattle.std.specs.Prelude.{slice_get, count_by}
use Rattle.std.specs.List.{list_all}
use Rattle.std.specs.Option.{option_map_or}
use Rattle.std.proofs.lemmas.Bool.{and_from, and_right}
use Rattle.std.proofs.lemmas.List.Folds.{list_all-append}
use Rattle.std.proofs.lemmas.List.Sums.{sum_by-cons}
use Rattle.hv_config.specs.declared.form.Kind.{Kind}
use Rattle.hv_config.specs.declared.config.HandleDef.{HandleDef}
use Rattle.hv_config.specs.declared.config.PartDef.{PartDef}
use Rattle.machine_desc.specs.declared.wiring.PortRef.{PortRef}
use Rattle.machine_desc.specs.Joined.{same_ref}
use Rattle.config_descs.specs.Wired.{is_on, refs_in, refs_from, refs_of}
use Rattle.config_rules.proofs.Lists.{count-cons, count-append}
use Rattle.config_rules.proofs.Names.{number-itself}
use Rattle.config_rules.proofs.Numbers.{none-and}

abbrev pub ref_at : ℕ → ℕ → PortRef
ref_at part handle = record { part = part; handle = handle }

abbrev pub bit : Bool → ℕ
bit b = cond b 1 0

and-none : (n : ℕ) → n + 0 ≡ n
and-none n = omega arith

-- ---- which they are

pub in-all : (p : PortRef → Bool) (kind : Kind) (name : List ℕ) (part number : ℕ) (handles : List HandleDef)
    → ((j : ℕ) (handle : HandleDef) → slice_get handles j ≡ Some handle → is_on kind name handle ≡ true → p (ref_at part (number + j)) ≡ true)
    → list_all p (refs_in kind name part number handles) ≡ true
in-all p kind name part number [] at = refl
in-all p kind name part number (handle ∷ handles) at =
    let below : list_all p (refs_in kind name part (number + 1) handles) ≡ true =
    in-all p kind name part (number + 1) handles (λ j other e on.
    let same : number + suc j ≡ (number + 1) + j = omega arith in
    subst (λ (n : ℕ). p (ref_at part n) ≡ true) same (at (suc j) other e on)) in
    let first : number + 0 ≡ number = omega arith in
    elim (is_on kind name handle) as (λ b. is_on kind name handle ≡ b
    → list_all p (cond b (ref_at part number ∷ refs_in kind name part (number + 1) handles) (refs_in kind name part (number + 1) handles)) ≡ true) [
      | true ↦ λ t. and_from _ _ (subst (λ (n : ℕ). p (ref_at part n) ≡ true) first (at 0 handle refl t)) below
      | false ↦ λ t. below
    ] refl

pub from-all : (p : PortRef → Bool) (kind : Kind) (name : List ℕ) (number : ℕ) (parts : List PartDef)
    → ((k : ℕ) (part : PartDef) (j : ℕ) (handle : HandleDef) → slice_get parts k ≡ Some part → slice_get part.handles j ≡ Some handle → is_on kind name handle ≡ true
    → p (ref_at (number + k) (1 + j)) ≡ true)
    → list_all p (refs_from kind name number parts) ≡ true
from-all p kind name number [] at = refl
from-all p kind name number (part ∷ parts) at =
    let first : number + 0 ≡ number = omega arith in
    let here = in-all p kind name number 1 part.handles (λ j handle e on. subst (λ (n : ℕ). p (ref_at n (1 + j)) ≡ true) first (at 0 part j handle refl e on)) in
    let below = from-all p kind name (number + 1) parts (λ k other j handle e f on.
    let same : number + suc k ≡ (number + 1) + k = omega arith in
    subst (λ (n : ℕ). p (ref_at n (1 + j)) ≡ true) same (at (suc k) other j handle e f on)) in
    rw (list_all-append p (refs_in kind name number 1 part.handles) (refs_from kind name (number + 1) parts)) (and_from _ _ here below)

-- those of a whole configuration
pub refs-all : (p : PortRef → Bool) (kind : Kind) (name : List ℕ) (parts : List PartDef)
    → ((k : ℕ) (part : PartDef) (j : ℕ) (handle : HandleDef) → slice_get parts k ≡ Some part → slice_get part.handles j ≡ Some handle → is_on kind name handle ≡ true
    → p (ref_at k (1 + j)) ≡ true)
    → list_all p (refs_of parts kind name) ≡ true
unfolding refs_of
refs-all p kind name parts at =
    from-all p kind name 0 parts (λ k part j handle e f on.
    let same : k ≡ 0 + k = omega arith in
    subst (λ (n : ℕ). p (ref_at n (1 + j)) ≡ true) same (at k part j handle e f on))

-- ---- how often each is counted

differ : (m n : ℕ) → m < n → (m == n) ≡ false
differ m n h = grind arith

above : (m n : ℕ) → n < m → (m == n) ≡ false
above m n h = grind arith

in-low : (kind : Kind) (name : List ℕ) (p h part number : ℕ) (handles : List HandleDef) → h < number → count_by (same_ref (ref_at p h)) (refs_in kind name part number handles) ≡ 0
in-low kind name p h part number [] low = refl
in-low kind name p h part number (handle ∷ handles) low =
    let below : count_by (same_ref (ref_at p h)) (refs_in kind name part (number + 1) handles) ≡ 0 = in-low kind name p h part (number + 1) handles (omega arith) in
    let none : same_ref (ref_at p h) (ref_at part number) ≡ false = and_right (p == part) (h == number) (differ h number low) in
    elim (is_on kind name handle) as (λ b. count_by (same_ref (ref_at p h)) (cond b (ref_at part number ∷ refs_in kind name part (number + 1) handles) (refs_in kind name part (number + 1) handles)) ≡ 0)
    [ true ↦ count-cons (same_ref (ref_at p h)) (ref_at part number) (refs_in kind name part (number + 1) handles) ∙ rw (none, below) refl | false ↦ below ]

in-other : (kind : Kind) (name : List ℕ) (p h part number : ℕ) (handles : List HandleDef) → (p == part) ≡ false → count_by (same_ref (ref_at p h)) (refs_in kind name part number handles) ≡ 0
in-other kind name p h part number [] other = refl
in-other kind name p h part number (handle ∷ handles) other =
    let below : count_by (same_ref (ref_at p h)) (refs_in kind name part (number + 1) handles) ≡ 0 = in-other kind name p h part (number + 1) handles other in
    let none : same_ref (ref_at p h) (ref_at part number) ≡ false = rw other refl in
    elim (is_on kind name handle) as (λ b. count_by (same_ref (ref_at p h)) (cond b (ref_at part number ∷ refs_in kind name part (number + 1) handles) (refs_in kind name part (number + 1) handles)) ≡ 0)
    [ true ↦ count-cons (same_ref (ref_at p h)) (ref_at part number) (refs_in kind name part (number + 1) handles) ∙ rw (none, below) refl | false ↦ below ]

-- the handle at the place is on it
abbrev pub on_in : Kind → List ℕ → List HandleDef → ℕ → Bool
on_in kind name handles j = option_map_or (is_on kind name) (slice_get handles j) false

in-at : (kind : Kind) (name : List ℕ) (part number : ℕ) (handles : List HandleDef) (h j : ℕ) → h ≡ number + j
    → count_by (same_ref (ref_at part h)) (refs_in kind name part number handles) ≡ bit (on_in kind name handles j)
in-at kind name part number [] h j e = refl
in-at kind name part number (handle ∷ handles) h zero e =
    let same : h ≡ number = omega (arith, e) in
    let low : h < number + 1 = omega (arith, e) in
    let below : count_by (same_ref (ref_at part h)) (refs_in kind name part (number + 1) handles) ≡ 0 = in-low kind name part h part (number + 1) handles low in
    let yes : same_ref (ref_at part h) (ref_at part number) ≡ true = rw same (and_from _ _ (number-itself part) (number-itself number)) in
    elim (is_on kind name handle) as (λ b. count_by (same_ref (ref_at part h)) (cond b (ref_at part number ∷ refs_in kind name part (number + 1) handles) (refs_in kind name part (number + 1) handles)) ≡ bit b)
    [ true ↦ count-cons (same_ref (ref_at part h)) (ref_at part number) (refs_in kind name part (number + 1) handles) ∙ rw (yes, below) refl | false ↦ below ]
in-at kind name part number (handle ∷ handles) h (suc j) e =
    let below : count_by (same_ref (ref_at part h)) (refs_in kind name part (number + 1) handles) ≡ bit (on_in kind name handles j) =
    in-at kind name part (number + 1) handles h j (omega (arith, e)) in
    let high : number < h = omega (arith, e) in
    let none : same_ref (ref_at part h) (ref_at part number) ≡ false = and_right (part == part) (h == number) (above h number high) in
    elim (is_on kind name handle) as (λ b. count_by (same_ref (ref_at part h)) (cond b (ref_at part number ∷ refs_in kind name part (number + 1) handles) (refs_in kind name part (number + 1) handles)) ≡ bit (on_in kind name handles j))
    [ true ↦ count-cons (same_ref (ref_at part h)) (ref_at part number) (refs_in kind name part (number + 1) handles) ∙ rw none (none-and (count_by (same_ref (ref_at part h)) (refs_in kind name part (number + 1) handles)) ∙ below) | false ↦ below ]

from-low : (kind : Kind) (name : List ℕ) (p h number : ℕ) (parts : List PartDef) → p < number → count_by (same_ref (ref_at p h)) (refs_from kind name number parts) ≡ 0
from-low kind name p h number [] low = refl
from-low kind name p h number (part ∷ parts) low =
    let here = in-other kind name p h number 1 part.handles (differ p number low) in
    let below = from-low kind name p h (number + 1) parts (omega arith) in
    count-append (same_ref (ref_at p h)) (refs_in kind name number 1 part.handles) (refs_from kind name (number + 1) parts) ∙ rw (here, below) refl

-- the handle at the place of the partition at the place is on it
abbrev pub on_at : Kind → List ℕ → List PartDef → ℕ → ℕ → Bool
on_at kind name parts k j = option_map_or (λ (part : PartDef). on_in kind name part.handles j) (slice_get parts k) false

from-at : (kind : Kind) (name : List ℕ) (number : ℕ) (parts : List PartDef) (p k j : ℕ) → p ≡ number + k
    → count_by (same_ref (ref_at p (1 + j))) (refs_from kind name number parts) ≡ bit (on_at kind name parts k j)
from-at kind name number [] p k j e = refl
from-at kind name number (part ∷ parts) p zero j e =
    let same : number ≡ p = omega (arith, e) in
    let low : p < number + 1 = omega (arith, e) in
    let here : count_by (same_ref (ref_at p (1 + j))) (refs_in kind name number 1 part.handles) ≡ bit (on_in kind name part.handles j) =
    rw same (in-at kind name p 1 part.handles (1 + j) j refl) in
    let below = from-low kind name p (1 + j) (number + 1) parts low in
    count-append (same_ref (ref_at p (1 + j))) (refs_in kind name number 1 part.handles) (refs_from kind name (number + 1) parts)
    ∙ rw (here, below) (and-none (bit (on_in kind name part.handles j)))
from-at kind name number (part ∷ parts) p (suc k) j e =
    let high : number < p = omega (arith, e) in
    let here = in-other kind name p (1 + j) number 1 part.handles (above p number high) in
    let below = from-at kind name (number + 1) parts p k j (omega (arith, e)) in
    count-append (same_ref (ref_at p (1 + j))) (refs_in kind name number 1 part.handles) (refs_from kind name (number + 1) parts)
    ∙ rw (here, below) (none-and (bit (on_at kind name parts k j)))

-- a handle of a configuration is counted once among those on what it stands for, and else never
pub refs-at : (kind : Kind) (name : List ℕ) (parts : List PartDef) (k j : ℕ) → count_by (same_ref (ref_at k (1 + j))) (refs_of parts kind name) ≡ bit (on_at kind name parts k j)
unfolding refs_of
refs-at kind name parts k j = from-at kind name 0 parts k k j (omega arith)

-- ---- how many they are

length-append : {X : Type 0} (xs ys : List X) → length (xs ++ ys) ≡ length xs + length ys
length-append [] ys = sym (none-and (length ys))
length-append (x ∷ xs) ys = let below = length-append xs ys in let more : suc (length xs + length ys) ≡ suc (length xs) + length ys = omega arith in ap suc below ∙ more

one-more : (n : ℕ) → suc n ≡ 1 + n
one-more n = omega arith

in-length : (kind : Kind) (name : List ℕ) (part number : ℕ) (handles : List HandleDef) → length (refs_in kind name part number handles) ≡ count_by (is_on kind name) handles
in-length kind name part number [] = refl
in-length kind name part number (handle ∷ handles) =
    let below : length (refs_in kind name part (number + 1) handles) ≡ count_by (is_on kind name) handles = in-length kind name part (number + 1) handles in
    elim (is_on kind name handle) as (λ b. length (cond b (ref_at part number ∷ refs_in kind name part (number + 1) handles) (refs_in kind name part (number + 1) handles)) ≡ bit b + count_by (is_on kind name) handles)
    [ true ↦ rw below (one-more (count_by (is_on kind name) handles)) | false ↦ below ∙ sym (none-and (count_by (is_on kind name) handles)) ]
    ∙ sym (count-cons (is_on kind name) handle handles)

from-length : (kind : Kind) (name : List ℕ) (number : ℕ) (parts : List PartDef)
    → length (refs_from kind name number parts) ≡ sum_by (λ (part : PartDef). count_by (is_on kind name) part.handles) parts
from-length kind name number [] = refl
from-length kind name number (part ∷ parts) =
    length-append (refs_in kind name number 1 part.handles) (refs_from kind name (number + 1) parts)
    ∙ rw (in-length kind name number 1 part.handles, from-length kind name (number + 1) parts)
    (sym (sum_by-cons (λ (part : PartDef). count_by (is_on kind name) part.handles) part parts))

pub refs-length : (kind : Kind) (name : List ℕ) (parts : List PartDef)
    → length (refs_of parts kind name) ≡ sum_by (λ (part : PartDef). count_by (is_on kind name) part.handles) parts
unfolding refs_of
refs-length kind name parts = from-length kind name 0 parts

-- ---- how many are in one partition

abbrev pub is_in : ℕ → PortRef → Bool
is_in part ref = ref.part == part

in-part : (kind : Kind) (name : List ℕ) (p part number : ℕ) (handles : List HandleDef) → (part == p) ≡ true
    → count_by (is_in p) (refs_in kind name part number handles) ≡ count_by (is_on kind name) handles
in-part kind name p part number [] same = refl
in-part kind name p part number (handle ∷ handles) same =
    let below : count_by (is_in p) (refs_in kind name part (number + 1) handles) ≡ count_by (is_on kind name) handles = in-part kind name p part (number + 1) handles same in
    elim (is_on kind name handle) as (λ b. count_by (is_in p) (cond b (ref_at part number ∷ refs_in kind name part (number + 1) handles) (refs_in kind name part (number + 1) handles)) ≡ bit b + count_by (is_on kind name) handles)
    [ true ↦ count-cons (is_in p) (ref_at part number) (refs_in kind name part (number + 1) handles) ∙ rw (same, below) refl | false ↦ below ∙ sym (none-and (count_by (is_on kind name) handles)) ]
    ∙ sym (count-cons (is_on kind name) handle handles)

in-no-part : (kind : Kind) (name : List ℕ) (p part number : ℕ) (handles : List HandleDef) → (part == p) ≡ false → count_by (is_in p) (refs_in kind name part number handles) ≡ 0
in-no-part kind name p part number [] other = refl
in-no-part kind name p part number (handle ∷ handles) other =
    let below : count_by (is_in p) (refs_in kind name part (number + 1) handles) ≡ 0 = in-no-part kind name p part (number + 1) handles other in
    elim (is_on kind name handle) as (λ b. count_by (is_in p) (cond b (ref_at part number ∷ refs_in kind name part (number + 1) handles) (refs_in kind name part (number + 1) handles)) ≡ 0)
    [ true ↦ count-cons (is_in p) (ref_at part number) (refs_in kind name part (number + 1) handles) ∙ rw (other, below) refl | false ↦ below ]

from-before : (kind : Kind) (name : List ℕ) (p number : ℕ) (parts : List PartDef) → p < number → count_by (is_in p) (refs_from kind name number parts) ≡ 0
from-before kind name p number [] low = refl
from-before kind name p number (part ∷ parts) low =
    let here = in-no-part kind name p number 1 part.handles (above number p low) in
    let below = from-before kind name p (number + 1) parts (omega arith) in
    count-append (is_in p) (refs_in kind name number 1 part.handles) (refs_from kind name (number + 1) parts) ∙ rw (here, below) refl

-- how many handles of the partition at the place are on it
abbrev pub count_at : Kind → List ℕ → List PartDef → ℕ → ℕ
count_at kind name parts k = option_map_or (λ (part : PartDef). count_by (is_on kind name) part.handles) (slice_get parts k) 0

from-part : (kind : Kind) (name : List ℕ) (number : ℕ) (parts : List PartDef) (p k : ℕ) → p ≡ number + k
    → count_by (is_in p) (refs_from kind name number parts) ≡ count_at kind name parts k
from-part kind name number [] p k e = refl
from-part kind name number (part ∷ parts) p zero e =
    let same : number ≡ p = omega (arith, e) in
    let low : p < number + 1 = omega (arith, e) in
    let yes : (number == p) ≡ true = rw same (number-itself p) in
    let here = in-part kind name p number 1 part.handles yes in
    let below = from-before kind name p (number + 1) parts low in
    count-append (is_in p) (refs_in kind name number 1 part.handles) (refs_from kind name (number + 1) parts) ∙ rw (here, below) (and-none (count_by (is_on kind name) part.handles))
from-part kind name number (part ∷ parts) p (suc k) e =
    let high : number < p = omega (arith, e) in
    let here = in-no-part kind name p number 1 part.handles (differ number p high) in
    let below = from-part kind name (number + 1) parts p k (omega (arith, e)) in
    count-append (is_in p) (refs_in kind name number 1 part.handles) (refs_from kind name (number + 1) parts) ∙ rw (here, below) (none-and (count_at kind name parts k))

pub refs-part : (kind : Kind) (name : List ℕ) (parts : List PartDef) (k : ℕ) → count_by (is_in k) (refs_of parts kind name) ≡ count_at kind name parts k
unfolding refs_of
refs-part kind name parts k = from-part kind name 0 parts k k (omega arith)
