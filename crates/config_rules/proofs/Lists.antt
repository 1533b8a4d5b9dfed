-- Lists whose elements pass tests, and searches that find nothing.
use Rattle.std.proofs.Common.{◌≡◌, ℕ, zero, suc, ◌+◌, Bool, true, false, ◌&&◌, ◌||◌, not, cond, List, [], ◌∷◌, ◌++◌, map, length, Option, Some, None, refl, ap, subst, ◌∙◌, sum_by, arith}
use Rattle.std.specs.Prelude.{find, count_by, slice_get}
use Rattle.std.specs.List.{list_all, list_any}
use Rattle.std.specs.Option.{option_map, option_or}
use Rattle.std.proofs.lemmas.Bool.{and_parts, and_from, or_parts, or_right}
use Rattle.std.proofs.lemmas.List.Sums.{sum_by-cons, sum_by-append}
use Rattle.machine_desc.specs.Ranges.{none_meets}
use Rattle.config_checks.specs.First.{first_meeting, first_from, found_if}
use Rattle.config_rules.proofs.Numbers.{or-none}

-- ---- nothing found

pub option_or-none : {X : Type 0} (a b : Option X) → option_or a b ≡ None → (a ≡ None) × (b ≡ None)
option_or-none None b e = (refl, e)
option_or-none (Some x) b e = absurd cc

pub option_map-none : {X Y : Type 0} (f : X → Y) (o : Option X) → option_map f o ≡ None → o ≡ None
option_map-none f None e = refl
option_map-none f (Some x) e = absurd cc

pub found_if-none : {Y : Type 0} (b : Bool) (y : Y) → found_if b y ≡ None → b ≡ false
found_if-none true y e = absurd cc
found_if-none false y e = refl

-- none of the elements passes
pub find-none : {X : Type 0} (p : X → Bool) (xs : List X) → find p xs ≡ None → list_all (λ x. not (p x)) xs ≡ true
find-none p [] e = refl
find-none p (x ∷ xs) e =
    elim (p x) as (λ b. cond b (Some x) (find p xs) ≡ None → (not b && list_all (λ x. not (p x)) xs) ≡ true)
    [ true ↦ λ e. absurd cc | false ↦ λ e. find-none p xs e ] e

pub first_meeting-none : {X : Type 0} (meets : X → X → Bool) (earlier xs : List X) → first_meeting meets earlier xs ≡ None → none_meets meets earlier xs ≡ true
first_meeting-none meets earlier [] e = refl
first_meeting-none meets earlier (x ∷ xs) e =
    elim (list_any (meets x) earlier) as (λ b. cond b (Some x) (first_meeting meets (earlier ++ x ∷ []) xs) ≡ None → (not b && none_meets meets (earlier ++ x ∷ []) xs) ≡ true)
    [ true ↦ λ e. absurd cc | false ↦ λ e. first_meeting-none meets (earlier ++ x ∷ []) xs e ] e

-- all pass a test that holds of an element where nothing is found at it
pub first_from-none : {X Y : Type 0} (found : List X → X → Option Y) (p : X → Bool) → ((earlier : List X) (x : X) → found earlier x ≡ None → p x ≡ true)
    → (earlier xs : List X) → first_from found earlier xs ≡ None → list_all p xs ≡ true
first_from-none found p passes earlier [] e = refl
first_from-none found p passes earlier (x ∷ xs) e =
    let both = option_or-none (found earlier x) (first_from found (earlier ++ x ∷ []) xs) e in
    and_from (p x) (list_all p xs) (passes earlier x both.0) (first_from-none found p passes (earlier ++ x ∷ []) xs both.1)

-- ---- tests of all

pub all-mono : {X : Type 0} (p q : X → Bool) → ((x : X) → p x ≡ true → q x ≡ true) → (xs : List X) → list_all p xs ≡ true → list_all q xs ≡ true
all-mono p q passes [] e = refl
all-mono p q passes (x ∷ xs) e =
    let both = and_parts (p x) (list_all p xs) e in
    and_from (q x) (list_all q xs) (passes x both.0) (all-mono p q passes xs both.1)

-- two tests of all give a third
pub all-both : {X : Type 0} (p q r : X → Bool) → ((x : X) → p x ≡ true → q x ≡ true → r x ≡ true) → (xs : List X)
    → list_all p xs ≡ true → list_all q xs ≡ true → list_all r xs ≡ true
all-both p q r passes [] e f = refl
all-both p q r passes (x ∷ xs) e f =
    let one = and_parts (p x) (list_all p xs) e in
    let other = and_parts (q x) (list_all q xs) f in
    and_from (r x) (list_all r xs) (passes x one.0 other.0) (all-both p q r passes xs one.1 other.1)

pub all-at : {X : Type 0} (p : X → Bool) (xs : List X) (i : ℕ) (x : X) → list_all p xs ≡ true → slice_get xs i ≡ Some x → p x ≡ true
all-at p [] i x e at = absurd cc
all-at {X} p (y ∷ ys) zero x e at =
    let same : y ≡ x = cc in
    subst (λ (z : X). p z ≡ true) same (and_parts (p y) (list_all p ys) e).0
all-at p (y ∷ ys) (suc i) x e at = all-at p ys i x (and_parts (p y) (list_all p ys) e).1 at

pub all-found : {X : Type 0} (p q : X → Bool) (xs : List X) (x : X) → list_all p xs ≡ true → find q xs ≡ Some x → (p x ≡ true) × (q x ≡ true)
all-found p q [] x all e = absurd cc
all-found {X} p q (y ∷ ys) x all e =
    let both = and_parts (p y) (list_all p ys) all in
    elim (q y) as (λ b. q y ≡ b → cond b (Some y) (find q ys) ≡ Some x → (p x ≡ true) × (q x ≡ true)) [
      | true ↦ λ t e. let same : y ≡ x = cc in subst (λ (z : X). (p z ≡ true) × (q z ≡ true)) same (both.0, t)
      | false ↦ λ t e. all-found p q ys x both.1 e
    ] refl e

-- what some element passes is found
pub any-found : {X : Type 0} (p : X → Bool) (xs : List X) → list_any p xs ≡ true → (x : X) × (find p xs ≡ Some x) × (p x ≡ true)
any-found p [] e = absurd cc
any-found {X} p (y ∷ ys) e =
    elim (p y) as (λ b. p y ≡ b → (b || list_any p ys) ≡ true → (x : X) × (cond b (Some y) (find p ys) ≡ Some x) × (p x ≡ true))
    [ true ↦ λ t e. (y, refl, t) | false ↦ λ t e. any-found p ys e ] refl e

-- ---- elements that are apart

pub any-map : {X Y : Type 0} (f : X → Y) (p : Y → Bool) (xs : List X) → list_any p (map f xs) ≡ list_any (λ x. p (f x)) xs
any-map f p [] = refl
any-map f p (x ∷ xs) = rw (any-map f p xs) refl

map-push : {X Y : Type 0} (f : X → Y) (xs : List X) (x : X) → map f (xs ++ x ∷ []) ≡ map f xs ++ f x ∷ []
map-push f [] x = refl
map-push {X} {Y} f (y ∷ ys) x = ap (λ (zs : List Y). f y ∷ zs) (map-push f ys x)

-- what is made of elements is apart where a test that says the same of the elements finds them apart
pub none_meets-map : {X Y : Type 0} (f : X → Y) (meets : Y → Y → Bool) (earlier xs : List X)
    → none_meets meets (map f earlier) (map f xs) ≡ none_meets (λ x y. meets (f x) (f y)) earlier xs
none_meets-map f meets earlier [] = refl
none_meets-map f meets earlier (x ∷ xs) =
    rw (any-map f (meets (f x)) earlier, ← map-push f earlier x, none_meets-map f meets (earlier ++ x ∷ []) xs) refl

any-less : {X : Type 0} (p q member : X → Bool) → ((x : X) → member x ≡ true → q x ≡ true → p x ≡ true) → (xs : List X) → list_all member xs ≡ true
    → list_any p xs ≡ false → list_any q xs ≡ false
any-less p q member passes [] all e = refl
any-less p q member passes (x ∷ xs) all e =
    let both = and_parts (member x) (list_all member xs) all in
    let none = or_parts (p x) (list_any p xs) e in
    let here : q x ≡ false =
    elim (q x) as (λ b. q x ≡ b → b ≡ false) [ true ↦ λ t. absurd (let yes : p x ≡ true = passes x both.0 t in let no : p x ≡ false = none.0 in cc) | false ↦ λ t. refl ] refl in
    rw here (any-less p q member passes xs both.1 none.1)

all-push : {X : Type 0} (p : X → Bool) (xs : List X) (x : X) → list_all p xs ≡ true → p x ≡ true → list_all p (xs ++ x ∷ []) ≡ true
all-push p [] x all e = rw e refl
all-push p (y ∷ ys) x all e =
    let both = and_parts (p y) (list_all p ys) all in
    and_from (p y) (list_all p (ys ++ x ∷ [])) both.0 (all-push p ys x both.1 e)

-- of members, what meets by one test meets by the other
pub none_meets-mono : {X : Type 0} (meets other : X → X → Bool) (member : X → Bool)
    → ((x y : X) → member x ≡ true → member y ≡ true → other x y ≡ true → meets x y ≡ true)
    → (earlier xs : List X) → list_all member earlier ≡ true → list_all member xs ≡ true → none_meets meets earlier xs ≡ true → none_meets other earlier xs ≡ true
none_meets-mono meets other member passes earlier [] all rest e = refl
none_meets-mono meets other member passes earlier (x ∷ xs) all rest e =
    let both = and_parts (member x) (list_all member xs) rest in
    let parts = and_parts (not (list_any (meets x) earlier)) (none_meets meets (earlier ++ x ∷ []) xs) e in
    let none : list_any (meets x) earlier ≡ false =
    elim (list_any (meets x) earlier) as (λ b. not b ≡ true → b ≡ false) [ true ↦ λ e. absurd cc | false ↦ λ e. refl ] parts.0 in
    let here : list_any (other x) earlier ≡ false = any-less (meets x) (other x) member (λ y m t. passes x y both.0 m t) earlier all none in
    rw here (none_meets-mono meets other member passes (earlier ++ x ∷ []) xs (all-push member earlier x all both.0) both.1 parts.1)

-- ---- places

pub all-places : {X : Type 0} (p : X → Bool) (xs : List X) → ((i : ℕ) (x : X) → slice_get xs i ≡ Some x → p x ≡ true) → list_all p xs ≡ true
all-places p [] at = refl
all-places p (x ∷ xs) at = and_from (p x) (list_all p xs) (at zero x refl) (all-places p xs (λ i y e. at (suc i) y e))

-- ---- tests that agree

pub any-same : {X : Type 0} (p q member : X → Bool) → ((x : X) → member x ≡ true → p x ≡ q x) → (xs : List X) → list_all member xs ≡ true → list_any p xs ≡ list_any q xs
any-same p q member same [] all = refl
any-same p q member same (x ∷ xs) all =
    let both = and_parts (member x) (list_all member xs) all in
    rw (same x both.0, any-same p q member same xs both.1) refl

-- one if it passes, and those behind it
pub count-cons : {X : Type 0} (p : X → Bool) (x : X) (xs : List X) → count_by p (x ∷ xs) ≡ cond (p x) 1 0 + count_by p xs
count-cons p x xs = sum_by-cons (λ x. cond (p x) 1 0) x xs

pub count-same : {X : Type 0} (p q member : X → Bool) → ((x : X) → member x ≡ true → p x ≡ q x) → (xs : List X) → list_all member xs ≡ true → count_by p xs ≡ count_by q xs
count-same p q member same [] all = refl
count-same p q member same (x ∷ xs) all =
    let both = and_parts (member x) (list_all member xs) all in
    rw (count-cons p x xs, count-cons q x xs, same x both.0, count-same p q member same xs both.1) refl

pub count-map : {X Y : Type 0} (f : X → Y) (p : Y → Bool) (xs : List X) → count_by p (map f xs) ≡ count_by (λ x. p (f x)) xs
count-map f p [] = refl
count-map f p (x ∷ xs) = rw (count-cons p (f x) (map f xs), count-cons (λ x. p (f x)) x xs, count-map f p xs) refl

pub length-map : {X Y : Type 0} (f : X → Y) (xs : List X) → length (map f xs) ≡ length xs
length-map f [] = refl
length-map f (x ∷ xs) = ap suc (length-map f xs)

pub count-append : {X : Type 0} (p : X → Bool) (xs ys : List X) → count_by p (xs ++ ys) ≡ count_by p xs + count_by p ys
count-append p xs ys = sum_by-append (λ x. cond (p x) 1 0) xs ys

pub any-at : {X : Type 0} (p : X → Bool) (xs : List X) (i : ℕ) (x : X) → slice_get xs i ≡ Some x → p x ≡ true → list_any p xs ≡ true
any-at p [] i x at e = absurd cc
any-at {X} p (y ∷ ys) zero x at e =
    let same : x ≡ y = cc in
    let here : p y ≡ true = subst (λ (z : X). p z ≡ true) same e in
    rw here refl
any-at p (y ∷ ys) (suc i) x at e = or_right (p y) (list_any p ys) (any-at p ys i x at e)

pub one_of : {X : Type 0} (xs : List X) → length xs ≡ 1 → (x : X) × (xs ≡ x ∷ [])
one_of [] e = absurd (omega (arith, e))
one_of (x ∷ []) e = (x, refl)
one_of (x ∷ y ∷ xs) e = absurd (omega (arith, e))

pub two_of : {X : Type 0} (xs : List X) → length xs ≡ 2 → (x : X) × (y : X) × (xs ≡ x ∷ y ∷ [])
two_of [] e = absurd (omega (arith, e))
two_of (x ∷ []) e = absurd (omega (arith, e))
two_of (x ∷ y ∷ []) e = (x, y, refl)
two_of (x ∷ y ∷ z ∷ xs) e = absurd (omega (arith, e))

pub count-equal : {X : Type 0} (p q : X → Bool) → ((x : X) → p x ≡ q x) → (xs : List X) → count_by p xs ≡ count_by q xs
count-equal p q same [] = refl
count-equal p q same (x ∷ xs) = rw (count-cons p x xs, count-cons q x xs, same x, count-equal p q same xs) refl

pub sum-equal : {X : Type 0} (f g : X → ℕ) → ((x : X) → f x ≡ g x) → (xs : List X) → sum_by f xs ≡ sum_by g xs
sum-equal f g same [] = refl
sum-equal f g same (x ∷ xs) = rw (sum_by-cons f x xs, sum_by-cons g x xs, same x, sum-equal f g same xs) refl

pub all-true : {X : Type 0} (p : X → Bool) → ((x : X) → p x ≡ true) → (xs : List X) → list_all p xs ≡ true
all-true p passes [] = refl
all-true p passes (x ∷ xs) = and_from (p x) (list_all p xs) (passes x) (all-true p passes xs)

pub sum-of-map : {X Y : Type 0} (f : Y → ℕ) (g : X → Y) (xs : List X) → sum_by f (map g xs) ≡ sum_by (λ x. f (g x)) xs
sum-of-map f g [] = refl
sum-of-map f g (x ∷ xs) = rw (sum_by-cons f (g x) (map g xs), sum_by-cons (λ x. f (g x)) x xs, sum-of-map f g xs) refl

pub any-push : {X : Type 0} (p : X → Bool) (xs : List X) (x : X) → list_any p (xs ++ x ∷ []) ≡ (list_any p xs || p x)
any-push p [] x = or-none (p x)
any-push p (y ∷ ys) x =
    elim (p y) as (λ b. (b || list_any p (ys ++ x ∷ [])) ≡ ((b || list_any p ys) || p x)) [ true ↦ refl | false ↦ any-push p ys x ]

pub count-none : {X : Type 0} (p : X → Bool) (xs : List X) → list_any p xs ≡ false → count_by p xs ≡ 0
count-none p [] e = refl
count-none p (x ∷ xs) e =
    let both = or_parts (p x) (list_any p xs) e in
    count-cons p x xs ∙ rw (both.0, count-none p xs both.1) refl

pub all-equal : {X : Type 0} (p q : X → Bool) → ((x : X) → p x ≡ q x) → (xs : List X) → list_all p xs ≡ list_all q xs
all-equal p q same [] = refl
all-equal p q same (x ∷ xs) = rw (same x, all-equal p q same xs) refl

any-equal : {X : Type 0} (p q : X → Bool) → ((x : X) → p x ≡ q x) → (xs : List X) → list_any p xs ≡ list_any q xs
any-equal p q same [] = refl
any-equal p q same (x ∷ xs) = rw (same x, any-equal p q same xs) refl

pub none_meets-equal : {X : Type 0} (meets other : X → X → Bool) → ((x y : X) → meets x y ≡ other x y) → (earlier xs : List X)
    → none_meets meets earlier xs ≡ none_meets other earlier xs
none_meets-equal meets other same earlier [] = refl
none_meets-equal meets other same earlier (x ∷ xs) =
    rw (any-equal (meets x) (other x) (same x) earlier, none_meets-equal meets other same (earlier ++ x ∷ []) xs) refl
