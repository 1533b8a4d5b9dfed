-- The other end of a channel's other end is this one, where each end is at one link.
use Rattle.std.proofs.Common.{◌≡◌, ℕ, ◌+◌, ◌≤◌, ◌==◌, Bool, true, false, cond, ◌&&◌, List, [], ◌∷◌, Option, Some, None, refl, sym, ap, subst, ◌∙◌, if◌then◌else◌, arith}
use Rattle.std.specs.Prelude.{count_by}
use Rattle.std.specs.List.{list_all}
use Rattle.std.proofs.lemmas.Bool.{and_parts, eqb-true, eq-eqb, false≢true}
use Rattle.std.proofs.lemmas.List.Sums.{sum_by-cons}
use Rattle.machine_desc.specs.declared.desc.Desc.{Desc}
use Rattle.machine_desc.specs.declared.wiring.PortRef.{PortRef}
use Rattle.machine_desc.specs.declared.wiring.End.{End}
use Rattle.machine_desc.specs.declared.wiring.End.TheVariants.{Part, Console}
use Rattle.machine_desc.specs.declared.wiring.Link.{Link}
use Rattle.machine_desc.specs.declared.wiring.Wiring.{Wiring}
use Rattle.machine_desc.specs.Joined.{same_ref, are_ends_apart, is_end as is_joined_end, is_link_joined}
use Rattle.network.specs.Network.{is_end, far_end, ref_to}

-- ---- ends

pub same_refs : (one other : PortRef) → same_ref one other ≡ true → one ≡ other
same_refs one other h =
    let p = and_parts (one.part == other.part) (one.handle == other.handle) h in
    ap (λ (n : ℕ). ref_to n one.handle) (eqb-true one.part other.part p.0) ∙ ap (ref_to other.part) (eqb-true one.handle other.handle p.1)

pub same_end : (one other : End) → is_end one other ≡ true → one ≡ other
same_end (Part one) (Part other) h = ap Part (same_refs one other h)
same_end (Console one) (Console other) h = ap Console (eqb-true one other h)
same_end (Part one) (Console other) h = absurd (false≢true h)
same_end (Console one) (Part other) h = absurd (false≢true h)

end_same : (end : End) → is_end end end ≡ true
end_same (Part ref) = rw (eq-eqb ref.part ref.part refl, eq-eqb ref.handle ref.handle refl) refl
end_same (Console console) = eq-eqb console console refl

is_true : (one other : End) → one ≡ other → is_end one other ≡ true
is_true one other q = subst (λ (e : End). is_end one e ≡ true) q (end_same one)

pub some_end : (one other : End) → Some one ≡ Some other → one ≡ other
some_end one other h = cc

none_some : (end : End) → None ≡ Some end → ⊥
none_some end h = cc

-- ---- how many ends of links an end is

abbrev pub ends_in : End → List Link → ℕ
ends_in end links = count_by (λ (link : Link). is_end end link.a) links + count_by (λ (link : Link). is_end end link.b) links

pub ends_more : (end : End) (link : Link) (links : List Link) → ends_in end (link ∷ links) ≡ (cond (is_end end link.a) 1 0 + cond (is_end end link.b) 1 0) + ends_in end links
ends_more end link links =
    let a : count_by (λ (l : Link). is_end end l.a) (link ∷ links) ≡ cond (is_end end link.a) 1 0 + count_by (λ (l : Link). is_end end l.a) links = sum_by-cons (λ (l : Link). cond (is_end end l.a) 1 0) link links in
    let b : count_by (λ (l : Link). is_end end l.b) (link ∷ links) ≡ cond (is_end end link.b) 1 0 + count_by (λ (l : Link). is_end end l.b) links = sum_by-cons (λ (l : Link). cond (is_end end l.b) 1 0) link links in
    omega (arith, a, b)

counts_one : {b : Bool} → b ≡ true → ◌≡◌ {A = ℕ} (cond b 1 0) 1
counts_one {b} h = ap {B = ℕ} (λ (x : Bool). cond x 1 0) h

abbrev AreOnce : List Link → Type 0
AreOnce links = (end : End) → ends_in end links ≤ 1

rest_once : (link : Link) (links : List Link) → AreOnce (link ∷ links) → AreOnce links
rest_once link links once end = let a = once end in let b = ends_more end link links in omega (arith, a, b)

one_of : (a b : Bool) (rest : ℕ) → (cond a 1 0 + cond b 1 0) + rest ≤ 1 → 1 ≤ rest → (a ≡ false) × (b ≡ false)
one_of true b rest h k = absurd (omega (arith, h, k))
one_of false true rest h k = absurd (omega (arith, h, k))
one_of false false rest h k = (refl, refl)

not_both : (a : Bool) (rest : ℕ) → (cond a 1 0 + 1) + rest ≤ 1 → a ≡ false
not_both true rest h = absurd (omega (arith, h))
not_both false rest h = refl

-- ---- the other end

-- by the tests on the first link
abbrev far_by : Bool → Bool → Link → List Link → End → Option End
far_by a b link links end = if a then Some link.b else if b then Some link.a else far_end links end

there_by : (a b : Bool) (link : Link) (links : List Link) (one other : End) → far_by a b link links one ≡ Some other → (far_end links one ≡ Some other → 1 ≤ ends_in other links) → 1 ≤ ends_in other (link ∷ links)
there_by true b link links one other h rest =
    let c = ends_more other link links in let d = counts_one (is_true other link.b (sym (some_end link.b other h))) in omega (arith, c, d)
there_by false true link links one other h rest =
    let c = ends_more other link links in let d = counts_one (is_true other link.a (sym (some_end link.a other h))) in omega (arith, c, d)
there_by false false link links one other h rest = let c = ends_more other link links in let d = rest h in omega (arith, c, d)

far_there : (links : List Link) (one other : End) → far_end links one ≡ Some other → 1 ≤ ends_in other links
far_there [] one other h = absurd (none_some other h)
far_there (link ∷ links) one other h = there_by (is_end one link.a) (is_end one link.b) link links one other h (far_there links one other)

both_by : (a b : Bool) (link : Link) (links : List Link) (one other : End) → is_end one link.a ≡ a → is_end one link.b ≡ b → AreOnce (link ∷ links) → far_by a b link links one ≡ Some other
    → (far_end links one ≡ Some other → far_end links other ≡ Some one) → far_end (link ∷ links) other ≡ Some one
both_by true b link links one other e f once h rest =
    let q : other ≡ link.b = sym (some_end link.b other h) in
    let n = once other in
    let c = ends_more other link links in
    let d = counts_one (is_true other link.b q) in
    let first : is_end other link.a ≡ false = not_both (is_end other link.a) (ends_in other links) (omega (arith, n, c, d)) in
    ap (λ (x : Bool). far_by x (is_end other link.b) link links other) first
    ∙ (ap (λ (x : Bool). far_by false x link links other) (is_true other link.b q) ∙ ap Some (sym (same_end one link.a e)))
both_by false true link links one other e f once h rest =
    let q : other ≡ link.a = sym (some_end link.a other h) in
    ap (λ (x : Bool). far_by x (is_end other link.b) link links other) (is_true other link.a q) ∙ ap Some (sym (same_end one link.b f))
both_by false false link links one other e f once h rest =
    let n = once other in
    let c = ends_more other link links in
    let p = one_of (is_end other link.a) (is_end other link.b) (ends_in other links) (omega (arith, n, c)) (far_there links one other h) in
    ap (λ (x : Bool). far_by x (is_end other link.b) link links other) p.0 ∙ (ap (λ (x : Bool). far_by false x link links other) p.1 ∙ rest h)

pub linked_both : (links : List Link) → AreOnce links → (one other : End) → far_end links one ≡ Some other → far_end links other ≡ Some one
linked_both [] once one other h = absurd (none_some other h)
linked_both (link ∷ links) once one other h = both_by (is_end one link.a) (is_end one link.b) link links one other refl refl once h (linked_both links (rest_once link links once) one other)

-- an end of a link has another end
found_more : (a b : Bool) (link : Link) (links : List Link) (one : End) → 1 ≤ (cond a 1 0 + cond b 1 0) + ends_in one links → (1 ≤ ends_in one links → (end : End) × (far_end links one ≡ Some end))
    → (end : End) × (far_by a b link links one ≡ Some end)
found_more true b link links one h rest = (link.b, refl)
found_more false true link links one h rest = (link.a, refl)
found_more false false link links one h rest = rest (omega (arith, h))

pub far_found : (links : List Link) (one : End) → 1 ≤ ends_in one links → (end : End) × (far_end links one ≡ Some end)
far_found [] one h = absurd (omega (arith, h))
far_found (link ∷ links) one h =
    let c = ends_more one link links in found_more (is_end one link.a) (is_end one link.b) link links one (omega (arith, h, c)) (far_found links one)

-- ---- which ends links have

link_parts : (descs : List Desc) (wiring : Wiring) (link : Link) → is_link_joined descs wiring link ≡ true → (is_joined_end descs wiring link.a ≡ true) × (is_joined_end descs wiring link.b ≡ true)
link_parts descs wiring link h =
    let p = and_parts (is_joined_end descs wiring link.a && is_joined_end descs wiring link.b) (are_ends_apart link.a link.b) h in
    and_parts (is_joined_end descs wiring link.a) (is_joined_end descs wiring link.b) p.0

sort_by : (a b : Bool) (descs : List Desc) (wiring : Wiring) (link : Link) (links : List Link) (one other : End) → is_end one link.a ≡ a → is_end one link.b ≡ b → far_by a b link links one ≡ Some other
    → (is_joined_end descs wiring link.a ≡ true) × (is_joined_end descs wiring link.b ≡ true) → (far_end links one ≡ Some other → is_joined_end descs wiring one ≡ true) → is_joined_end descs wiring one ≡ true
sort_by true b descs wiring link links one other e f h p rest = ap (is_joined_end descs wiring) (same_end one link.a e) ∙ p.0
sort_by false true descs wiring link links one other e f h p rest = ap (is_joined_end descs wiring) (same_end one link.b f) ∙ p.1
sort_by false false descs wiring link links one other e f h p rest = rest h

pub far_sort : (descs : List Desc) (wiring : Wiring) (links : List Link) (one other : End) → list_all (is_link_joined descs wiring) links ≡ true → far_end links one ≡ Some other → is_joined_end descs wiring one ≡ true
far_sort descs wiring [] one other h e = absurd (none_some other e)
far_sort descs wiring (link ∷ links) one other h e =
    let p = and_parts (is_link_joined descs wiring link) (list_all (is_link_joined descs wiring) links) h in
    sort_by (is_end one link.a) (is_end one link.b) descs wiring link links one other refl refl e (link_parts descs wiring link p.0) (far_sort descs wiring links one other p.1)

none_by : (a b : Bool) (descs : List Desc) (wiring : Wiring) (link : Link) (links : List Link) (one : End) → is_end one link.a ≡ a → is_end one link.b ≡ b → is_joined_end descs wiring one ≡ false
    → (is_joined_end descs wiring link.a ≡ true) × (is_joined_end descs wiring link.b ≡ true) → ends_in one links ≡ 0 → (cond a 1 0 + cond b 1 0) + ends_in one links ≡ 0
none_by true b descs wiring link links one e f h p rest = absurd (false≢true (sym h ∙ (ap (is_joined_end descs wiring) (same_end one link.a e) ∙ p.0)))
none_by false true descs wiring link links one e f h p rest = absurd (false≢true (sym h ∙ (ap (is_joined_end descs wiring) (same_end one link.b f) ∙ p.1)))
none_by false false descs wiring link links one e f h p rest = omega (arith, rest)

pub none_in : (descs : List Desc) (wiring : Wiring) (links : List Link) (one : End) → list_all (is_link_joined descs wiring) links ≡ true → is_joined_end descs wiring one ≡ false → ends_in one links ≡ 0
none_in descs wiring [] one h k = refl
none_in descs wiring (link ∷ links) one h k =
    let p = and_parts (is_link_joined descs wiring link) (list_all (is_link_joined descs wiring) links) h in
    ends_more one link links
    ∙ none_by (is_end one link.a) (is_end one link.b) descs wiring link links one refl refl k (link_parts descs wiring link p.0) (none_in descs wiring links one p.1 k)
