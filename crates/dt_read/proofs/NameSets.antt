-- The keys of an ordered set of names, as a list of names.
use Rattle.std.proofs.Common.{◌≡◌, ℕ, Bool, true, false, List, [], ◌∷◌, map, refl, sym, ap, ◌∙◌, Bor, Ordering}
use Rattle.std.specs.Prelude.{◌||◌}
use Rattle.std.specs.List.{list_any}
use Rattle.std.specs.Str.{bytes_eq}
use Rattle.std.specs.Ordering.{nat_cmp, is_eq, match_ordering}
use Rattle.std.specs.BTreeSet.{insert_key}
use Rattle.std.specs.Cmp.Lexicographic.{slice_cmp}
use Rattle.std.specs.declared.cmp.Ordering.TheVariants.{Less, Equal, Greater}
use Rattle.std.proofs.lemmas.Map.Text.{is_eq-slice_cmp}
use Rattle.std.proofs.lemmas.Slice.Eq.{bytes_eq-Decides}
use Rattle.dt_model.specs.Name.{has}
use Rattle.dt_model.proofs.Names.{bytes_eq-sym}

abbrev by_bytes : Bor (List ℕ) → Bor (List ℕ) → Ordering
by_bytes x y = slice_cmp nat_cmp x.now y.now

abbrev pub seen : List (Bor (List ℕ)) → List (List ℕ)
seen = map (λ (k : Bor (List ℕ)). k.now)

-- what the set's look-up says
pub contains-is : (key : Bor (List ℕ)) (keys : List (Bor (List ℕ))) → list_any (λ k. is_eq (by_bytes key k)) keys ≡ has (seen keys) key.now
contains-is key [] = refl
contains-is key (k ∷ keys) = rw (is_eq-slice_cmp key.now k.now, bytes_eq-sym key.now k.now, contains-is key keys) refl

or-swap : (a b c : Bool) → (a || (b || c)) ≡ (b || (a || c))
or-swap true true c = refl
or-swap true false c = refl
or-swap false true c = refl
or-swap false false c = refl

or-again : (a b : Bool) → (a || b) ≡ (a || (a || b))
or-again true b = refl
or-again false b = refl

insert-go : (key k : Bor (List ℕ)) (keys others : List (Bor (List ℕ))) (name : List ℕ) → has (seen others) name ≡ (bytes_eq key.now name || has (seen keys) name)
    → (o : Ordering) → by_bytes key k ≡ o → has (seen (match_ordering o (key ∷ k ∷ keys) (k ∷ keys) (k ∷ others))) name ≡ (bytes_eq key.now name || (bytes_eq k.now name || has (seen keys) name))
insert-go key k keys others name more Less e = refl
insert-go key k keys others name more Equal e =
    let same : key.now ≡ k.now = (bytes_eq-Decides key.now k.now).0 (sym (is_eq-slice_cmp key.now k.now) ∙ ap is_eq e) in
    rw same (or-again (bytes_eq k.now name) (has (seen keys) name))
insert-go key k keys others name more Greater e = ap (λ b. bytes_eq k.now name || b) more ∙ or-swap (bytes_eq k.now name) (bytes_eq key.now name) (has (seen keys) name)

pub has-insert_key : (key : Bor (List ℕ)) (keys : List (Bor (List ℕ))) (name : List ℕ) → has (seen (insert_key by_bytes keys key)) name ≡ (bytes_eq key.now name || has (seen keys) name)
has-insert_key key [] name = refl
has-insert_key key (k ∷ keys) name = insert-go key k keys (insert_key by_bytes keys key) name (has-insert_key key keys name) (by_bytes key k) refl
