-- Elements that are found by name, and their numbers.
use Rattle.std.proofs.Common.{◌≡◌, ℕ, suc, ◌+◌, Bool, true, false, ◌||◌, ◌==◌, List, [], ◌∷◌, Some, refl, sym, ap, subst, ◌∙◌, arith}
use Rattle.std.specs.Prelude.{find, slice_get, position}
use Rattle.std.specs.List.{list_any, position_from}
use Rattle.std.specs.Str.{bytes_eq}
use Rattle.std.proofs.lemmas.Slice.Eq.{bytes_eq-Decides}
use Rattle.std.proofs.lemmas.Bool.Decides.{Decides-eqb}
use Rattle.std.proofs.lemmas.Bool.{false_from_ne_true}
use Rattle.std.proofs.lemmas.Iterator.Adapters.{position_from-zero}
use Rattle.hv_config.specs.declared.config.AreaDef.{AreaDef}
use Rattle.config_checks.specs.Found.{is_area, has_area, size_of}
use Rattle.config_descs.specs.Numbered.{extent_of, base_of}

-- ---- names

pub same_name : (a b : List ℕ) → bytes_eq a b ≡ true → a ≡ b
same_name a b e = (bytes_eq-Decides a b).0 e

pub name-itself : (a : List ℕ) → bytes_eq a a ≡ true
name-itself a = (bytes_eq-Decides a a).1 refl

pub number-itself : (n : ℕ) → (n == n) ≡ true
number-itself n = (Decides-eqb n n).1 refl

-- ---- what is found

pub record Found (X : Type 0) (p : X → Bool) (xs : List X) : Type 0 where
  pub place : ℕ
  pub element : X
  pub number : position p xs ≡ Some place
  pub at : slice_get xs place ≡ Some element
  pub first : find p xs ≡ Some element
  pub passes : p element ≡ true

record FoundFrom (X : Type 0) (p : X → Bool) (k : ℕ) (xs : List X) : Type 0 where
  place : ℕ
  element : X
  number : position_from p k xs ≡ Some (k + place)
  at : slice_get xs place ≡ Some element
  first : find p xs ≡ Some element
  passes : p element ≡ true

found_from : {X : Type 0} (p : X → Bool) (k : ℕ) (xs : List X) → list_any p xs ≡ true → FoundFrom X p k xs
found_from p k [] e = absurd cc
found_from {X} p k (x ∷ xs) e =
    elim (p x) as (λ b. p x ≡ b → (b || list_any p xs) ≡ true → FoundFrom X p k (x ∷ xs)) [
      | true ↦ λ t e. record {
        place = 0;
        element = x;
        number = let same : k ≡ k + 0 = omega arith in rw t (ap (λ (n : ℕ). Some n) same);
        at = refl;
        first = rw t refl;
        passes = t;
      }
      | false ↦ λ t e.
          let below = found_from p (k + 1) xs e in
          let same : (k + 1) + below.place ≡ k + suc below.place = omega arith in
          record {
            place = suc below.place;
            element = below.element;
            number = rw t (below.number ∙ ap (λ (n : ℕ). Some n) same);
            at = below.at;
            first = rw t below.first;
            passes = below.passes;
          }
    ] refl e

pub found : {X : Type 0} (p : X → Bool) (xs : List X) → list_any p xs ≡ true → Found X p xs
found p xs e =
    let from = found_from p 0 xs e in
    let same : 0 + from.place ≡ from.place = omega arith in
    record {
      place = from.place;
      element = from.element;
      number = position_from-zero p xs ∙ from.number ∙ ap (λ (n : ℕ). Some n) same;
      at = from.at;
      first = from.first;
      passes = from.passes;
    }

-- ---- areas

abbrev pub FoundArea : List AreaDef → List ℕ → Type 0
FoundArea areas name = Found AreaDef (is_area name) areas

pub extent-found : (areas : List AreaDef) (name : List ℕ) (f : FoundArea areas name) → extent_of areas name ≡ f.place
extent-found areas name f = rw f.number refl

pub size-found : (areas : List AreaDef) (name : List ℕ) (f : FoundArea areas name) → size_of areas name ≡ f.element.size
size-found areas name f = rw f.first refl

pub base-found : (areas : List AreaDef) (name : List ℕ) (f : FoundArea areas name) → base_of areas name ≡ f.element.base
base-found areas name f = rw f.first refl

same_extent : (areas : List AreaDef) (a b : List ℕ) → FoundArea areas a → FoundArea areas b → extent_of areas a ≡ extent_of areas b → a ≡ b
same_extent areas a b f g e =
    let places : f.place ≡ g.place = sym (extent-found areas a f) ∙ e ∙ extent-found areas b g in
    let there : slice_get areas g.place ≡ Some f.element = subst (λ (n : ℕ). slice_get areas n ≡ Some f.element) places f.at in
    let elements : f.element ≡ g.element = let other = g.at in cc in
    sym (same_name f.element.name a f.passes) ∙ ap (λ (area : AreaDef). area.name) elements ∙ same_name g.element.name b g.passes

-- extents are the same exactly where names are
pub extents-names : (areas : List AreaDef) (a b : List ℕ) → has_area areas a ≡ true → has_area areas b ≡ true
    → (extent_of areas a == extent_of areas b) ≡ bytes_eq a b
extents-names areas a b ha hb =
    elim (bytes_eq a b) as (λ c. bytes_eq a b ≡ c → (extent_of areas a == extent_of areas b) ≡ c) [
      | true ↦ λ t. (Decides-eqb (extent_of areas a) (extent_of areas b)).1 (ap (extent_of areas) (same_name a b t))
      | false ↦ λ t. false_from_ne_true (extent_of areas a == extent_of areas b) (λ e.
          let same : a ≡ b = same_extent areas a b (found (is_area a) areas ha) (found (is_area b) areas hb) ((Decides-eqb (extent_of areas a) (extent_of areas b)).0 e) in
          let yes : bytes_eq a b ≡ true = (bytes_eq-Decides a b).1 same in
          absurd cc)
    ] refl
