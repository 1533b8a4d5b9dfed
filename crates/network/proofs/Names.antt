-- What names are, one by one.
use Rattle.std.proofs.Common.{◌≡◌, ℕ, zero, suc, ◌<◌, Bool, true, false, not, ◌||◌, List, [], ◌∷◌, length, Some, refl, sym, ◌∙◌, ◌⊎◌, ⊎_elim, arith}
use Rattle.std.proofs.lemmas.Bool.{false≢true, cases_order, and_parts}
use Rattle.std.proofs.lemmas.Slice.Eq.{bytes_eq-Decides}
use Rattle.std.proofs.lemmas.Bool.Decides.{same_from_decides}
use Rattle.std.specs.Prelude.{codes, bytes_eq, slice_get, slice_index_or}
use Rattle.std.specs.List.{list_all}
use Rattle.machine_desc.specs.declared.desc.Desc.{Desc}
use Rattle.machine_desc.specs.Ranges.{none_meets}
use Rattle.machine_desc.proofs.Apart.{earlier_apart}
use Rattle.network.specs.Network.{no_desc}
use Rattle.network.specs.Laws.{is_word, is_taken, is_name, have_name}
use Rattle.network.proofs.Reading.{are_plain}

pub same_bytes : (word : List ℕ) → bytes_eq word word ≡ true
same_bytes word = (bytes_eq-Decides word word).1 refl

pub swapped : (one other : List ℕ) → bytes_eq one other ≡ bytes_eq other one
swapped one other =
    same_from_decides (bytes_eq one other) (bytes_eq other one) (bytes_eq-Decides one other) (let d = bytes_eq-Decides other one in ((λ h. sym (d.0 h)), (λ h. d.1 (sym h))))

not_parts : (b : Bool) → not b ≡ true → b ≡ false
not_parts true h = absurd (false≢true h)
not_parts false h = refl

or_parts : (a b : Bool) → (a || b) ≡ false → (a ≡ false) × (b ≡ false)
or_parts true b h = absurd (false≢true (sym h))
or_parts false b h = (refl, h)

-- a name of a partition
pub record IsName (name : List ℕ) : Type 0 where
  pub some : bytes_eq name [] ≡ false
  pub plain : are_plain name ≡ true
  pub not_end : bytes_eq name (codes "end") ≡ false
  pub not_console : bytes_eq name (codes "console") ≡ false
  pub not_refused : bytes_eq name (codes "refused") ≡ false

name_parts : (desc : Desc) → is_name desc ≡ true → IsName desc.name
name_parts desc h =
    let p = and_parts (is_word desc.name) (not (is_taken desc.name)) h in
    let w = and_parts (not (bytes_eq desc.name [])) (are_plain desc.name) p.0 in
    let t = or_parts (bytes_eq desc.name (codes "end")) (bytes_eq desc.name (codes "console") || bytes_eq desc.name (codes "refused")) (not_parts _ p.1) in
    let u = or_parts (bytes_eq desc.name (codes "console")) (bytes_eq desc.name (codes "refused")) t.1 in
    record { some = not_parts _ w.0; plain = w.1; not_end = t.0; not_console = u.0; not_refused = u.1 }

pub name_at : (descs : List Desc) (part : ℕ) → list_all is_name descs ≡ true → part < length descs → IsName (slice_index_or descs part no_desc).name
name_at [] part h here = absurd (omega arith)
name_at (desc ∷ descs) zero h here = name_parts desc (and_parts (is_name desc) (list_all is_name descs) h).0
name_at (desc ∷ descs) (suc part) h here = name_at descs part (and_parts (is_name desc) (list_all is_name descs) h).1 (omega arith)

pub word_plain : (word : List ℕ) → is_word word ≡ true → are_plain word ≡ true
word_plain word h = (and_parts (not (bytes_eq word [])) (are_plain word) h).1

-- what stands at a place
there : (descs : List Desc) (part : ℕ) → part < length descs → slice_get descs part ≡ Some (slice_index_or descs part no_desc)
there [] part here = absurd (omega arith)
there (desc ∷ descs) zero here = refl
there (desc ∷ descs) (suc part) here = there descs part (omega arith)

pub names_differ : (descs : List Desc) (one other : ℕ) → none_meets have_name [] descs ≡ true → one < length descs → other < length descs → (one ≡ other → ⊥)
    → bytes_eq (slice_index_or descs one no_desc).name (slice_index_or descs other no_desc).name ≡ false
names_differ descs one other h here there_too ne =
    let at = there descs one here in
    let beyond = there descs other there_too in
    ⊎_elim (λ (same : one ≡ other). absurd (ne same))
    (
    λ (apart : (one < other) ⊎ (other < one)). ⊎_elim
    (λ (l : one < other). swapped (slice_index_or descs one no_desc).name (slice_index_or descs other no_desc).name ∙ earlier_apart have_name [] descs one other _ _ h at beyond l)
    (λ (l : other < one). earlier_apart have_name [] descs other one _ _ h beyond at l) apart
    )
    (cases_order one other)

-- beyond the last partition names are empty
pub no_name : (descs : List Desc) (part : ℕ) → (part < length descs → ⊥) → (slice_index_or descs part no_desc).name ≡ []
no_name [] part h = refl
no_name (desc ∷ descs) zero h = absurd (h (omega arith))
no_name (desc ∷ descs) (suc part) h = no_name descs part (λ l. h (omega arith))
