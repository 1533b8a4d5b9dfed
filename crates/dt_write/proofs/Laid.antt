-- Names behind one another, and their places.
use Rattle.std.proofs.Common.{◌≡◌, ℕ, ◌+◌, ◌≤◌, Bool, true, false, ◌||◌, List, [], ◌∷◌, ◌++◌, length, map, Some, None, cond, refl, sym, ap, ◌∙◌, arith, append-nil, length-append, zero-add}
use Rattle.std.specs.Borrow.{Bor}
use Rattle.std.specs.Str.{bytes_eq}
use Rattle.std.specs.Map.{lookup}
use Rattle.std.specs.Cmp.Lexicographic.{nat_list_eq_equiv}
use Rattle.dt_model.specs.Name.{has}
use Rattle.dt_model.proofs.Names.{bytes_eq-sym}
use Rattle.dt_model.specs.Canonical.{with_name, offset_of, strings_of, most_bytes}
use Rattle.indexmap.specs.IndexMap.{insert_entry}
use Rattle.dt_write.specs.Names.{names_in, ArePlaces, AreLaidOut}

neither : (a b : Bool) → (a || b) ≡ false → (a ≡ false) × (b ≡ false)
neither false b h = (refl, h)
neither true b h = absurd (cc)

by_name : (entry : Bor (List ℕ) × ℕ) (entries : List (Bor (List ℕ) × ℕ)) (place : ℕ) (name : List ℕ) (b : Bool) → bytes_eq entry.0.now name ≡ b → entry.1 ≡ place
    → lookup (λ (k : Bor (List ℕ)). bytes_eq name k.now) entries
    ≡ cond (has (names_in entries) name) (Some (place + (length entry.0.now + 1) + offset_of (names_in entries) name)) None
    → cond (bytes_eq name entry.0.now) (Some entry.1) (lookup (λ (k : Bor (List ℕ)). bytes_eq name k.now) entries)
    ≡ cond (bytes_eq entry.0.now name || has (names_in entries) name) (Some (place + cond (bytes_eq entry.0.now name) 0 (length entry.0.now + 1 + offset_of (names_in entries) name))) None
by_name entry entries place name true same is others =
    let here : bytes_eq name entry.0.now ≡ true = bytes_eq-sym name entry.0.now ∙ same in
    let at : entry.1 ≡ place + 0 = omega arith in
    rw (here, same) (ap (λ n. Some n) at)
by_name entry entries place name false other is others =
    let there : bytes_eq name entry.0.now ≡ false = bytes_eq-sym name entry.0.now ∙ other in
    let n = offset_of (names_in entries) name in
    let at : place + (length entry.0.now + 1) + n ≡ place + (length entry.0.now + 1 + n) = omega arith in
    rw (there, other) (others ∙ ap (λ m. cond (has (names_in entries) name) (Some m) None) at)

-- a look-up gives the name's place
found_from : (entries : List (Bor (List ℕ) × ℕ)) (place : ℕ) (name : List ℕ) → ArePlaces place entries
    → lookup (λ (k : Bor (List ℕ)). bytes_eq name k.now) entries ≡ cond (has (names_in entries) name) (Some (place + offset_of (names_in entries) name)) None
found_from [] place name laid = refl
found_from (entry ∷ entries) place name laid =
    by_name entry entries place name _ refl laid.0 (found_from entries (place + (length entry.0.now + 1)) name laid.1)

pub found : (entries : List (Bor (List ℕ) × ℕ)) (end : ℕ) (name : List ℕ) → AreLaidOut entries end
    → lookup (λ (k : Bor (List ℕ)). bytes_eq name k.now) entries ≡ cond (has (names_in entries) name) (Some (offset_of (names_in entries) name)) None
found entries end name laid =
    found_from entries 0 name laid.places ∙ ap (λ n. cond (has (names_in entries) name) (Some n) None) (zero-add (offset_of (names_in entries) name))

-- ---- one more name

pub names_push : (entries : List (Bor (List ℕ) × ℕ)) (entry : Bor (List ℕ) × ℕ) → names_in (entries ++ entry ∷ []) ≡ names_in entries ++ entry.0.now ∷ []
names_push [] entry = refl
names_push (first ∷ entries) entry = ap (λ names. first.0.now ∷ names) (names_push entries entry)

pub strings_push : (names : List (List ℕ)) (name : List ℕ) → length (strings_of (names ++ name ∷ [])) ≡ length (strings_of names) + (length name + 1)
strings_push [] name = omega (arith, length-append name (0 ∷ []), ap length (append-nil (name ++ 0 ∷ [])))
strings_push (first ∷ names) name =
    omega (arith, length-append (first ++ 0 ∷ []) (strings_of (names ++ name ∷ [])), length-append (first ++ 0 ∷ []) (strings_of names), strings_push names name)

places_push : (entries : List (Bor (List ℕ) × ℕ)) (entry : Bor (List ℕ) × ℕ) (place : ℕ) → ArePlaces place entries
    → entry.1 ≡ place + length (strings_of (names_in entries)) → ArePlaces place (entries ++ entry ∷ [])
places_push [] entry place laid at = (omega arith, tt)
places_push (first ∷ entries) entry place laid at =
    let behind : entry.1 ≡ place + (length first.0.now + 1) + length (strings_of (names_in entries)) =
    omega (arith, length-append (first.0.now ++ 0 ∷ []) (strings_of (names_in entries)), length-append first.0.now (0 ∷ [])) in
    (laid.0, places_push entries entry (place + (length first.0.now + 1)) laid.1 behind)

pub laid_more : (entries : List (Bor (List ℕ) × ℕ)) (end : ℕ) (name : Bor (List ℕ)) → AreLaidOut entries end → end + (length name.now + 1) ≤ most_bytes
    → AreLaidOut (entries ++ (name, end) ∷ []) (end + (length name.now + 1))
laid_more entries end name laid room =
    let at : end ≡ 0 + length (strings_of (names_in entries)) = omega (arith, laid.end_is) in
    record {
      places = places_push entries (name, end) 0 laid.places at;
      end_is = rw names_push (ap (λ n. n + (length name.now + 1)) laid.end_is ∙ sym (strings_push (names_in entries) name.now));
      few = room;
    }

-- the place of a new name is behind the others
pub offset_new : (names : List (List ℕ)) (name : List ℕ) → has names name ≡ false → offset_of (names ++ name ∷ []) name ≡ length (strings_of names)
offset_new [] name new = rw (nat_list_eq_equiv.refl name) refl
offset_new (first ∷ names) name new =
    let parts = neither (bytes_eq first name) (has names name) new in
    rw parts.0 (ap (λ n. length first + 1 + n) (offset_new names name parts.1)
    ∙ omega (arith, length-append (first ++ 0 ∷ []) (strings_of names), length-append first (0 ∷ [])))

pub offset_with : (names : List (List ℕ)) (name : List ℕ) → has names name ≡ false → offset_of (with_name names name) name ≡ length (strings_of names)
offset_with names name new = rw new (offset_new names name new)

-- nothing is found exactly where there is nothing
pub absent : (b : Bool) (n : ℕ) → None ≡ cond b (Some n) None → b ≡ false
absent true n h = absurd (cc)
absent false n h = refl

-- a new key goes last
pub added : (entries : List (Bor (List ℕ) × ℕ)) (name : Bor (List ℕ)) (place : ℕ) → has (names_in entries) name.now ≡ false
    → insert_entry (λ (a b : Bor (List ℕ)). bytes_eq a.now b.now) entries name place ≡ entries ++ (name, place) ∷ []
added [] name place new = refl
added (first ∷ entries) name place new =
    let parts = neither (bytes_eq first.0.now name.now) (has (names_in entries) name.now) new in
    let other : bytes_eq name.now first.0.now ≡ false = bytes_eq-sym name.now first.0.now ∙ parts.0 in
    rw other (ap (λ es. first ∷ es) (added entries name place parts.1))

-- the names are those of the keys
pub key_names : (entries : List (Bor (List ℕ) × ℕ)) → map (λ (key : Bor (List ℕ)). key.now) (map (λ (e : Bor (List ℕ) × ℕ). e.0) entries) ≡ names_in entries
key_names [] = refl
key_names (entry ∷ entries) = ap (λ names. entry.0.now ∷ names) (key_names entries)
