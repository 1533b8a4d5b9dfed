-- Which rule a token breaks, from what the builder knows.
use Rattle.std.proofs.Common.{◌≡◌, ℕ, ◌<◌, ◌≤◌, true, false, length, List, [], Some, None, refl}
use Rattle.std.proofs.lemmas.Bool.{lt-ltb, le-ltb}
use Rattle.dt_model.specs.Name.{is_node_name, is_property_name, has}
use Rattle.dt_model.specs.Token.{Token}
use Rattle.dt_model.specs.Rule.{node_count, property_count, depth, properties_back, children_back, is_none_of, broken_by_begin, broken_by_property, broken_by_end, broken_by_finish}

-- ---- a node begins

pub root_named : (name : List ℕ) → 0 < length name → broken_by_begin [] name ≡ Some 11
unfolding broken_by_begin
root_named name named = rw (lt-ltb 0 (length name) named) refl

pub root_sound : (name : List ℕ) → length name ≡ 0 → broken_by_begin [] name ≡ None
unfolding broken_by_begin
root_sound name named = rw named refl

pub begin_9 : (t : List Token) (name : List ℕ) → 0 < node_count t → is_node_name name ≡ false → broken_by_begin t name ≡ Some 9
unfolding broken_by_begin
begin_9 t name begun bad = rw (lt-ltb 0 (node_count t) begun, bad) refl

pub begin_10 : (t : List Token) (name : List ℕ) → 0 < node_count t → is_node_name name ≡ true → 31 < depth t → broken_by_begin t name ≡ Some 10
unfolding broken_by_begin
begin_10 t name begun good deep = rw (lt-ltb 0 (node_count t) begun, good, lt-ltb 31 (depth t) deep) refl

pub begin_11 : (t : List Token) (name : List ℕ) → 0 < node_count t → is_node_name name ≡ true → depth t ≡ 0 → broken_by_begin t name ≡ Some 11
unfolding broken_by_begin
begin_11 t name begun good closed = rw (lt-ltb 0 (node_count t) begun, good, closed) refl

pub begin_13 : (t : List Token) (name : List ℕ) → 0 < node_count t → is_node_name name ≡ true → depth t ≤ 31 → 0 < depth t → 65535 < node_count t → broken_by_begin t name ≡ Some 13
unfolding broken_by_begin
begin_13 t name begun good shallow inside many =
    rw (lt-ltb 0 (node_count t) begun, good, le-ltb 31 (depth t) shallow, lt-ltb 0 (depth t) inside, lt-ltb 65535 (node_count t) many) refl

pub begin_14 : (t : List Token) (name : List ℕ) → 0 < node_count t → is_node_name name ≡ true → depth t ≤ 31 → 0 < depth t → node_count t ≤ 65535 → has (children_back 0 t) name ≡ true → broken_by_begin t name ≡ Some 14
unfolding broken_by_begin
begin_14 t name begun good shallow inside few again =
    rw (lt-ltb 0 (node_count t) begun, good, le-ltb 31 (depth t) shallow, lt-ltb 0 (depth t) inside, le-ltb 65535 (node_count t) few, again) refl

pub begin_sound : (t : List Token) (name : List ℕ) → 0 < node_count t → is_node_name name ≡ true → depth t ≤ 31 → 0 < depth t → node_count t ≤ 65535 → has (children_back 0 t) name ≡ false → broken_by_begin t name ≡ None
unfolding broken_by_begin
begin_sound t name begun good shallow inside few new =
    rw (lt-ltb 0 (node_count t) begun, good, le-ltb 31 (depth t) shallow, lt-ltb 0 (depth t) inside, le-ltb 65535 (node_count t) few, new) refl

-- ---- a property comes

pub property_9 : (t : List Token) (name : List ℕ) → is_property_name name ≡ false → broken_by_property t name ≡ Some 9
unfolding broken_by_property
property_9 t name bad = rw bad refl

pub property_11 : (t : List Token) (name : List ℕ) → is_property_name name ≡ true → depth t ≡ 0 → broken_by_property t name ≡ Some 11
unfolding broken_by_property
property_11 t name good closed = rw (good, closed) refl

pub property_12 : (t : List Token) (name : List ℕ) → is_property_name name ≡ true → 0 < depth t → is_none_of (children_back 0 t) ≡ false → broken_by_property t name ≡ Some 12
unfolding broken_by_property
property_12 t name good inside behind = rw (good, lt-ltb 0 (depth t) inside, behind) refl

pub property_13 : (t : List Token) (name : List ℕ) → is_property_name name ≡ true → 0 < depth t → is_none_of (children_back 0 t) ≡ true → 65535 < property_count t → broken_by_property t name ≡ Some 13
unfolding broken_by_property
property_13 t name good inside before many = rw (good, lt-ltb 0 (depth t) inside, before, lt-ltb 65535 (property_count t) many) refl

pub property_14 : (t : List Token) (name : List ℕ) → is_property_name name ≡ true → 0 < depth t → is_none_of (children_back 0 t) ≡ true → property_count t ≤ 65535 → has (properties_back 0 t) name ≡ true → broken_by_property t name ≡ Some 14
unfolding broken_by_property
property_14 t name good inside before few again = rw (good, lt-ltb 0 (depth t) inside, before, le-ltb 65535 (property_count t) few, again) refl

pub property_sound : (t : List Token) (name : List ℕ) → is_property_name name ≡ true → 0 < depth t → is_none_of (children_back 0 t) ≡ true → property_count t ≤ 65535 → has (properties_back 0 t) name ≡ false → broken_by_property t name ≡ None
unfolding broken_by_property
property_sound t name good inside before few new = rw (good, lt-ltb 0 (depth t) inside, before, le-ltb 65535 (property_count t) few, new) refl

-- ---- a node or the tree ends

pub end_11 : (t : List Token) → depth t ≡ 0 → broken_by_end t ≡ Some 11
unfolding broken_by_end
end_11 t closed = rw closed refl

pub end_sound : (t : List Token) → 0 < depth t → broken_by_end t ≡ None
unfolding broken_by_end
end_sound t inside = rw (lt-ltb 0 (depth t) inside) refl

pub finish_11 : broken_by_finish [] ≡ Some 11
unfolding broken_by_finish
finish_11 = refl

pub finish_12 : (t : List Token) → 0 < node_count t → 0 < depth t → broken_by_finish t ≡ Some 12
unfolding broken_by_finish
finish_12 t begun inside = rw (lt-ltb 0 (node_count t) begun, lt-ltb 0 (depth t) inside) refl

pub finish_sound : (t : List Token) → 0 < node_count t → depth t ≡ 0 → broken_by_finish t ≡ None
unfolding broken_by_finish
finish_sound t begun closed = rw (lt-ltb 0 (node_count t) begun, closed) refl
