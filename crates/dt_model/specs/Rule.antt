-- The rules that a token keeps in its place. A place is the list of the tokens before it, the nearest first, NOPs left
-- out (ePAPR 1.1, 8.4 "Structure Block").
use Rattle.std.specs.Prelude.{ℕ, zero, suc, ◌+◌, ◌-◌, Bool, true, false, ◌&&◌, not, nat_lt, if◌then◌else◌, List, [], ◌∷◌, length, Option, Some, None}
use Rattle.dt_model.specs.Name.{is_node_name, is_property_name, has}
use Rattle.dt_model.specs.Token.{Token, BeginNode, Prop, EndNode, Nop, Finish}

-- ---- what came before

-- how many nodes began
abbrev pub node_count : List Token → ℕ
node_count [] = 0
node_count (BeginNode name ∷ before) = node_count before + 1
node_count (token ∷ before) = node_count before

-- how many properties came
abbrev pub property_count : List Token → ℕ
property_count [] = 0
property_count (Prop name value ∷ before) = property_count before + 1
property_count (token ∷ before) = property_count before

-- how many nodes are open
abbrev pub depth : List Token → ℕ
depth [] = 0
depth (BeginNode name ∷ before) = depth before + 1
depth (EndNode ∷ before) = depth before - 1
depth (token ∷ before) = depth before

-- The names of the properties of the innermost open node, read backwards. The number is that of the nodes whose end was
-- read and whose beginning was not: what lies between belongs to them.
abbrev pub properties_back : ℕ → List Token → List (List ℕ)
properties_back ended [] = []
properties_back ended (EndNode ∷ before) = properties_back (suc ended) before
properties_back zero (BeginNode name ∷ before) = []
properties_back (suc ended) (BeginNode name ∷ before) = properties_back ended before
properties_back zero (Prop name value ∷ before) = name ∷ properties_back zero before
properties_back (suc ended) (Prop name value ∷ before) = properties_back (suc ended) before
properties_back ended (token ∷ before) = properties_back ended before

-- the names of its children, in the same way
abbrev pub children_back : ℕ → List Token → List (List ℕ)
children_back ended [] = []
children_back ended (EndNode ∷ before) = children_back (suc ended) before
children_back zero (BeginNode name ∷ before) = []
children_back (suc zero) (BeginNode name ∷ before) = name ∷ children_back zero before
children_back (suc (suc ended)) (BeginNode name ∷ before) = children_back (suc ended) before
children_back ended (token ∷ before) = children_back ended before

abbrev pub is_inside : List Token → Bool
is_inside before = nat_lt 0 (depth before)

abbrev pub is_begun : List Token → Bool
is_begun before = nat_lt 0 (node_count before)

abbrev pub is_none_of : List (List ℕ) → Bool
is_none_of [] = true
is_none_of (name ∷ names) = false

-- ---- which rule a token breaks there

-- a node with the name begins
unfoldable pub broken_by_begin : List Token → List ℕ → Option ℕ
broken_by_begin before name =
    if is_begun before && not (is_node_name name) then Some 9
    else if nat_lt 31 (depth before) then Some 10
    else if (if is_begun before then not (is_inside before) else nat_lt 0 (length name)) then Some 11
    else if nat_lt 65535 (node_count before) then Some 13
    else if has (children_back 0 before) name then Some 14
    else None

-- a property with the name comes
unfoldable pub broken_by_property : List Token → List ℕ → Option ℕ
broken_by_property before name =
    if not (is_property_name name) then Some 9
    else if not (is_inside before) then Some 11
    else if not (is_none_of (children_back 0 before)) then Some 12
    else if nat_lt 65535 (property_count before) then Some 13
    else if has (properties_back 0 before) name then Some 14
    else None

-- a node ends
unfoldable pub broken_by_end : List Token → Option ℕ
broken_by_end before = if is_inside before then None else Some 11

-- the tree ends
unfoldable pub broken_by_finish : List Token → Option ℕ
broken_by_finish before = if not (is_begun before) then Some 11 else if is_inside before then Some 12 else None

-- the least of the rules B9 to B14 that the token breaks
abbrev pub broken : List Token → Token → Option ℕ
broken before (BeginNode name) = broken_by_begin before name
broken before (Prop name value) = broken_by_property before name
broken before EndNode = broken_by_end before
broken before Nop = None
broken before Finish = broken_by_finish before

-- ---- a list of tokens

-- the first that there is
abbrev pub or_else : Option ℕ → Option ℕ → Option ℕ
or_else (Some rule) other = Some rule
or_else None other = other

-- the rule that the first faulty token breaks, after these tokens
abbrev pub first_broken : List Token → List Token → Option ℕ
first_broken before [] = None
first_broken before (Nop ∷ tokens) = first_broken before tokens
first_broken before (token ∷ tokens) = or_else (broken before token) (first_broken (token ∷ before) tokens)
