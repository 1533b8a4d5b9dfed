-- How many bytes the blob of a guest tree has.
use Rattle.std.proofs.Common.{◌≡◌, ℕ, ◌+◌, ◌≤◌, true, false, cond, List, [], ◌∷◌, ◌++◌, length, refl, arith, length-append}
use Rattle.std.specs.Prelude.{replicate}
use Rattle.std.proofs.lemmas.List.{length-replicate}
use Rattle.dt_model.specs.Name.{has}
use Rattle.dt_model.specs.Token.{Token, BeginNode, Prop, EndNode, Nop, Finish}
use Rattle.dt_model.specs.Spelling.{padding, padded}
use Rattle.dt_model.specs.Canonical.{with_name, names_after, strings_of, spelling, structure_of, reserve_map_of, header_bytes, blob_saying}

-- at most so many bytes for a token, its property's name among the strings included
abbrev pub weight : Token → ℕ
weight (BeginNode name) = length name + 8
weight (Prop name value) = length value + length name + 16
weight EndNode = 4
weight Nop = 4
weight Finish = 4

abbrev pub weights : List Token → ℕ
weights [] = 0
weights (token ∷ tokens) = weight token + weights tokens

pub weights-append : (xs ys : List Token) → weights (xs ++ ys) ≡ weights xs + weights ys
weights-append [] ys = omega arith
weights-append (x ∷ xs) ys = omega (arith, weights-append xs ys)

pub length-weights : (tokens : List Token) → length tokens ≤ weights tokens
length-weights [] = omega arith
length-weights (BeginNode name ∷ tokens) = omega (arith, length-weights tokens)
length-weights (Prop name value ∷ tokens) = omega (arith, length-weights tokens)
length-weights (EndNode ∷ tokens) = omega (arith, length-weights tokens)
length-weights (Nop ∷ tokens) = omega (arith, length-weights tokens)
length-weights (Finish ∷ tokens) = omega (arith, length-weights tokens)

-- ---- spellings

below-4 : (n : ℕ) → padding n ≤ 3
below-4 n = omega arith

length-padded : (bytes : List ℕ) → length (padded bytes) ≤ length bytes + 3
length-padded bytes =
    omega (arith, length-append bytes (replicate (padding (length bytes)) 0), length-replicate {A = ℕ} (padding (length bytes)) 0, below-4 (length bytes))

-- what a token adds to the structure
abbrev own_weight : Token → ℕ
own_weight (BeginNode name) = length name + 8
own_weight (Prop name value) = length value + 15
own_weight token = 4

length-spelling : (names : List (List ℕ)) (token : Token) → length (spelling names token) ≤ own_weight token
unfolding spelling
length-spelling names (BeginNode name) = omega (arith, length-padded (name ++ 0 ∷ []), length-append name (0 ∷ []))
length-spelling names (Prop name value) = omega (arith, length-padded value)
length-spelling names EndNode = omega arith
length-spelling names Nop = omega arith
length-spelling names Finish = omega arith

strings-push : (names : List (List ℕ)) (name : List ℕ) → length (strings_of (names ++ name ∷ [])) ≡ length (strings_of names) + (length name + 1)
strings-push [] name = omega (arith, length-append (name ++ 0 ∷ []) [], length-append name (0 ∷ []))
strings-push (first ∷ names) name =
    omega (arith, strings-push names name, length-append (first ++ 0 ∷ []) (strings_of (names ++ name ∷ [])), length-append (first ++ 0 ∷ []) (strings_of names))

strings-with : (names : List (List ℕ)) (name : List ℕ) → length (strings_of (with_name names name)) ≤ length (strings_of names) + (length name + 1)
strings-with names name =
    elim (has names name) as (λ b. length (strings_of (cond b names (names ++ name ∷ []))) ≤ length (strings_of names) + (length name + 1)) [
      | true ↦ omega arith
      | false ↦ omega (arith, strings-push names name)
    ]

abbrev Sized : List (List ℕ) → List (List ℕ) → List Token → Type 0
Sized all names tokens = length (structure_of all tokens) + length (strings_of (names_after names tokens)) ≤ weights tokens + length (strings_of names)

sized : (all names : List (List ℕ)) (tokens : List Token) → Sized all names tokens
sized all names [] = omega arith
sized all names (BeginNode name ∷ tokens) =
    omega (arith, length-append (spelling all (BeginNode name)) (structure_of all tokens), length-spelling all (BeginNode name), sized all names tokens)
sized all names (Prop name value ∷ tokens) =
    omega (arith, length-append (spelling all (Prop name value)) (structure_of all tokens), length-spelling all (Prop name value), sized all (with_name names name) tokens, strings-with names name)
sized all names (EndNode ∷ tokens) =
    omega (arith, length-append (spelling all EndNode) (structure_of all tokens), length-spelling all EndNode, sized all names tokens)
sized all names (Nop ∷ tokens) =
    omega (arith, length-append (spelling all Nop) (structure_of all tokens), length-spelling all Nop, sized all names tokens)
sized all names (Finish ∷ tokens) =
    omega (arith, length-append (spelling all Finish) (structure_of all tokens), length-spelling all Finish, sized all names tokens)

length-header : (boot_cpu r s t : ℕ) → length (header_bytes boot_cpu r s t) ≡ 40
unfolding header_bytes
length-header boot_cpu r s t = refl

-- a blob without reserved memory
pub length-blob : (boot_cpu : ℕ) (tokens : List Token) → length (blob_saying boot_cpu [] tokens) ≤ weights tokens + 56
length-blob boot_cpu tokens =
    let names = names_after [] tokens in
    let structure = structure_of names tokens in
    let strings = strings_of names in
    let reserve = reserve_map_of [] in
    omega (
      arith,
      length-append (header_bytes boot_cpu (length reserve) (length structure) (length strings)) (reserve ++ (structure ++ strings)),
      length-header boot_cpu (length reserve) (length structure) (length strings),
      length-append reserve (structure ++ strings),
      length-append structure strings,
      sized names [] tokens,
    )
