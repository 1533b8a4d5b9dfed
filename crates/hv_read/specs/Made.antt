-- Nodes of trees as definitions make them.
use Rattle.std.proofs.Common.{◌≡◌, ℕ, ◌<◌, ◌^◌, true, false, List, [], length, ltb, refl, Global, Vec, arith}
use Rattle.std.proofs.lemmas.Bool.{ltb-true}
use Rattle.dt_model.specs.declared.tree.Node.{Node}
use Rattle.dt_model.specs.declared.tree.Node.TheViews.{roll-Node}
use Rattle.dt_model.specs.declared.tree.Property.{Property}
use denote.RawPtr.{null_ptr}

-- A vector holds no more elements than memory can have bytes. Where they stand means nothing here.
abbrev pub vector : {X : Type 0} (xs : List X) → length xs < 2 ^ 63 → Vec X Global
vector xs few = record { ptr = null_ptr; len = length xs; cap = length xs; alloc = record { memory = record { seal = tt } }; items = xs; ok = (refl, omega arith); small = few }

abbrev pub empty_vector : {X : Type 0} → Vec X Global
empty_vector {X} = vector {X = X} [] (omega arith)

-- the vector of these elements; of more than a vector can hold, the empty one
unfoldable pub vector_of : {X : Type 0} → List X → Vec X Global
vector_of {X} xs =
    elim (ltb (length xs) (2 ^ 63)) as (λ b. ltb (length xs) (2 ^ 63) ≡ b → Vec X Global)
    [ true ↦ λ few. vector xs (ltb-true (length xs) (2 ^ 63) few) | false ↦ λ many. empty_vector {X = X} ] refl

-- the node with these properties and children
unfoldable pub node_of : List ℕ → List Property → List Node → Node
node_of name props children = roll-Node (record { name = name; props = vector_of props; children = vector_of children })
