-- The nodes of a tree that isn't deep, found level by level.
use Rattle.std.proofs.Common.{◌≡◌, ℕ, zero, suc, Bool, true, false, cond, List, [], ◌∷◌, ◌++◌, refl, ap, ◌∙◌}
use Rattle.std.specs.List.{list_all}
use Rattle.std.proofs.lemmas.Bool.{and_parts}
use Rattle.dt_model.specs.declared.tree.Node.{Node}
use Rattle.dt_model.specs.Node.{name_of, child_path}
use Rattle.hv_config.specs.declared.role.Role.{Role}
use Rattle.hv_config.specs.declared.role.Role.TheVariants.{Root}
use Rattle.hv_config.specs.Role.{child_role, is_stranger}
use Rattle.hv_config.specs.Seat.{Seat, Walk, child_seat, seats_below}
use Rattle.hv_config.specs.Meaning.{children_of}
use Rattle.hv_config.proofs.Seats.{all_below, nothing_below, children_below}
use Rattle.hv_read.proofs.Config.{root_seats}

abbrev pub is_empty : List Node → Bool
is_empty [] = true
is_empty (node ∷ nodes) = false

-- so many levels are below the node, or fewer
abbrev pub is_shallow : ℕ → Node → Bool
is_shallow zero node = is_empty (children_of node)
is_shallow (suc levels) node = list_all (is_shallow levels) (children_of node)

abbrev among : (Node → Walk) → Role → List ℕ → List Node → List Seat
among below role before [] = []
among below role before (child ∷ others) =
    (child_seat role before child ∷ below child (child_role role (name_of child)) (child_path before child)) ++ among below role before others

-- what is found on so many levels
abbrev pub seats_to : ℕ → Node → Walk
seats_to zero node role before = []
seats_to (suc levels) node role before = cond (is_stranger role) [] (among (seats_to levels) role before (children_of node))

none-below : (nodes : List Node) → is_empty nodes ≡ true → (role : Role) (before : List ℕ) → all_below role before nodes ≡ []
none-below [] e role before = refl
none-below (node ∷ nodes) e role before = absurd cc

all-found : (levels : ℕ) → ((node : Node) → is_shallow levels node ≡ true → (role : Role) (before : List ℕ) → seats_below node role before ≡ seats_to levels node role before)
    → (nodes : List Node) → list_all (is_shallow levels) nodes ≡ true
    → (role : Role) (before : List ℕ) → all_below role before nodes ≡ among (seats_to levels) role before nodes
all-found levels found [] e role before = refl
all-found levels found (child ∷ others) e role before =
    let both = and_parts (is_shallow levels child) (list_all (is_shallow levels) others) e in
    (λ i. (child_seat role before child ∷ found child both.0 (child_role role (name_of child)) (child_path before child) i) ++ all-found levels found others both.1 role before i)

pub seats-found : (levels : ℕ) (node : Node) → is_shallow levels node ≡ true → (role : Role) (before : List ℕ) → seats_below node role before ≡ seats_to levels node role before
seats-found zero node e role before =
    elim (is_stranger role) as (λ b. is_stranger role ≡ b → seats_below node role before ≡ [])
    [ true ↦ λ s. nothing_below node role before s | false ↦ λ s. children_below node role before s ∙ none-below (children_of node) e role before ] refl
seats-found (suc levels) node e role before =
    elim (is_stranger role) as (λ b. is_stranger role ≡ b → seats_below node role before ≡ cond b [] (among (seats_to levels) role before (children_of node))) [
      | true ↦ λ s. nothing_below node role before s
      | false ↦ λ s. children_below node role before s ∙ all-found levels (λ n d r b. seats-found levels n d r b) (children_of node) e role before
    ] refl

abbrev pub root_seats_to : ℕ → Node → List Seat
root_seats_to levels root = record { role = Root; before = []; node = root } ∷ seats_to levels root Root []

pub root-found : (levels : ℕ) (root : Node) → is_shallow levels root ≡ true → root_seats root ≡ root_seats_to levels root
root-found levels root e = ap (λ (below : List Seat). record { role = Root; before = []; node = root } ∷ below) (seats-found levels root e Root [])
