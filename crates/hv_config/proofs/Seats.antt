-- What stands below a node is, child by child, its seat and what is below it.
use Rattle.std.proofs.Common.{◌≡◌, ℕ, ◌+◌, ◌<◌, Bool, true, false, cond, List, [], ◌∷◌, ◌++◌, map, length, get_or, drop, refl, sym, ap, ◌∙◌}
use Rattle.std.proofs.lemmas.List.{drop_more}
use Rattle.std.specs.Prelude.{if◌then◌else◌}
use Rattle.std.specs.List.{flat_map}
use Rattle.dt_model.specs.declared.tree.Node.{Node}
use Rattle.dt_model.specs.declared.tree.Node.TheOpen.{Node-F}
use Rattle.dt_model.specs.declared.tree.Node.TheViews.{out-Node, roll-Node, roll-out-Node}
use Rattle.dt_model.specs.declared.tree.Node.TheFolds.{para-roll-Node}
use Rattle.hv_config.specs.declared.role.Role.{Role}
use Rattle.hv_config.specs.Role.{is_stranger}
use Rattle.hv_config.specs.Seat.{Seat, Walk, below_step, seats_below, seats_at}

abbrev pub all_below : Role → List ℕ → List Node → List Seat
all_below role before [] = []
all_below role before (child ∷ others) = seats_at role before (child, seats_below child) ++ all_below role before others

flat_map-pairs : (role : Role) (before : List ℕ) (children : List Node)
    → flat_map (seats_at role before) (map (λ child. (child, seats_below child)) children) ≡ all_below role before children
flat_map-pairs role before [] = refl
flat_map-pairs role before (child ∷ others) = ap (λ (places : List Seat). seats_at role before (child, seats_below child) ++ places) (flat_map-pairs role before others)

abbrev pub below_or_none : Role → List Seat → List Seat
below_or_none role seats = if is_stranger role then [] else seats

seats_below-roll : (x : Node-F Node) (role : Role) (before : List ℕ) → seats_below (roll-Node x) role before ≡ below_or_none role (all_below role before x.children.items)
seats_below-roll x role before = ap (λ (f : Walk). f role before) (para-roll-Node Walk below_step x) ∙ ap (below_or_none role) (flat_map-pairs role before x.children.items)

seats_below-out : (node : Node) (role : Role) (before : List ℕ) → seats_below node role before ≡ below_or_none role (all_below role before (out-Node node).children.items)
seats_below-out node role before = ap (λ (n : Node). seats_below n role before) (sym (roll-out-Node node)) ∙ seats_below-roll (out-Node node) role before

pub nothing_below : (node : Node) (role : Role) (before : List ℕ) → is_stranger role ≡ true → seats_below node role before ≡ []
nothing_below node role before e = seats_below-out node role before ∙ ap (λ (b : Bool). cond b [] (all_below role before (out-Node node).children.items)) e

pub children_below : (node : Node) (role : Role) (before : List ℕ) → is_stranger role ≡ false → seats_below node role before ≡ all_below role before (out-Node node).children.items
children_below node role before e = seats_below-out node role before ∙ ap (λ (b : Bool). cond b [] (all_below role before (out-Node node).children.items)) e

-- one child more
pub child_below : (role : Role) (before : List ℕ) (items : List Node) (i : ℕ) (child : Node) → i < length items → child ≡ get_or items i child
    → all_below role before (drop i items) ≡ seats_at role before (child, seats_below child) ++ all_below role before (drop (i + 1) items)
child_below role before items i child lt is =
    ap (all_below role before) (drop_more items i child lt ∙ ap (λ (c : Node). c ∷ drop (i + 1) items) (sym is))
