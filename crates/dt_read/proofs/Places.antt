-- What is known at each kind of place.
use Rattle.std.proofs.Common.{◌≡◌, ℕ, ◌<◌, List, [], Vec, Global, sym, ap, subst, ◌∙◌, arith}
use Rattle.dt_model.specs.declared.Node.{Node}
use Rattle.dt_model.specs.Token.{Token, onto}
use Rattle.dt_model.specs.Node.{node_tokens}
use Rattle.dt_model.specs.Rule.{node_count, depth}
use Rattle.dt_read.specs.declared.builder.Open.{Open}
use Rattle.dt_read.specs.declared.builder.Place.{Place}
use Rattle.dt_read.specs.declared.builder.Place.TheVariants.{Before, Inside, After}
use Rattle.dt_read.specs.Built.{so_far, IsBuilt, IsWithin, IsClosed}

pub at_before : (place : Place) (t : List Token) → place ≡ Before → so_far place ≡ t → t ≡ []
at_before place t is view = sym view ∙ ap so_far is

pub at_after : (place : Place) (nodes properties : ℕ) (t : List Token) (root : Node) → place ≡ After root → so_far place ≡ t → IsBuilt place nodes properties → IsClosed t × (t ≡ onto (node_tokens root) [])
at_after place nodes properties t root is view built =
    let e : t ≡ onto (node_tokens root) [] = sym view ∙ ap so_far is in
    (subst IsClosed (sym e) (subst (λ (p : Place). IsBuilt p nodes properties) is built), e)

pub at_inside : (place : Place) (nodes properties : ℕ) (t : List Token) (outer : Vec Open Global) (here : Open) → place ≡ Inside outer here → so_far place ≡ t → IsBuilt place nodes properties
    → (0 < node_count t) × (0 < depth t)
at_inside place nodes properties t outer here is view built =
    let within : IsWithin outer.items here nodes properties = subst (λ (p : Place). IsBuilt p nodes properties) is built in
    let e : so_far (Inside outer here) ≡ t = sym (ap so_far is) ∙ view in
    subst (λ (u : List Token). (0 < node_count u) × (0 < depth u)) e (omega (arith, within.begun, within.nodes_is), omega (arith, within.depth_is))
