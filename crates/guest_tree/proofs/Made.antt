-- The tokens of nodes that are made.
use Rattle.std.proofs.Common.{◌≡◌, List, [], ◌∷◌, ◌++◌, ap, ◌∙◌, append_assoc, append-nil}
use Rattle.std.specs.List.{flat_map}
use Rattle.dt_model.specs.declared.tree.Node.{Node}
use Rattle.dt_model.specs.Token.{Token}
use Rattle.dt_model.specs.Node.{node_tokens}

-- ---- lists that grow

pub pushed-twice : {X : Type 0} (xs ys zs : List X) (x y : X) → ys ≡ xs ++ x ∷ [] → zs ≡ ys ++ y ∷ [] → zs ≡ xs ++ x ∷ y ∷ []
pushed-twice {X} xs ys zs x y e f = f ∙ ap (λ (l : List X). l ++ y ∷ []) e ∙ append_assoc xs (x ∷ []) (y ∷ [])

pub five-nodes : (a b c d e : Node) → flat_map node_tokens (a ∷ b ∷ c ∷ d ∷ e ∷ []) ≡ node_tokens a ++ (node_tokens b ++ (node_tokens c ++ (node_tokens d ++ node_tokens e)))
five-nodes a b c d e = ap (λ (tokens : List Token). node_tokens a ++ (node_tokens b ++ (node_tokens c ++ (node_tokens d ++ tokens)))) (append-nil (node_tokens e))
