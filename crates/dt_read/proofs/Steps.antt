-- What the builder keeps after one more token.
use Rattle.std.proofs.Common.{◌≡◌, ℕ, suc, ◌+◌, eqb, List, [], ◌∷◌, ◌++◌, map, length, Vec, Global, refl, sym, ap, subst, ◌∙◌, arith, length-append}
use Rattle.std.specs.Prelude.{fold, ◌||◌}
use Rattle.std.specs.List.{flat_map}
use Rattle.std.specs.Str.{bytes_eq}
use Rattle.std.proofs.lemmas.List.{map-append}
use Rattle.std.proofs.lemmas.List.Concat.{flat_map-append}
use Rattle.dt_model.specs.declared.Node.{Node}
use Rattle.dt_model.specs.declared.Node.TheOpen.{Node-F}
use Rattle.dt_model.specs.declared.Node.TheViews.{roll-Node}
use Rattle.dt_model.specs.declared.Property.{Property}
use Rattle.dt_model.specs.Name.{has}
use Rattle.dt_model.specs.Token.{Token, BeginNode, Prop, EndNode, onto}
use Rattle.dt_model.specs.Node.{property_token, node_tokens}
use Rattle.dt_model.specs.Rule.{children_back, is_none_of}
use Rattle.dt_model.proofs.Rules.{onto-append, behind, none_or_some, properties-children}
use Rattle.dt_read.specs.declared.builder.Open.{Open}
use Rattle.dt_read.specs.Built.{behind_open, behind_all, KnowsNames, AllKnow, IsWithin, IsClosed, IsFresh}

fold-push : (outer : List Open) (node : Open) (before : List Token) → fold behind_open before (outer ++ node ∷ []) ≡ behind_open (fold behind_open before outer) node
fold-push [] node before = refl
fold-push (x ∷ outer) node before = fold-push outer node (behind_open before x)

-- ---- a node begins

behind_fresh : (child : Open) (name : List ℕ) (before : List Token) → IsFresh child name → behind_open before child ≡ BeginNode name ∷ before
behind_fresh child name before fresh = rw (fresh.no_children, fresh.no_properties, fresh.name_is) refl

all_know-begin : (outer : List Open) (known : Open) (t : List Token) (name : List ℕ) → AllKnow outer t → KnowsNames known 1 (BeginNode name ∷ t) → AllKnow (outer ++ known ∷ []) (BeginNode name ∷ t)
all_know-begin [] known t name all knows = (knows, tt)
all_know-begin (node ∷ inner) known t name all knows =
    let level : length (inner ++ known ∷ []) ≡ suc (length inner) = omega (arith, length-append inner (known ∷ [])) in
    let here : KnowsNames node (suc (suc (length inner))) (BeginNode name ∷ t) = record { children = all.0.children; properties = all.0.properties } in
    (subst (λ (n : ℕ). KnowsNames node (suc n) (BeginNode name ∷ t)) (sym level) here, all_know-begin inner known t name all.1 knows)

pub begins : (outer : List Open) (here child : Open) (names : List (List ℕ)) (nodes properties : ℕ) (name : List ℕ) → IsWithin outer here nodes properties
    → ((other : List ℕ) → has names other ≡ (bytes_eq name other || has here.child_names other)) → IsFresh child name
    → behind_open (behind_all (outer ++ record here { child_names = names } ∷ [])) child ≡ BeginNode name ∷ behind_open (behind_all outer) here
begins outer here child names nodes properties name within more fresh =
    behind_fresh child name (behind_all (outer ++ record here { child_names = names } ∷ [])) fresh
    ∙ ap (λ (t : List Token). BeginNode name ∷ t) (fold-push outer (record here { child_names = names }) [])

pub within-begin : (outer : List Open) (here child : Open) (names : List (List ℕ)) (nodes properties : ℕ) (name : List ℕ) → IsWithin outer here nodes properties
    → ((other : List ℕ) → has names other ≡ (bytes_eq name other || has here.child_names other)) → IsFresh child name
    → IsWithin (outer ++ record here { child_names = names } ∷ []) child (nodes + 1) properties
within-begin outer here child names nodes properties name within more fresh =
    let t = behind_open (behind_all outer) here in
    let known : Open = record here { child_names = names } in
    let e = begins outer here child names nodes properties name within more fresh in
    let knows : KnowsNames known 1 (BeginNode name ∷ t) = record { children = λ other. more other ∙ ap (λ b. bytes_eq name other || b) (within.here_knows.children other); properties = within.here_knows.properties } in
    record {
      begun = omega arith;
      nodes_is = rw e (ap (λ n. n + 1) within.nodes_is);
      properties_is = rw e within.properties_is;
      depth_is = rw e (omega (arith, within.depth_is, length-append outer (known ∷ [])));
      here_knows = rw e (record { children = λ other. rw fresh.no_child_names refl; properties = λ other. rw fresh.no_property_names refl });
      outer_know = rw e (all_know-begin outer known t name within.outer_know knows);
    }

-- the root begins
pub begins_root : (outer : List Open) (root : Open) → outer ≡ [] → IsFresh root [] → behind_open (behind_all outer) root ≡ BeginNode [] ∷ []
begins_root outer root none fresh = rw none (behind_fresh root [] [] fresh)

pub within-root : (outer : List Open) (root : Open) → outer ≡ [] → IsFresh root [] → IsWithin outer root 1 0
within-root outer root none fresh =
    let e = begins_root outer root none fresh in
    record {
      begun = omega arith;
      nodes_is = rw e refl;
      properties_is = rw e refl;
      depth_is = rw (e, none) refl;
      here_knows = rw e (record { children = λ other. rw fresh.no_child_names refl; properties = λ other. rw fresh.no_property_names refl });
      outer_know = rw none tt;
    }

-- ---- a property comes

all_know-property : (outer : List Open) (t : List Token) (name value : List ℕ) → AllKnow outer t → AllKnow outer (Prop name value ∷ t)
all_know-property [] t name value all = tt
all_know-property (node ∷ inner) t name value all =
    (record { children = all.0.children; properties = all.0.properties }, all_know-property inner t name value all.1)

pub comes : (outer : List Open) (here : Open) (names : List (List ℕ)) (props : Vec Property Global) (property : Property) → here.children.items ≡ []
    → props.items ≡ here.props.items ++ property ∷ []
    → behind_open (behind_all outer) (record here { props = props; property_names = names }) ≡ Prop property.name property.value ∷ behind_open (behind_all outer) here
comes outer here names props property childless more =
    rw (childless, more, map-append property_token here.props.items (property ∷ []), onto-append (map property_token here.props.items) (property_token property ∷ []) (BeginNode here.name ∷ behind_all outer)) refl

pub within-property : (outer : List Open) (here : Open) (names : List (List ℕ)) (props : Vec Property Global) (property : Property) (nodes properties : ℕ) → IsWithin outer here nodes properties
    → here.children.items ≡ [] → props.items ≡ here.props.items ++ property ∷ []
    → ((other : List ℕ) → has names other ≡ (bytes_eq property.name other || has here.property_names other))
    → IsWithin outer (record here { props = props; property_names = names }) nodes (properties + 1)
within-property outer here names props property nodes properties within childless more known =
    let e = comes outer here names props property childless more in
    record {
      begun = within.begun;
      nodes_is = rw e within.nodes_is;
      properties_is = rw e (ap (λ n. n + 1) within.properties_is);
      depth_is = rw e within.depth_is;
      here_knows = rw e (record { children = within.here_knows.children; properties = λ other. known other ∙ ap (λ b. bytes_eq property.name other || b) (within.here_knows.properties other) });
      outer_know = rw e (all_know-property outer _ property.name property.value within.outer_know);
    }

-- ---- the children of the innermost open node

pub is_none_of-children : (before : List Token) (here : Open) → is_none_of (children_back 0 (behind_open before here)) ≡ eqb (length here.children.items) 0
is_none_of-children before here =
    none_or_some here.children.items (onto (map property_token here.props.items) (BeginNode here.name ∷ before)) (properties-children here.props.items (BeginNode here.name ∷ before) 0)

-- ---- a node ends

all_know-end : (outer : List Open) (parent : Open) (t : List Token) → AllKnow (outer ++ parent ∷ []) t → AllKnow outer (EndNode ∷ t) × KnowsNames parent 1 t
all_know-end [] parent t all = (tt, all.0)
all_know-end (node ∷ inner) parent t all =
    let level : length (inner ++ parent ∷ []) ≡ suc (length inner) = omega (arith, length-append inner (parent ∷ [])) in
    let here = subst (λ (n : ℕ). KnowsNames node (suc n) t) level all.0 in
    let rest = all_know-end inner parent t all.1 in
    ((record { children = here.children; properties = here.properties }, rest.0), rest.1)

pub ends : (outer : List Open) (parent here : Open) (children : Vec Node Global) (node : Node-F Node) → node ≡ record { name = here.name; props = here.props; children = here.children }
    → children.items ≡ parent.children.items ++ roll-Node node ∷ []
    → behind_open (behind_all outer) (record parent { children = children }) ≡ EndNode ∷ behind_open (behind_all (outer ++ parent ∷ [])) here
ends outer parent here children node is more =
    let place = onto (map property_token parent.props.items) (BeginNode parent.name ∷ behind_all outer) in
    let split : flat_map node_tokens children.items ≡ flat_map node_tokens parent.children.items ++ (node_tokens (roll-Node node) ++ []) = ap (flat_map node_tokens) more ∙ flat_map-append node_tokens parent.children.items (roll-Node node ∷ []) in
    ap (λ (ts : List Token). onto ts place) split
    ∙ onto-append (flat_map node_tokens parent.children.items) (node_tokens (roll-Node node) ++ []) place
    ∙ onto-append (node_tokens (roll-Node node)) [] (behind_open (behind_all outer) parent)
    ∙ behind node (behind_open (behind_all outer) parent)
    ∙ ap (λ (x : Node-F Node). EndNode ∷ onto (flat_map node_tokens x.children.items) (onto (map property_token x.props.items) (BeginNode x.name ∷ behind_open (behind_all outer) parent))) is
    ∙ ap (λ (t : List Token). EndNode ∷ behind_open t here) (sym (fold-push outer parent []))

pub within-end : (outer : List Open) (parent here : Open) (children : Vec Node Global) (node : Node-F Node) (nodes properties : ℕ) → IsWithin (outer ++ parent ∷ []) here nodes properties
    → node ≡ record { name = here.name; props = here.props; children = here.children } → children.items ≡ parent.children.items ++ roll-Node node ∷ []
    → IsWithin outer (record parent { children = children }) nodes properties
within-end outer parent here children node nodes properties within is more =
    let e = ends outer parent here children node is more in
    let t = behind_open (behind_all (outer ++ parent ∷ [])) here in
    let know = all_know-end outer parent t within.outer_know in
    record {
      begun = within.begun;
      nodes_is = rw e within.nodes_is;
      properties_is = rw e within.properties_is;
      depth_is = rw e (omega (arith, within.depth_is, length-append outer (parent ∷ [])));
      here_knows = rw e (record { children = know.1.children; properties = know.1.properties });
      outer_know = rw e know.0;
    }

pub ends_root : (here : Open) (node : Node-F Node) → node ≡ record { name = here.name; props = here.props; children = here.children }
    → onto (node_tokens (roll-Node node)) [] ≡ EndNode ∷ behind_open (behind_all []) here
ends_root here node is =
    behind node [] ∙ ap (λ (x : Node-F Node). EndNode ∷ onto (flat_map node_tokens x.children.items) (onto (map property_token x.props.items) (BeginNode x.name ∷ []))) is

pub closed-end : (here : Open) (node : Node-F Node) (nodes properties : ℕ) → IsWithin [] here nodes properties → node ≡ record { name = here.name; props = here.props; children = here.children }
    → IsClosed (onto (node_tokens (roll-Node node)) [])
closed-end here node nodes properties within is =
    let e = ends_root here node is in
    record { begun = rw e (omega (arith, within.begun, within.nodes_is)); depth_is = rw e (omega (arith, within.depth_is)) }
