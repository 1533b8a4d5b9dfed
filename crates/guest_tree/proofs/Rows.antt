-- The rows of a guest tree's tokens.
use Rattle.std.proofs.Common.{◌≡◌, ℕ, ◌+◌, List, [], ◌∷◌, ◌++◌, map, length, refl, sym, ap, ◌∙◌, append_assoc}
use Rattle.std.specs.Prelude.{codes}
use Rattle.std.specs.List.{flat_map, range_with_len}
use Rattle.hv_config.specs.declared.config.HandleDef.{HandleDef}
use Rattle.hv_config.specs.declared.config.PartDef.{PartDef}
use Rattle.hv_config.specs.declared.config.Config.{Config}
use Rattle.machine_desc.specs.declared.desc.Desc.{Desc}
use Rattle.dt_model.specs.declared.tree.Property.{Property}
use Rattle.dt_model.specs.Token.{Token, BeginNode, EndNode, Finish}
use Rattle.dt_model.specs.Node.{Row, NodeRow, PropertyRow, property_token, path_of, rows_inside, rows_in}
use Rattle.config_descs.specs.Desc.{interrupts_of, desc_of}
use Rattle.guest_tree.specs.Properties.{root_properties, cpus_properties, cpu_name, cpu_properties, memory_properties, pic_properties, hypervisor_properties, handle_properties, handle_path, chosen_properties}
use Rattle.dt_make.specs.Nodes.{node}
use Rattle.guest_tree.specs.Tokens.{cpu_tokens, cpus_tokens, memory_tokens, pic_tokens, handle_tokens, hypervisor_tokens, chosen_tokens, children_tokens, guest_tokens}
use Rattle.guest_tree.specs.Rows.{node_rows, cpu_rows, cpus_rows, handle_rows, handles_rows, guest_rows}

abbrev property_rows : List ℕ → List Property → List Row
property_rows path properties = map (λ property. PropertyRow path property.name property.value) properties

inside-properties : (here : List ℕ) (outer : List (List ℕ)) (properties : List Property) (rest : List Token)
    → rows_inside (here ∷ outer) (map property_token properties ++ rest) ≡ property_rows (path_of here) properties ++ rows_inside (here ∷ outer) rest
inside-properties here outer [] rest = refl
inside-properties here outer (property ∷ properties) rest = ap (λ (rows : List Row). PropertyRow (path_of here) property.name property.value ∷ rows) (inside-properties here outer properties rest)

abbrev below : List ℕ → List ℕ → List ℕ
below here name = here ++ 0x2f ∷ name

path-below : (here name : List ℕ) → path_of (below here name) ≡ below here name
path-below [] name = refl
path-below (byte ∷ bytes) name = refl

-- a node's rows, then those inside it, and then what follows
inside-node : (here : List ℕ) (outer : List (List ℕ)) (name : List ℕ) (properties : List Property) (children rest : List Token)
    → rows_inside (here ∷ outer) (node name properties children ++ rest)
    ≡ node_rows (below here name) properties ++ rows_inside (below here name ∷ here ∷ outer) (children ++ EndNode ∷ rest)
inside-node here outer name properties children rest =
    let parts : (map property_token properties ++ (children ++ EndNode ∷ [])) ++ rest ≡ map property_token properties ++ (children ++ EndNode ∷ rest)
    = append_assoc (map property_token properties) (children ++ EndNode ∷ []) rest ∙ ap (λ (tokens : List Token). map property_token properties ++ tokens) (append_assoc children (EndNode ∷ []) rest) in
    ap (λ (tokens : List Token). NodeRow (below here name) ∷ rows_inside (below here name ∷ here ∷ outer) tokens) parts
    ∙ ap (λ (rows : List Row). NodeRow (below here name) ∷ rows) (inside-properties (below here name) (here ∷ outer) properties (children ++ EndNode ∷ rest))
    ∙ ap (λ (path : List ℕ). NodeRow (below here name) ∷ (property_rows path properties ++ rows_inside (below here name ∷ here ∷ outer) (children ++ EndNode ∷ rest))) (path-below here name)

inside-leaf : (here : List ℕ) (outer : List (List ℕ)) (name : List ℕ) (properties : List Property) (rest : List Token)
    → rows_inside (here ∷ outer) (node name properties [] ++ rest) ≡ node_rows (below here name) properties ++ rows_inside (here ∷ outer) rest
inside-leaf here outer name properties rest = inside-node here outer name properties [] rest

inside-cpus : (desc : Desc) (outer : List (List ℕ)) (cores : List ℕ) (rest : List Token)
    → rows_inside (codes "/cpus" ∷ outer) (flat_map (cpu_tokens desc) cores ++ rest) ≡ flat_map (cpu_rows desc) cores ++ rows_inside (codes "/cpus" ∷ outer) rest
inside-cpus desc outer [] rest = refl
inside-cpus desc outer (core ∷ cores) rest =
    ap (rows_inside (codes "/cpus" ∷ outer)) (append_assoc (cpu_tokens desc core) (flat_map (cpu_tokens desc) cores) rest)
    ∙ inside-leaf (codes "/cpus") outer (cpu_name core) (cpu_properties desc core) (flat_map (cpu_tokens desc) cores ++ rest)
    ∙ ap (λ (rows : List Row). cpu_rows desc core ++ rows) (inside-cpus desc outer cores rest)
    ∙ sym (append_assoc (cpu_rows desc core) (flat_map (cpu_rows desc) cores) (rows_inside (codes "/cpus" ∷ outer) rest))

rows-cpus : (desc : Desc) (rest : List Token) → rows_inside ([] ∷ []) (cpus_tokens desc ++ rest) ≡ cpus_rows desc ++ rows_inside ([] ∷ []) rest
unfolding cpus_tokens cpus_rows
rows-cpus desc rest =
    let cores = range_with_len 0 (length desc.cores) in
    inside-node [] [] (codes "cpus") cpus_properties (flat_map (cpu_tokens desc) cores) rest
    ∙ ap (λ (rows : List Row). node_rows (codes "/cpus") cpus_properties ++ rows) (inside-cpus desc ([] ∷ []) cores (EndNode ∷ rest))
    ∙ sym (append_assoc (node_rows (codes "/cpus") cpus_properties) (flat_map (cpu_rows desc) cores) (rows_inside ([] ∷ []) rest))

inside-handles : (number next : ℕ) (outer : List (List ℕ)) (handles : List HandleDef) (rest : List Token)
    → rows_inside (codes "/hypervisor/handles" ∷ outer) (handle_tokens number next handles ++ rest) ≡ handle_rows number next handles ++ rows_inside (codes "/hypervisor/handles" ∷ outer) rest
inside-handles number next outer [] rest = refl
inside-handles number next outer (handle ∷ handles) rest =
    let here = codes "/hypervisor/handles" in
    let others = handle_tokens (number + 1) (next + interrupts_of handle.kind) handles in
    let rows = handle_rows (number + 1) (next + interrupts_of handle.kind) handles in
    let own = node_rows (handle_path handle) (handle_properties number next handle) in
    ap (rows_inside (here ∷ outer)) (append_assoc (node handle.name (handle_properties number next handle) []) others rest)
    ∙ inside-leaf here outer handle.name (handle_properties number next handle) (others ++ rest)
    ∙ ap (λ (behind : List Row). own ++ behind) (inside-handles (number + 1) (next + interrupts_of handle.kind) outer handles rest)
    ∙ sym (append_assoc own rows (rows_inside (here ∷ outer) rest))

rows-hypervisor : (part : PartDef) (rest : List Token)
    → rows_inside ([] ∷ []) (hypervisor_tokens part ++ rest) ≡ node_rows (codes "/hypervisor") hypervisor_properties ++ (handles_rows part ++ rows_inside ([] ∷ []) rest)
unfolding hypervisor_tokens handles_rows
rows-hypervisor part rest =
    let handles = handle_tokens 1 0 part.handles in
    let inner = node (codes "handles") [] handles in
    inside-node [] [] (codes "hypervisor") hypervisor_properties inner rest
    ∙ ap (λ (rows : List Row). node_rows (codes "/hypervisor") hypervisor_properties ++ rows)
    (inside-node (codes "/hypervisor") ([] ∷ []) (codes "handles") [] handles (EndNode ∷ rest)
    ∙ ap (λ (rows : List Row). node_rows (codes "/hypervisor/handles") [] ++ rows) (inside-handles 1 0 (codes "/hypervisor" ∷ [] ∷ []) part.handles (EndNode ∷ EndNode ∷ rest)))

rows-last : (part : PartDef) → rows_inside ([] ∷ []) (chosen_tokens part ++ EndNode ∷ Finish ∷ []) ≡ node_rows (codes "/chosen") (chosen_properties part)
rows-last part = inside-leaf [] [] (codes "chosen") (chosen_properties part) (EndNode ∷ Finish ∷ []) ∙ nothing (node_rows (codes "/chosen") (chosen_properties part))
  where
    nothing : (rows : List Row) → rows ++ [] ≡ rows
    nothing [] = refl
    nothing (row ∷ rows) = ap (λ (others : List Row). row ∷ others) (nothing rows)

pub rows-guest : (config : Config) (part : PartDef) → rows_in (guest_tokens config part) ≡ guest_rows config part
unfolding guest_tokens children_tokens guest_rows
rows-guest config part =
    let desc = desc_of config part in
    let end = EndNode ∷ Finish ∷ [] in
    let last = chosen_tokens part ++ end in
    let hypervisor = hypervisor_tokens part ++ last in
    let pic = pic_tokens ++ hypervisor in
    let memory = memory_tokens config part ++ pic in
    let chosen_rows = node_rows (codes "/chosen") (chosen_properties part) in
    let hypervisor_rows = node_rows (codes "/hypervisor") hypervisor_properties ++ (handles_rows part ++ chosen_rows) in
    let pic_rows = node_rows (codes "/pic") pic_properties ++ hypervisor_rows in
    let memory_rows = node_rows (codes "/memory") (memory_properties config part) ++ pic_rows in
    let from_hypervisor : rows_inside ([] ∷ []) hypervisor ≡ hypervisor_rows = rows-hypervisor part last ∙ ap (λ (rows : List Row). node_rows (codes "/hypervisor") hypervisor_properties ++ (handles_rows part ++ rows)) (rows-last part) in
    let from_pic : rows_inside ([] ∷ []) pic ≡ pic_rows = inside-leaf [] [] (codes "pic") pic_properties hypervisor ∙ ap (λ (rows : List Row). node_rows (codes "/pic") pic_properties ++ rows) from_hypervisor in
    let from_memory : rows_inside ([] ∷ []) memory ≡ memory_rows = inside-leaf [] [] (codes "memory") (memory_properties config part) pic ∙ ap (λ (rows : List Row). node_rows (codes "/memory") (memory_properties config part) ++ rows) from_pic in
    let from_cpus = rows-cpus desc memory ∙ ap (λ (rows : List Row). cpus_rows desc ++ rows) from_memory in
    ap rows_in (parts (root_properties part) (cpus_tokens desc) (memory_tokens config part) pic_tokens (hypervisor_tokens part) (chosen_tokens part))
    ∙ ap (λ (rows : List Row). NodeRow (codes "/") ∷ rows) (inside-properties [] [] (root_properties part) (cpus_tokens desc ++ memory) ∙ ap (λ (rows : List Row). property_rows (codes "/") (root_properties part) ++ rows) from_cpus)
  where
    parts : (properties : List Property) (a b c d e : List Token)
        → node [] properties (a ++ (b ++ (c ++ (d ++ e)))) ++ Finish ∷ []
        ≡ BeginNode [] ∷ (map property_token properties ++ (a ++ (b ++ (c ++ (d ++ (e ++ EndNode ∷ Finish ∷ []))))))
    parts properties a b c d e = ap (λ (tokens : List Token). BeginNode [] ∷ tokens) (
        append_assoc (map property_token properties) ((a ++ (b ++ (c ++ (d ++ e)))) ++ EndNode ∷ []) (Finish ∷ [])
        ∙ ap (λ (tokens : List Token). map property_token properties ++ tokens) (
        append_assoc (a ++ (b ++ (c ++ (d ++ e)))) (EndNode ∷ []) (Finish ∷ [])
        ∙ append_assoc a (b ++ (c ++ (d ++ e))) (EndNode ∷ Finish ∷ [])
        ∙ ap (λ (tokens : List Token). a ++ tokens) (
        append_assoc b (c ++ (d ++ e)) (EndNode ∷ Finish ∷ [])
        ∙ ap (λ (tokens : List Token). b ++ tokens) (
        append_assoc c (d ++ e) (EndNode ∷ Finish ∷ [])
        ∙ ap (λ (tokens : List Token). c ++ tokens) (append_assoc d e (EndNode ∷ Finish ∷ []))))))
