-- The two trees as the tokens of structure blocks (ePAPR 1.1, 8.4 "Structure Block").
use Rattle.std.specs.Prelude.{◌≡◌, ℕ, ◌*◌, List, [], ◌∷◌, ◌++◌, codes}
use Rattle.std.specs.List.{flat_map, range_with_len}
use Rattle.dt_model.specs.declared.tree.Property.{Property}
use Rattle.dt_model.specs.declared.tree.Tree.{Tree}
use Rattle.dt_model.specs.Token.{Token, Finish}
use Rattle.dt_model.specs.Node.{tokens_of}
use Rattle.dt_make.specs.Values.{cell, double, text, property}
use Rattle.dt_make.specs.Nodes.{node}
use Rattle.gen_load.specs.Names.{digit, area_name, console_name, image_name, console_channel, link_channel, part_name}
use Rattle.gen_load.specs.Meant.{area_size, place_before}

-- the tokens of each of so many places, from 0 on
abbrev pub all : (ℕ → List Token) → ℕ → List Token
all tokens count = flat_map tokens (range_with_len 0 count)

-- ---- the configuration

abbrev pub area_properties : ℕ → List Property
area_properties place = property (codes "base") (double (place * area_size)) ∷ property (codes "size") (double area_size) ∷ []

abbrev pub area_tokens : ℕ → List Token
area_tokens place = node (area_name place) (area_properties place) []

abbrev pub console_tokens : ℕ → List Token
console_tokens place = node (console_channel place) (property (codes "console") (text (console_name place)) ∷ []) []

abbrev pub link_tokens : ℕ → List Token
link_tokens place = node (link_channel place) [] []

abbrev pub guest_area_properties : ℕ → List Property
guest_area_properties place = property (codes "area") (text (area_name place)) ∷ property (codes "at") (double 0) ∷ []

abbrev pub guest_area_tokens : ℕ → List Token
guest_area_tokens place = node (codes "m") (guest_area_properties place) []

abbrev pub handle_properties : List ℕ → List Property
handle_properties target = property (codes "kind") (text (codes "channel")) ∷ property (codes "target") (text target) ∷ []

abbrev pub handle_tokens : List ℕ → List ℕ → List Token
handle_tokens name target = node name (handle_properties target) []

abbrev pub handles_tokens : ℕ → ℕ → List Token
handles_tokens count place =
    handle_tokens (codes "con") (console_channel place)
    ++ (handle_tokens (codes "out") (link_channel place) ++ handle_tokens (codes "got") (link_channel (place_before count place)))

abbrev pub part_properties : ℕ → List Property
part_properties place =
    property (codes "cpus") (cell place)
    ∷ property (codes "image") (text (image_name place))
    ∷ property (codes "tree-at") (double 0x8000)
    ∷ property (codes "tree-size") (double 0x4000)
    ∷ []

abbrev pub part_lists_tokens : ℕ → ℕ → List Token
part_lists_tokens count place = node (codes "areas") [] (guest_area_tokens place) ++ node (codes "handles") [] (handles_tokens count place)

unfoldable pub part_tokens : ℕ → ℕ → List Token
part_tokens count place = node (part_name place) (part_properties place) (part_lists_tokens count place)

abbrev pub root_properties : List Property
root_properties = property (codes "compatible") (text (codes "topaz,config")) ∷ []

abbrev pub lists_tokens : ℕ → List Token
lists_tokens count =
    node (codes "areas") [] (all area_tokens count)
    ++ (node (codes "channels") [] (all console_tokens count ++ all link_tokens count)
    ++ node (codes "partitions") [] (all (part_tokens count) count))

unfoldable pub config_tokens : ℕ → List Token
config_tokens count = node [] root_properties (lists_tokens count) ++ Finish ∷ []

-- ---- the hardware

abbrev pub cpu_properties : ℕ → List Property
cpu_properties number = property (codes "device_type") (text (codes "cpu")) ∷ property (codes "reg") (cell number) ∷ []

abbrev pub cpu_tokens : ℕ → List Token
cpu_tokens number = node (codes "cpu@" ++ digit number ∷ []) (cpu_properties number) []

abbrev pub cell_counts : ℕ → ℕ → List Property
cell_counts address size = property (codes "#address-cells") (cell address) ∷ property (codes "#size-cells") (cell size) ∷ []

abbrev pub memory_properties : List Property
memory_properties = property (codes "device_type") (text (codes "memory")) ∷ property (codes "reg") (double 0 ++ double 0x1000000) ∷ []

abbrev pub memory_tokens : List Token
memory_tokens = node (codes "memory") memory_properties []

abbrev pub devices_tokens : ℕ → List Token
devices_tokens count = node (codes "cpus") (cell_counts 1 0) (all cpu_tokens count) ++ memory_tokens

unfoldable pub hardware_tokens : ℕ → List Token
hardware_tokens count = node [] (cell_counts 2 2) (devices_tokens count) ++ Finish ∷ []

-- ---- trees

-- Nothing is reserved, cpu 0 boots, and the tree has these tokens.
pub record IsTreeOf (tokens : List Token) (tree : Tree) : Type 0 where
  pub reserve : tree.reserve.items ≡ []
  pub boot_cpu : tree.boot_cpu ≡ 0
  pub same : tokens_of tree ≡ tokens
