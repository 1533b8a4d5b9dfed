-- The configuration that a tree says. Of a tree that breaks no rule each value is there; of others what lacks is 0 or
-- nothing. Of several children with one name, which no tree that fits has, the first is meant.
use Rattle.std.specs.Prelude.{ℕ, Bool, is_some, List, [], map, find, position, codes, Option, option_and_then, unwrap_or}
use Rattle.std.specs.Str.{bytes_eq}
use Rattle.dt_model.specs.declared.tree.Node.TheViews.{out-Node}
use Rattle.std.specs.Option.{option_map_or}
use Rattle.dt_model.specs.declared.tree.Node.{Node}
use Rattle.dt_model.specs.declared.tree.Tree.{Tree}
use Rattle.dt_model.specs.Node.{name_of, value_of}
use Rattle.dt_model.specs.Value.{u64_in, text_in}
use Rattle.hv_config.specs.declared.form.Kind.{Kind}
use Rattle.hv_config.specs.declared.form.Kind.TheVariants as kind
use Rattle.hv_config.specs.declared.config.Config.{Config}
use Rattle.hv_config.specs.declared.config.AreaDef.{AreaDef}
use Rattle.hv_config.specs.declared.config.ChannelDef.{ChannelDef}
use Rattle.hv_config.specs.declared.config.BellDef.{BellDef}
use Rattle.hv_config.specs.declared.config.GuestAreaDef.{GuestAreaDef}
use Rattle.hv_config.specs.declared.config.HandleDef.{HandleDef}
use Rattle.hv_config.specs.declared.config.PartDef.{PartDef}
use Rattle.hv_config.specs.Form.{cores_in, kind_in}

-- ---- values

abbrev pub number_at : Node → List ℕ → ℕ
number_at node name = unwrap_or (option_and_then u64_in (value_of node name)) 0

abbrev pub text_at : Node → List ℕ → Option (List ℕ)
text_at node name = option_and_then text_in (value_of node name)

abbrev pub text_or_none : Node → List ℕ → List ℕ
text_or_none node name = unwrap_or (text_at node name) []

abbrev pub cores_at : Node → List ℕ → List ℕ
cores_at node name = option_map_or cores_in (value_of node name) []

abbrev pub kind_at : Node → List ℕ → Kind
kind_at node name = unwrap_or (option_and_then kind_in (value_of node name)) kind.Channel

-- ---- lists of nodes

abbrev pub is_named : List ℕ → Node → Bool
is_named name node = bytes_eq (name_of node) name

abbrev pub children_of : Node → List Node
children_of node = (out-Node node).children.items

-- the children of the node's child with the name
unfoldable pub list_in : Node → List ℕ → List Node
list_in node name = option_map_or children_of (find (is_named name) (children_of node)) []

-- Where that child stands among the node's children. Document order across lists is the order of these places.
unfoldable pub place_in : Node → List ℕ → ℕ
place_in node name = unwrap_or (position (is_named name) (children_of node)) 0

-- ---- definitions

unfoldable pub area_def : Node → AreaDef
area_def node = record { name = name_of node; base = number_at node (codes "base"); size = number_at node (codes "size") }

unfoldable pub channel_def : Node → ChannelDef
channel_def node = record { name = name_of node; console = text_at node (codes "console") }

unfoldable pub bell_def : Node → BellDef
bell_def node = record { name = name_of node }

unfoldable pub guest_area_def : Node → GuestAreaDef
guest_area_def node = record { name = name_of node; area = text_or_none node (codes "area"); at = number_at node (codes "at") }

unfoldable pub handle_def : Node → HandleDef
handle_def node = record { name = name_of node; kind = kind_at node (codes "kind"); target = text_or_none node (codes "target") }

unfoldable pub part_def : Node → PartDef
part_def node = record {
  name = name_of node;
  cpus = cores_at node (codes "cpus");
  image = text_or_none node (codes "image");
  image_at = number_at node (codes "image-at");
  tree_at = number_at node (codes "tree-at");
  tree_size = number_at node (codes "tree-size");
  held = is_some (value_of node (codes "held"));
  bootargs = text_at node (codes "bootargs");
  areas_at = place_in node (codes "areas");
  areas = map guest_area_def (list_in node (codes "areas"));
  handles_at = place_in node (codes "handles");
  handles = map handle_def (list_in node (codes "handles"));
}

unfoldable pub config_in : Node → Config
config_in root = record {
  areas_at = place_in root (codes "areas");
  areas = map area_def (list_in root (codes "areas"));
  channels_at = place_in root (codes "channels");
  channels = map channel_def (list_in root (codes "channels"));
  bells_at = place_in root (codes "doorbells");
  bells = map bell_def (list_in root (codes "doorbells"));
  parts_at = place_in root (codes "partitions");
  parts = map part_def (list_in root (codes "partitions"));
}

abbrev pub config_of : Tree → Config
config_of tree = config_in tree.root
