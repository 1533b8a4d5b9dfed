-- The forms of values, and which property has which:
--
--     Root        compatible = Mark
--     Area        base, size = Number
--     Channel     console = Text                                      (may be absent)
--     Partition   cpus = Cores, image = Text, tree-at, tree-size = Number
--                 image-at = Number, held = Nothing, bootargs = Text  (may be absent)
--     GuestArea   area = Text, at = Number
--     Handle      kind = Sort, target = Text
--
-- A node of another role has no properties.
use Rattle.std.specs.Prelude.{ℕ, ◌*◌, ◌/◌, ◌%◌, Bool, false, ◌&&◌, nat_lt, ◌==◌, is_some, if◌then◌else◌, List, map, length, drop, codes, Option, Some, None, option_and_then}
use Rattle.std.specs.List.{range_with_len}
use Rattle.std.specs.Option.{option_map_or}
use Rattle.std.specs.Str.{bytes_eq}
use Rattle.byteorder.specs.Endian.{big_number}
use Rattle.dt_model.specs.Value.{text_in}
use Rattle.hv_config.specs.declared.form.Form.{Form}
use Rattle.hv_config.specs.declared.form.Form.TheVariants.{Number, Cores, Text, Nothing, Mark, Sort}
use Rattle.hv_config.specs.declared.form.Kind.{Kind}
use Rattle.hv_config.specs.declared.form.Kind.TheVariants as kind
use Rattle.hv_config.specs.declared.role.Role.{Role}
use Rattle.hv_config.specs.declared.role.Role.TheVariants.{Root, Area, Channel, Partition, GuestArea, Handle}

-- the numbers in a value of four bytes each
unfoldable pub cores_in : List ℕ → List ℕ
cores_in value = map (λ k. big_number 4 (drop (k * 4) value)) (range_with_len 0 (length value / 4))

abbrev pub kind_named : List ℕ → Option Kind
kind_named name =
    if bytes_eq name (codes "channel") then Some kind.Channel
    else if bytes_eq name (codes "send") then Some kind.Send
    else if bytes_eq name (codes "receive") then Some kind.Receive
    else if bytes_eq name (codes "manage") then Some kind.Manage
    else None

abbrev pub kind_in : List ℕ → Option Kind
kind_in value = option_and_then kind_named (text_in value)

-- The value has the form. A Number has eight bytes; Cores are one or more numbers of four; a Mark is the text
-- `topaz,config`; a Sort is a text that names a kind of handle; Nothing is no bytes.
unfoldable pub has_form : Form → List ℕ → Bool
has_form Number value = length value == 8
has_form Cores value = nat_lt 0 (length value) && (length value % 4 == 0)
has_form Text value = is_some (text_in value)
has_form Nothing value = length value == 0
has_form Mark value = option_map_or (λ text. bytes_eq text (codes "topaz,config")) (text_in value) false
has_form Sort value = is_some (kind_in value)

abbrev pub form_in_root : List ℕ → Option Form
form_in_root name = if bytes_eq name (codes "compatible") then Some Mark else None

abbrev pub form_in_area : List ℕ → Option Form
form_in_area name = if bytes_eq name (codes "base") then Some Number else if bytes_eq name (codes "size") then Some Number else None

abbrev pub form_in_channel : List ℕ → Option Form
form_in_channel name = if bytes_eq name (codes "console") then Some Text else None

abbrev pub form_in_partition : List ℕ → Option Form
form_in_partition name =
    if bytes_eq name (codes "cpus") then Some Cores
    else if bytes_eq name (codes "image") then Some Text
    else if bytes_eq name (codes "tree-at") then Some Number
    else if bytes_eq name (codes "tree-size") then Some Number
    else if bytes_eq name (codes "image-at") then Some Number
    else if bytes_eq name (codes "held") then Some Nothing
    else if bytes_eq name (codes "bootargs") then Some Text
    else None

abbrev pub form_in_guest_area : List ℕ → Option Form
form_in_guest_area name = if bytes_eq name (codes "area") then Some Text else if bytes_eq name (codes "at") then Some Number else None

abbrev pub form_in_handle : List ℕ → Option Form
form_in_handle name = if bytes_eq name (codes "kind") then Some Sort else if bytes_eq name (codes "target") then Some Text else None

-- the form of a node's property with the name, if the table has it
unfoldable pub form_of : Role → List ℕ → Option Form
form_of Root name = form_in_root name
form_of Area name = form_in_area name
form_of Channel name = form_in_channel name
form_of Partition name = form_in_partition name
form_of GuestArea name = form_in_guest_area name
form_of Handle name = form_in_handle name
form_of _ name = None
