-- A node made anew says the same hardware, and breaks the same rules.
use Rattle.std.proofs.Common.{◌≡◌, ℕ, ◌+◌, Bool, true, false, ◌||◌, cond, ltb, ◌==◌, List, [], ◌∷◌, ◌++◌, map, filter, length, Option, Some, None, refl, sym, ap, ◌∙◌}
use Rattle.std.specs.Prelude.{nat_le, find, codes, is_some, is_none, unwrap_or, option_and_then, count_by}
use Rattle.std.specs.Option.{option_map, option_map_or, option_or}
use Rattle.std.specs.List.{list_any, flat_map, cons_option}
use Rattle.std.specs.Str.{bytes_eq}
use Rattle.std.proofs.lemmas.List.{map-append}
use Rattle.std.proofs.lemmas.List.Sums.{sum_by-cons}
use Rattle.dt_model.specs.declared.tree.Node.{Node}
use Rattle.dt_model.specs.Value.{u32_in, text_in}
use Rattle.hv_config.specs.declared.board.Range.{Range}
use Rattle.hv_config.specs.declared.cells.Cells.{Cells}
use Rattle.hv_config.specs.Meaning.{is_named, children_of}
use Rattle.hv_config.specs.Cells.{counted, cells_of}
use Rattle.hv_config.specs.Device.{DeviceValue, is_device, address_in, size_in, cpu_device, memory_device, cpus_among, cpus_under, devices_at, devices_of}
use Rattle.hv_config.specs.Cpus.{first_number, number_of, has_number, is_odd, first_odd, is_good_status, is_usable, cpu_of, cpus_in}
use Rattle.hv_config.specs.Memory.{whole_ranges, ranges_of, memory_in}
use Rattle.hv_config.specs.Hardware.{board_in, broken_at, device_breach, h1, h2, h3, is_ill, h4, first_broken_in}
use Rattle.hv_read.proofs.Remade.{remade, name-remade, children-remade}
use Rattle.hv_read.proofs.Config.{value-remade, text-remade, named-remade}

-- ---- devices

cells-remade : (node : Node) (name : List ℕ) (default : Cells) → cells_of (remade node) name default ≡ cells_of node name default
unfolding cells_of
cells-remade node name default = ap (λ (o : Option (List ℕ)). option_map_or (λ value. option_and_then counted (u32_in value)) o (Some default)) (value-remade node name)

address-remade : (node : Node) → address_in (remade node) ≡ address_in node
address-remade node = cells-remade node _ _

size-remade : (node : Node) → size_in (remade node) ≡ size_in node
size-remade node = cells-remade node _ _

device-remade : (text : List ℕ) (node : Node) → is_device text (remade node) ≡ is_device text node
device-remade text node = ap (λ (o : Option (List ℕ)). option_map_or (λ found. bytes_eq found text) o false) (text-remade node (codes "device_type"))

abbrev pub device_remade : DeviceValue → DeviceValue
device_remade device = record { is_cpu = device.is_cpu; path = device.path; address = device.address; size = device.size; node = remade device.node }

cpu-remade : (address size : Option Cells) (node : Node) → cpu_device address size (remade node) ≡ device_remade (cpu_device address size node)
cpu-remade address size node = λ i. record { is_cpu = true; path = codes "/cpus/" ++ name-remade node i; address = address; size = size; node = remade node }

memory-remade : (address size : Option Cells) (node : Node) → memory_device address size (remade node) ≡ device_remade (memory_device address size node)
memory-remade address size node = λ i. record { is_cpu = false; path = 0x2f ∷ name-remade node i; address = address; size = size; node = remade node }

among-remade : (address size : Option Cells) (nodes : List Node) → cpus_among address size (map remade nodes) ≡ map device_remade (cpus_among address size nodes)
unfolding cpus_among
among-remade address size [] = refl
among-remade address size (node ∷ nodes) =
    let below : map (cpu_device address size) (filter (is_device (codes "cpu")) (map remade nodes)) ≡ map device_remade (map (cpu_device address size) (filter (is_device (codes "cpu")) nodes)) = among-remade address size nodes in
    ap (λ (b : Bool). map (cpu_device address size) (cond b (remade node ∷ filter (is_device (codes "cpu")) (map remade nodes)) (filter (is_device (codes "cpu")) (map remade nodes)))) (device-remade (codes "cpu") node)
    ∙ elim (is_device (codes "cpu") node) as (λ b.
    map (cpu_device address size) (cond b (remade node ∷ filter (is_device (codes "cpu")) (map remade nodes)) (filter (is_device (codes "cpu")) (map remade nodes)))
    ≡ map device_remade (map (cpu_device address size) (cond b (node ∷ filter (is_device (codes "cpu")) nodes) (filter (is_device (codes "cpu")) nodes))))
    [ true ↦ λ i. cpu-remade address size node i ∷ below i | false ↦ below ]

under-remade : (parent : Node) → cpus_under (remade parent) ≡ map device_remade (cpus_under parent)
unfolding cpus_under
under-remade parent =
    (λ i. cpus_among (address-remade parent i) (size-remade parent i) (children-remade parent i)) ∙ among-remade (address_in parent) (size_in parent) (children_of parent)

at-remade : (address size : Option Cells) (child : Node) → devices_at address size (remade child) ≡ map device_remade (devices_at address size child)
unfolding devices_at
at-remade address size child =
    let first : (b : Bool) → cond b (memory_device address size (remade child) ∷ []) [] ≡ map device_remade (cond b (memory_device address size child ∷ []) []) =
    λ b. elim b as (λ b. cond b (memory_device address size (remade child) ∷ []) [] ≡ map device_remade (cond b (memory_device address size child ∷ []) []))
    [ true ↦ λ i. memory-remade address size child i ∷ [] | false ↦ refl ] in
    let second : (b : Bool) → cond b (cpus_under (remade child)) [] ≡ map device_remade (cond b (cpus_under child) []) =
    λ b. elim b as (λ b. cond b (cpus_under (remade child)) [] ≡ map device_remade (cond b (cpus_under child) [])) [ true ↦ under-remade child | false ↦ refl ] in
    (λ i. cond (device-remade (codes "memory") child i) (memory_device address size (remade child) ∷ []) [] ++ cond (named-remade (codes "cpus") child i) (cpus_under (remade child)) [])
    ∙ (λ i. first (is_device (codes "memory") child) i ++ second (is_named (codes "cpus") child) i)
    ∙ sym (map-append device_remade (cond (is_device (codes "memory") child) (memory_device address size child ∷ []) []) (cond (is_named (codes "cpus") child) (cpus_under child) []))

all-at : (address size : Option Cells) (nodes : List Node) → flat_map (devices_at address size) (map remade nodes) ≡ map device_remade (flat_map (devices_at address size) nodes)
all-at address size [] = refl
all-at address size (node ∷ nodes) =
    (λ i. at-remade address size node i ++ all-at address size nodes i)
    ∙ sym (map-append device_remade (devices_at address size node) (flat_map (devices_at address size) nodes))

pub devices-remade : (root : Node) → devices_of (remade root) ≡ map device_remade (devices_of root)
unfolding devices_of
devices-remade root =
    (λ i. flat_map (devices_at (address-remade root i) (size-remade root i)) (children-remade root i)) ∙ all-at (address_in root) (size_in root) (children_of root)

-- ---- cpus

number-remade : (device : DeviceValue) → number_of (device_remade device) ≡ number_of device
unfolding number_of
number-remade device = λ i. cond device.is_cpu (option_and_then (λ cells. option_and_then (first_number cells) (value-remade device.node (codes "reg") i)) device.address) None

any-number : (number : ℕ) (earlier : List DeviceValue) → list_any (has_number number) (map device_remade earlier) ≡ list_any (has_number number) earlier
any-number number [] = refl
any-number number (device ∷ devices) = λ i. option_map_or (λ other. other == number) (number-remade device i) false || any-number number devices i

odd-remade : (earlier : List DeviceValue) (device : DeviceValue) → is_odd (map device_remade earlier) (device_remade device) ≡ is_odd earlier device
odd-remade earlier device = λ i. option_map_or (λ number. ltb 31 number || any-number number earlier i) (number-remade device i) false

push-remade : (earlier : List DeviceValue) (device : DeviceValue) → map device_remade earlier ++ device_remade device ∷ [] ≡ map device_remade (earlier ++ device ∷ [])
push-remade earlier device = sym (map-append device_remade earlier (device ∷ []))

first_odd-remade : (earlier devices : List DeviceValue) → first_odd (map device_remade earlier) (map device_remade devices) ≡ option_map device_remade (first_odd earlier devices)
first_odd-remade earlier [] = refl
first_odd-remade earlier (device ∷ devices) =
    let below : first_odd (map device_remade earlier ++ device_remade device ∷ []) (map device_remade devices) ≡ option_map device_remade (first_odd (earlier ++ device ∷ []) devices) =
    ap (λ (es : List DeviceValue). first_odd es (map device_remade devices)) (push-remade earlier device) ∙ first_odd-remade (earlier ++ device ∷ []) devices in
    (λ i. cond (odd-remade earlier device i) (Some (device_remade device)) (below i))
    ∙ elim (is_odd earlier device) as (λ b. cond b (Some (device_remade device)) (option_map device_remade (first_odd (earlier ++ device ∷ []) devices)) ≡ option_map device_remade (cond b (Some device) (first_odd (earlier ++ device ∷ []) devices)))
    [ true ↦ refl | false ↦ refl ]

usable-remade : (node : Node) → is_usable (remade node) ≡ is_usable node
usable-remade node = ap (λ (o : Option (List ℕ)). option_map_or (λ value. option_map_or is_good_status (text_in value) false) o true) (value-remade node (codes "status"))

cpu_of-remade : (device : DeviceValue) → cpu_of (device_remade device) ≡ cpu_of device
unfolding cpu_of
cpu_of-remade device =
    λ i. option_and_then (λ number. cond (nat_le number 31) (Some (record { number = number; usable = usable-remade device.node i })) None) (number-remade device i)

cpus-remade : (devices : List DeviceValue) → cpus_in (map device_remade devices) ≡ cpus_in devices
cpus-remade [] = refl
cpus-remade (device ∷ devices) = λ i. cons_option (cpu_of-remade device i) (cpus-remade devices i)

-- ---- memory

ranges-remade : (device : DeviceValue) → ranges_of (device_remade device) ≡ ranges_of device
unfolding ranges_of
ranges-remade device =
    λ i. cond device.is_cpu None (option_and_then (λ address. option_and_then (λ size. option_and_then (whole_ranges address size) (value-remade device.node (codes "reg") i)) device.size) device.address)

memory-all : (devices : List DeviceValue) → memory_in (map device_remade devices) ≡ memory_in devices
unfolding memory_in
memory-all [] = refl
memory-all (device ∷ devices) = λ i. unwrap_or (ranges-remade device i) [] ++ memory-all devices i

-- ---- the rules

breach-remade : (number : ℕ) (o : Option DeviceValue) → option_map (device_breach number) (option_map device_remade o) ≡ option_map (device_breach number) o
breach-remade number None = refl
breach-remade number (Some device) = refl

h2-remade : (devices : List DeviceValue) → h2 (map device_remade devices) ≡ h2 devices
unfolding h2
h2-remade devices = ap (option_map (device_breach 2)) (first_odd-remade [] devices) ∙ breach-remade 2 (first_odd [] devices)

count-remade : (devices : List DeviceValue) → count_by (λ (device : DeviceValue). is_some (number_of device)) (map device_remade devices) ≡ count_by (λ (device : DeviceValue). is_some (number_of device)) devices
count-remade [] = refl
count-remade (device ∷ devices) =
    sum_by-cons (λ (device : DeviceValue). cond (is_some (number_of device)) 1 0) (device_remade device) (map device_remade devices)
    ∙ (λ i. cond (is_some (number-remade device i)) 1 0 + count-remade devices i)
    ∙ sym (sum_by-cons (λ (device : DeviceValue). cond (is_some (number_of device)) 1 0) device devices)

h3-remade : (devices : List DeviceValue) (memory : List Range) → h3 (map device_remade devices) memory ≡ h3 devices memory
unfolding h3
h3-remade devices memory = λ i. cond (ltb 16 (length memory)) (Some (broken_at 3 (codes "/"))) (cond (ltb 32 (count-remade devices i)) (Some (broken_at 3 (codes "/cpus"))) None)

ill-remade : (device : DeviceValue) → is_ill (device_remade device) ≡ is_ill device
ill-remade device = λ i. cond device.is_cpu (is_none (number-remade device i)) (is_none (ranges-remade device i))

find-remade : (devices : List DeviceValue) → find is_ill (map device_remade devices) ≡ option_map device_remade (find is_ill devices)
find-remade [] = refl
find-remade (device ∷ devices) =
    (λ i. cond (ill-remade device i) (Some (device_remade device)) (find-remade devices i))
    ∙ elim (is_ill device) as (λ b. cond b (Some (device_remade device)) (option_map device_remade (find is_ill devices)) ≡ option_map device_remade (cond b (Some device) (find is_ill devices)))
    [ true ↦ refl | false ↦ refl ]

h4-remade : (devices : List DeviceValue) → h4 (map device_remade devices) ≡ h4 devices
unfolding h4
h4-remade devices = ap (option_map (device_breach 4)) (find-remade devices) ∙ breach-remade 4 (find is_ill devices)

pub board-remade : (root : Node) → board_in (devices_of (remade root)) ≡ board_in (devices_of root)
unfolding board_in
board-remade root =
    (λ i. record { cpus = cpus_in (devices-remade root i); memory = memory_in (devices-remade root i) })
    ∙ (λ i. record { cpus = cpus-remade (devices_of root) i; memory = memory-all (devices_of root) i })

pub hardware-remade : (root : Node) → first_broken_in (devices_of (remade root)) (memory_in (devices_of (remade root))) ≡ first_broken_in (devices_of root) (memory_in (devices_of root))
unfolding first_broken_in
hardware-remade root =
    (λ i. first_broken_in (devices-remade root i) (memory_in (devices-remade root i)))
    ∙ (λ i. first_broken_in (map device_remade (devices_of root)) (memory-all (devices_of root) i))
    ∙ (λ i. option_or (h1 (memory_in (devices_of root))) (option_or (h2-remade (devices_of root) i) (option_or (h3-remade (devices_of root) (memory_in (devices_of root)) i) (h4-remade (devices_of root) i))))
