-- What the nodes of a guest tree say (ePAPR 1.1, chapters 3 "Device Node Requirements" and 7 "Virtualization").
use Rattle.std.specs.Prelude.{ℕ, ◌+◌, Bool, ◌==◌, if◌then◌else◌, List, [], ◌∷◌, ◌++◌, codes, decimal, find, Option, None, Some}
use Rattle.std.specs.List.{flat_map}
use Rattle.hv_config.specs.declared.form.Kind.{Kind}
use Rattle.hv_config.specs.declared.form.Kind.TheVariants.{Channel, Send, Receive, Manage}
use Rattle.hv_config.specs.declared.config.GuestAreaDef.{GuestAreaDef}
use Rattle.hv_config.specs.declared.config.HandleDef.{HandleDef}
use Rattle.hv_config.specs.declared.config.PartDef.{PartDef}
use Rattle.hv_config.specs.declared.config.Config.{Config}
use Rattle.machine_desc.specs.declared.desc.Desc.{Desc}
use Rattle.machine_desc.specs.Sound.{spin_at}
use Rattle.dt_model.specs.declared.tree.Property.{Property}
use Rattle.config_checks.specs.Found.{size_of}
use Rattle.config_descs.specs.Wired.{same_kind}
use Rattle.dt_make.specs.Values.{cell, cells, double, text, property}

-- ---- the root, and the node over the cores

abbrev pub root_properties : PartDef → List Property
root_properties part =
    property (codes "#address-cells") (cell 2)
    ∷ property (codes "#size-cells") (cell 2)
    ∷ property (codes "compatible") (text (codes "topaz,guest"))
    ∷ property (codes "model") (text part.name)
    ∷ []

abbrev pub cpus_properties : List Property
cpus_properties =
    property (codes "#address-cells") (cell 1)
    ∷ property (codes "#size-cells") (cell 0)
    ∷ []

-- ---- one core; cores are numbered from 0

abbrev pub cpu_name : ℕ → List ℕ
cpu_name core = codes "cpu@" ++ decimal core

abbrev pub start_properties : List ℕ → ℕ → List Property
start_properties status core =
    property (codes "device_type") (text (codes "cpu"))
    ∷ property (codes "reg") (cell core)
    ∷ property (codes "status") (text status)
    ∷ property (codes "clock-frequency") (cell 1000000)
    ∷ property (codes "timebase-frequency") (cell 1000000)
    ∷ []

-- how a core is released that spins
abbrev pub spin_properties : Desc → ℕ → List Property
spin_properties desc core =
    property (codes "enable-method") (text (codes "spin-table"))
    ∷ property (codes "cpu-release-addr") (double (spin_at desc core))
    ∷ []

-- the first core boots, and the others spin until they are released
unfoldable pub cpu_properties : Desc → ℕ → List Property
cpu_properties desc core =
    if core == 0 then start_properties (codes "okay") core
    else start_properties (codes "disabled") core ++ spin_properties desc core

-- ---- memory

-- the address and the size of a guest area, in two cells each
abbrev pub range_of : Config → GuestAreaDef → List ℕ
range_of config guest = double guest.at ++ double (size_of config.areas guest.area)

abbrev pub memory_properties : Config → PartDef → List Property
memory_properties config part =
    property (codes "device_type") (text (codes "memory"))
    ∷ property (codes "reg") (flat_map (range_of config) part.areas)
    ∷ []

-- ---- the interrupt controller, and the hypervisor

-- by this number other nodes name the controller
abbrev pub pic_handle : ℕ
pic_handle = 1

abbrev pub pic_properties : List Property
pic_properties =
    property (codes "compatible") (text (codes "epapr,hv-pic"))
    ∷ property (codes "interrupt-controller") []
    ∷ property (codes "#interrupt-cells") (cell 2)
    ∷ property (codes "phandle") (cell pic_handle)
    ∷ []

-- the instructions of a hypercall: `sc 1`, and three times `nop`
abbrev pub hypercall : List ℕ
hypercall = 0x44000022 ∷ 0x60000000 ∷ 0x60000000 ∷ 0x60000000 ∷ []

abbrev pub hypervisor_properties : List Property
hypervisor_properties =
    property (codes "compatible") (text (codes "topaz,hypervisor"))
    ∷ property (codes "hcall-instructions") (cells hypercall)
    ∷ property (codes "has-idle") []
    ∷ []

-- ---- handles

-- the handle's number
abbrev pub number_property : ℕ → Property
number_property number = property (codes "hv-handle") (cell number)

-- an interrupt of the controller is its number, and 0
abbrev pub interrupt_cells : ℕ → List ℕ
interrupt_cells interrupt = cell interrupt ++ cell 0

abbrev pub interrupts_properties : List ℕ → List Property
interrupts_properties interrupts =
    property (codes "interrupts") interrupts
    ∷ property (codes "interrupt-parent") (cell pic_handle)
    ∷ []

abbrev pub compatible : List ℕ → Property
compatible name = property (codes "compatible") (text name)

-- the first interrupt is that of received bytes, the second that of room to send
abbrev pub channel_properties : ℕ → ℕ → List Property
channel_properties number next =
    compatible (codes "epapr,hv-byte-channel") ∷ number_property number
    ∷ interrupts_properties (interrupt_cells next ++ interrupt_cells (next + 1))

abbrev pub receive_properties : ℕ → ℕ → List Property
receive_properties number next =
    compatible (codes "epapr,hv-receive-doorbell") ∷ number_property number ∷ interrupts_properties (interrupt_cells next)

abbrev pub send_properties : ℕ → List Property
send_properties number = compatible (codes "topaz,send-doorbell") ∷ number_property number ∷ []

abbrev pub manage_properties : ℕ → List ℕ → List Property
manage_properties number target =
    compatible (codes "topaz,managed-partition") ∷ number_property number ∷ property (codes "label") (text target) ∷ []

-- of a handle of this kind with this number on something of that name, where its first interrupt would be this one
abbrev pub kind_properties : ℕ → ℕ → Kind → List ℕ → List Property
kind_properties number next Channel target = channel_properties number next
kind_properties number next Receive target = receive_properties number next
kind_properties number next Send target = send_properties number
kind_properties number next Manage target = manage_properties number target

unfoldable pub handle_properties : ℕ → ℕ → HandleDef → List Property
handle_properties number next handle = kind_properties number next handle.kind handle.target

-- ---- what is chosen for the guest

abbrev pub bootargs_properties : Option (List ℕ) → List Property
bootargs_properties None = []
bootargs_properties (Some bootargs) = property (codes "bootargs") (text bootargs) ∷ []

abbrev pub is_channel : HandleDef → Bool
is_channel handle = same_kind handle.kind Channel

abbrev pub handle_path : HandleDef → List ℕ
handle_path handle = codes "/hypervisor/handles/" ++ handle.name

abbrev pub stdout_properties : Option HandleDef → List Property
stdout_properties None = []
stdout_properties (Some handle) = property (codes "stdout-path") (text (handle_path handle)) ∷ []

-- boot arguments where it has any, and the first channel handle where there is one
unfoldable pub chosen_properties : PartDef → List Property
chosen_properties part = bootargs_properties part.bootargs ++ stdout_properties (find is_channel part.handles)
