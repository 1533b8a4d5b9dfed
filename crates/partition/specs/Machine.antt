-- The machine of one partition by itself: no real address, no other partition, no channel's other end.
use Rattle.std.specs.Prelude.{ℕ, ◌==◌, List, [], map, length, slice_index_or, Option, if◌then◌else◌}
use Rattle.std.specs.List.{position, range_with_len}
use Rattle.guest_regs.specs.Registers.{Registers, boot_registers}
use Rattle.mas.specs.declared.entry.Entry.{Entry}
use Rattle.guest_tlb.specs.Slots.{initial_slots}
use Rattle.machine_desc.specs.declared.act.State.{State}
use Rattle.machine_desc.specs.declared.act.State.TheVariants.{Running, Stopped}
use Rattle.machine_desc.specs.declared.desc.Desc.{Desc}
use Rattle.machine_desc.specs.declared.desc.Port.{Port}
use Rattle.vpic.specs.Controller.{Controller, fresh as fresh_controller}
use Rattle.fresh_load.specs.Fresh.{fresh_memory}
use Rattle.partition.specs.Regions.{Area, areas_of}
use Rattle.partition.specs.Port.{End, fresh_end}
use Rattle.partition.specs.Interrupts.{interrupt_count}

pub record Cpu : Type 0 where
  -- with its reservation and its idle flag
  pub registers : Registers
  -- the slots of its two TLBs
  pub translations : List Entry
  -- the way of TLB0 that its next miss is to replace
  pub next_victim : ℕ

-- what a partition holds by itself
pub record Inner : Type 0 where
  -- one long until partitions have several
  pub cores : List Cpu
  -- what its interrupt controller keeps
  pub interrupts : Controller
  pub state : State
  -- how many steps its cores have done together
  pub steps : ℕ

pub record Machine : Type 0 where
  pub inner : Inner
  -- by handle, from 1
  pub ports : List End
  -- the bytes of each region, in the order of the description
  pub memory : List (List ℕ)

-- how many steps a machine may do in all
abbrev pub most_steps : ℕ
most_steps = 1000000000000

-- no core, for where a list has none
abbrev pub no_cpu : Cpu
no_cpu = record { registers = boot_registers 0 0 0; translations = []; next_victim = 0 }

abbrev pub core_at : List Cpu → ℕ → Cpu
core_at cores core = slice_index_or cores core no_cpu

-- the place of the core with this physical number
abbrev pub place_in : List ℕ → ℕ → Option ℕ
place_in cores number = position (λ (core : ℕ). core == number) cores

-- ---- what a step reads of the description

pub record Shape : Type 0 where
  pub areas : List Area
  pub ports : List Port

abbrev pub shape_of : Desc → Shape
shape_of desc = record { areas = areas_of desc.regions; ports = desc.ports }

-- ---- the machine before its first step

-- A core as its program starts (ePAPR 1.1, 5.4): r3 is the address of the device tree, and the initial area alone is translated.
unfoldable pub booted : ℕ → ℕ → ℕ → Cpu
booted entry tree_at number = record { registers = boot_registers entry tree_at number; translations = initial_slots; next_victim = 0 }

-- the cores, each by its place in the partition
abbrev pub booted_all : Desc → ℕ → List Cpu
booted_all desc entry = map (λ (number : ℕ). booted entry desc.tree_at number) (range_with_len 0 (length desc.cores))

-- the controller as it begins: every source masked
abbrev pub fresh_interrupts : Desc → Controller
fresh_interrupts desc = fresh_controller (interrupt_count desc.ports)

-- what a held partition waits for is its manager's start
abbrev pub fresh_inner : Desc → Inner
fresh_inner desc = record {
  cores = booted_all desc desc.entry;
  interrupts = fresh_interrupts desc;
  state = if desc.held then Stopped else Running;
  steps = 0;
}

unfoldable pub fresh : Desc → Machine
fresh desc = record { inner = fresh_inner desc; ports = map fresh_end desc.ports; memory = fresh_memory desc }
