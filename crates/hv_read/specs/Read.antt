-- What the bytes of a file say as a configuration and as hardware, and the first rule that they break.
use Rattle.std.specs.Prelude.{◌≡◌, ℕ, List, Option, Some, None}
use Rattle.std.specs.Option.{option_map}
use Rattle.dt_model.specs.Fault.{first_fault}
use Rattle.hv_config.specs.declared.config.Config.{Config}
use Rattle.hv_config.specs.declared.fault.Fault.{Fault}
use Rattle.hv_config.specs.declared.fault.Fault.TheVariants as fault
use Rattle.hv_config.specs.declared.board.Board.{Board}
use Rattle.hv_config.specs.Rule.{Breach, first_broken}
use Rattle.hv_config.specs.Meaning.{config_of}
use Rattle.hv_config.specs.Hardware.{first_broken_hardware, board_of}
use Rattle.hv_read.specs.declared.misread.Misread.{Misread}
use Rattle.hv_read.specs.declared.misread.Misread.TheVariants.{Blob, Broken, NoMemory}
use Rattle.hv_read.specs.Said.{tree_said}

-- a rule that bytes break: one of blobs, by its number, or one of the tree that they are a blob of
pub data Flaw : Type 0 where
  BlobRule : ℕ → Flaw
  TreeRule : Breach → Flaw

abbrev pub flaw_of : Option ℕ → Option Breach → Option Flaw
flaw_of (Some rule) breach = Some (BlobRule rule)
flaw_of None breach = option_map TreeRule breach

-- ---- configurations

-- the first of the rules B1 to B14, or else of C1 to C4
unfoldable pub config_flaw : List ℕ → Option Flaw
config_flaw bytes = flaw_of (first_fault bytes) (first_broken (tree_said bytes))

unfoldable pub config_said : List ℕ → Config
config_said bytes = config_of (tree_said bytes)

-- ---- hardware

-- the first of the rules B1 to B14, or else of H1 to H4
unfoldable pub hardware_flaw : List ℕ → Option Flaw
hardware_flaw bytes = flaw_of (first_fault bytes) (first_broken_hardware (tree_said bytes))

unfoldable pub board_said : List ℕ → Board
board_said bytes = board_of (tree_said bytes)

-- ---- answers

-- the answer says which rule is broken first; want of memory says nothing
abbrev pub Tells : Misread → Option Flaw → Type 0
Tells (Blob rule) flaw = flaw ≡ Some (BlobRule rule)
Tells (Broken rule at) flaw = flaw ≡ Some (TreeRule (record { rule = rule; at = at }))
Tells NoMemory flaw = Unit {0}

-- it says which rule of blobs is broken first
abbrev pub TellsBlob : Misread → Option ℕ → Type 0
TellsBlob (Blob rule) fault = fault ≡ Some rule
TellsBlob (Broken rule at) fault = ⊥
TellsBlob NoMemory fault = Unit {0}

-- it says which rule of the tree is broken first
abbrev pub TellsTree : Misread → Option Breach → Type 0
TellsTree (Blob rule) breach = ⊥
TellsTree (Broken rule at) breach = breach ≡ Some (record { rule = rule; at = at })
TellsTree NoMemory breach = Unit {0}

-- both say the same
abbrev pub SameFault : Fault → Misread → Type 0
SameFault (fault.Broken rule at) misread = misread ≡ Broken rule at
SameFault fault.NoMemory misread = misread ≡ NoMemory
