-- What is read of a blob, by its tree.
use Rattle.std.proofs.Common.{◌≡◌, ℕ, List, Option, Some, None, Result, Ok, Err, sym, ap, ◌∙◌}
use Rattle.std.specs.Prelude.{OnOk, IfOk, IfErr}
use Rattle.dt_model.specs.declared.tree.Tree.{Tree}
use Rattle.dt_model.specs.Blob.{IsBlobOf}
use Rattle.dt_model.specs.Fault.{first_fault}
use Rattle.hv_config.specs.declared.config.Config.{Config}
use Rattle.hv_config.specs.declared.board.Board.{Board}
use Rattle.hv_config.specs.Rule.{Breach, first_broken}
use Rattle.hv_config.specs.Meaning.{config_of}
use Rattle.hv_config.specs.Hardware.{first_broken_hardware, board_of}
use Rattle.hv_read.specs.declared.misread.Misread.{Misread}
use Rattle.hv_read.specs.declared.misread.Misread.TheVariants.{Blob, Broken, NoMemory}
use Rattle.hv_read.specs.Said.{tree_said}
use Rattle.hv_read.specs.Read.{BlobRule, flaw_of, config_flaw, config_said, hardware_flaw, board_said, Tells, TellsBlob, TellsTree}
use Rattle.hv_read.proofs.Same.{says_the_same}

-- ---- flaws

flaw-tree : (fault : Option ℕ) (breach other : Option Breach) → fault ≡ None → other ≡ breach → flaw_of fault other ≡ flaw_of None breach
flaw-tree fault breach other e same = ap (λ (o : Option ℕ). flaw_of o other) e ∙ ap (flaw_of None) same

flaw-blob : (fault : Option ℕ) (breach : Option Breach) (rule : ℕ) → fault ≡ Some rule → flaw_of fault breach ≡ Some (BlobRule rule)
flaw-blob fault breach rule e = ap (λ (o : Option ℕ). flaw_of o breach) e

tells-tree : (misread : Misread) (breach : Option Breach) → TellsTree misread breach → Tells misread (flaw_of None breach)
tells-tree (Blob rule) breach e = absurd e
tells-tree (Broken rule at) breach e = ap (flaw_of None) e
tells-tree NoMemory breach e = tt

pub config-tree : (bytes : List ℕ) (tree : Tree) → IsBlobOf bytes tree → first_fault bytes ≡ None → config_flaw bytes ≡ flaw_of None (first_broken tree)
unfolding config_flaw
config-tree bytes tree blob none = flaw-tree (first_fault bytes) (first_broken tree) (first_broken (tree_said bytes)) none (says_the_same bytes tree blob).config_rules

pub hardware-tree : (bytes : List ℕ) (tree : Tree) → IsBlobOf bytes tree → first_fault bytes ≡ None → hardware_flaw bytes ≡ flaw_of None (first_broken_hardware tree)
unfolding hardware_flaw
hardware-tree bytes tree blob none = flaw-tree (first_fault bytes) (first_broken_hardware tree) (first_broken_hardware (tree_said bytes)) none (says_the_same bytes tree blob).hardware_rules

-- ---- configurations

pub config-kept : (bytes : List ℕ) (tree : Tree) (r : Result Config Misread) → IsBlobOf bytes tree → first_fault bytes ≡ None → OnOk r (first_broken tree ≡ None) → OnOk r (config_flaw bytes ≡ None)
config-kept bytes tree (Ok config) blob none e = config-tree bytes tree blob none ∙ ap (flaw_of None) e
config-kept bytes tree (Err misread) blob none e = tt

pub config-value : (bytes : List ℕ) (tree : Tree) (r : Result Config Misread) → IsBlobOf bytes tree → IfOk r (λ config. config ≡ config_of tree) → IfOk r (λ config. config ≡ config_said bytes)
unfolding config_said
config-value bytes tree (Ok config) blob e = e ∙ sym (says_the_same bytes tree blob).config
config-value bytes tree (Err misread) blob e = tt

pub config-broken : (bytes : List ℕ) (tree : Tree) (r : Result Config Misread) → IsBlobOf bytes tree → first_fault bytes ≡ None
    → IfErr r (λ misread. TellsTree misread (first_broken tree)) → IfErr r (λ misread. Tells misread (config_flaw bytes))
config-broken bytes tree (Ok config) blob none e = tt
config-broken bytes tree (Err misread) blob none e = rw (config-tree bytes tree blob none) (tells-tree misread (first_broken tree) e)

pub config-unread : (bytes : List ℕ) (misread : Misread) → TellsBlob misread (first_fault bytes) → Tells misread (config_flaw bytes)
unfolding config_flaw
config-unread bytes (Blob rule) e = flaw-blob (first_fault bytes) (first_broken (tree_said bytes)) rule e
config-unread bytes (Broken rule at) e = absurd e
config-unread bytes NoMemory e = tt

-- ---- hardware

pub hardware-kept : (bytes : List ℕ) (tree : Tree) (r : Result Board Misread) → IsBlobOf bytes tree → first_fault bytes ≡ None → OnOk r (first_broken_hardware tree ≡ None) → OnOk r (hardware_flaw bytes ≡ None)
hardware-kept bytes tree (Ok board) blob none e = hardware-tree bytes tree blob none ∙ ap (flaw_of None) e
hardware-kept bytes tree (Err misread) blob none e = tt

pub board-value : (bytes : List ℕ) (tree : Tree) (r : Result Board Misread) → IsBlobOf bytes tree → IfOk r (λ board. board ≡ board_of tree) → IfOk r (λ board. board ≡ board_said bytes)
unfolding board_said
board-value bytes tree (Ok board) blob e = e ∙ sym (says_the_same bytes tree blob).board
board-value bytes tree (Err misread) blob e = tt

pub hardware-broken : (bytes : List ℕ) (tree : Tree) (r : Result Board Misread) → IsBlobOf bytes tree → first_fault bytes ≡ None
    → IfErr r (λ misread. TellsTree misread (first_broken_hardware tree)) → IfErr r (λ misread. Tells misread (hardware_flaw bytes))
hardware-broken bytes tree (Ok board) blob none e = tt
hardware-broken bytes tree (Err misread) blob none e = rw (hardware-tree bytes tree blob none) (tells-tree misread (first_broken_hardware tree) e)

pub hardware-unread : (bytes : List ℕ) (misread : Misread) → TellsBlob misread (first_fault bytes) → Tells misread (hardware_flaw bytes)
unfolding hardware_flaw
hardware-unread bytes (Blob rule) e = flaw-blob (first_fault bytes) (first_broken_hardware (tree_said bytes)) rule e
hardware-unread bytes (Broken rule at) e = absurd e
hardware-unread bytes NoMemory e = tt
