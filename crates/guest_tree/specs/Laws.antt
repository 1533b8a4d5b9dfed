-- Laws of guest trees.
use Rattle.std.specs.Prelude.{◌≡◌, ◌<◌, ◌≤◌, ℕ, length, slice_index_or}
use Rattle.hv_config.specs.declared.config.PartDef.{PartDef}
use Rattle.hv_config.specs.declared.config.Config.{Config}
use Rattle.dt_model.specs.declared.tree.Tree.{Tree}
use Rattle.dt_model.specs.Fit.{Fits}
use Rattle.dt_model.specs.Canonical.{canonical}
use Rattle.dt_model.specs.Node.{rows_of, tokens_of}
use Rattle.config_rules.specs.Accepted.{IsAccepted}
use Rattle.guest_tree.specs.Rows.{guest_rows}
use Rattle.guest_tree.specs.Tokens.{guest_tokens}
use Rattle.guest_tree.specs.Guest.{IsGuestTree, guest_blob}

-- the most bytes that the blob of a guest tree has
abbrev pub largest_blob : ℕ
largest_blob = 65536

-- a blob can hold the guest tree of each partition of an accepted configuration
abbrev pub GuestTreesFit : Type 0
GuestTreesFit = (config : Config) → IsAccepted config → (part : ℕ) → part < length config.parts → (d : PartDef) → (tree : Tree)
    → IsGuestTree config (slice_index_or config.parts part d) tree → Fits tree

-- and its canonical blob is small
abbrev pub GuestBlobsAreSmall : Type 0
GuestBlobsAreSmall = (config : Config) → IsAccepted config → (part : ℕ) → part < length config.parts → (d : PartDef)
    → length (guest_blob config (slice_index_or config.parts part d)) ≤ largest_blob

-- the canonical blob of a guest tree is that of the partition
abbrev pub BlobsAreOfTheirTrees : Type 0
BlobsAreOfTheirTrees = (config : Config) (part : PartDef) (tree : Tree) → IsGuestTree config part tree → canonical tree ≡ guest_blob config part

-- a tree with the partition's tokens has its rows
abbrev pub TokensSayTheRows : Type 0
TokensSayTheRows = (config : Config) (part : PartDef) (tree : Tree) → tokens_of tree ≡ guest_tokens config part → rows_of tree ≡ guest_rows config part
