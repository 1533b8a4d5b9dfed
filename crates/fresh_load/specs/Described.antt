-- The description of a partition once its image and its device tree are there.
use Rattle.std.specs.Prelude.{◌≡◌, ℕ, ◌+◌, ◌-◌, ◌%◌, Bool, cond, not, ◌&&◌, nat_lt, ◌==◌, List, ◌∷◌, ◌++◌, length, map, take, drop, Option, Some, None}
use Rattle.std.specs.List.{list_any, range_with_len}
use Rattle.std.specs.Int.{to_be_bytes, w32, w64}
use Rattle.machine_desc.specs.declared.desc.Desc.{Desc}
use Rattle.machine_desc.specs.declared.desc.Piece.{Piece}
use Rattle.machine_desc.specs.declared.desc.Region.{Region}
use Rattle.machine_desc.specs.Limits.{mapped_end, spin_room, spin_size}
use Rattle.machine_desc.specs.Private.{is_private_range}
use Rattle.machine_desc.specs.Ranges.{ranges_meet}
use Rattle.machine_desc.specs.Sound.{spin_at}
use Rattle.elf_image.specs.declared.image.Image.{Image}
use Rattle.elf_image.specs.declared.image.PlanPiece.{PlanPiece}
use Rattle.elf_image.specs.declared.fault.ImageFault.{ImageFault}
use Rattle.elf_image.specs.declared.fault.ImageFault.TheVariants.{Rule, NoMemory}

-- ---- what the memory begins with

-- a piece of the image, with its bytes of the file
abbrev pub image_piece : List ℕ → PlanPiece → Piece
image_piece file piece = record { at = piece.at; bytes = take piece.len (drop piece.from file); len = piece.total }

-- the device tree, at the start of its window
abbrev pub tree_piece : Desc → List ℕ → Piece
tree_piece base tree = record { at = base.tree_at; bytes = tree; len = length tree }

-- The spin entry of a core that waits (ePAPR 1.1, 5.5.2): its entry address is 1, the lowest bit saying that nothing is there
-- yet, its r3 and what is reserved are 0, and its pir is the core's number.
unfoldable pub spin_entry : ℕ → List ℕ
spin_entry core = to_be_bytes w64 1 ++ (to_be_bytes w64 0 ++ (to_be_bytes w32 0 ++ to_be_bytes w32 core))

abbrev pub spin_piece : Desc → ℕ → Piece
spin_piece base core = record { at = spin_at base core; bytes = spin_entry core; len = spin_size }

-- those of all cores but the first, which boots
unfoldable pub spin_pieces : Desc → List Piece
spin_pieces base = map (spin_piece base) (range_with_len 1 (length base.cores - 1))

-- the image's in their order, then the tree, then the spin entries
unfoldable pub pieces_of : Desc → List ℕ → List PlanPiece → List ℕ → List Piece
pieces_of base file plan tree = map (image_piece file) plan ++ (tree_piece base tree ∷ spin_pieces base)

-- the base with the image's entry and with these pieces
unfoldable pub described : Desc → List ℕ → Image → List ℕ → Desc
described base file image tree = record {
  name = base.name;
  regions = base.regions;
  cores = base.cores;
  ports = base.ports;
  tree_at = base.tree_at;
  tree_size = base.tree_size;
  entry = image.entry;
  held = base.held;
  pieces = pieces_of base file image.pieces tree;
}

-- ---- what is refused

-- I4: some byte of the piece isn't private
abbrev pub is_not_private : List Region → PlanPiece → Bool
is_not_private regions piece = not (is_private_range regions piece.at piece.total)

-- I5: the first instruction isn't at a multiple of 4, isn't mapped as the partition starts, or isn't private
abbrev pub is_bad_entry : List Region → ℕ → Bool
is_bad_entry regions entry = not (entry % 4 == 0 && nat_lt entry mapped_end && is_private_range regions entry 1)

-- bytes of the window that aren't for the tree: those of the spin entries, where there are any
abbrev pub spin_bytes : Desc → ℕ
spin_bytes base = cond (nat_lt 1 (length base.cores)) spin_room 0

-- I6: the window has too few bytes for the tree
abbrev pub is_too_long : Desc → List ℕ → Bool
is_too_long base tree = nat_lt base.tree_size (length tree + spin_bytes base)

-- I7: some byte of the piece is in the window; a piece without bytes has none there
abbrev pub is_in_window : Desc → PlanPiece → Bool
is_in_window base piece = ranges_meet piece.at piece.total base.tree_at base.tree_size

-- the least of the rules I4 to I7 that is broken
unfoldable pub first_fault : Desc → Image → List ℕ → Option ℕ
first_fault base image tree =
    cond (list_any (is_not_private base.regions) image.pieces) (Some 4)
    (cond (is_bad_entry base.regions image.entry) (Some 5)
    (cond (is_too_long base tree) (Some 6) (cond (list_any (is_in_window base) image.pieces) (Some 7) None)))

-- Where the fault is a rule's, it is this one's. Want of memory says nothing.
abbrev pub Says : ImageFault → Option ℕ → Type 0
Says (Rule number) first = first ≡ Some number
Says NoMemory first = Unit {0}
