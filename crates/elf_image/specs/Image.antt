-- What a file of an image says, and the first rule that it breaks.
use Rattle.std.specs.Prelude.{◌≡◌, ℕ, ◌+◌, ◌-◌, Bool, ◌&&◌, nat_lt, nat_le, is_none, if◌then◌else◌, List, [], ◌∷◌, length, map, filter, find, Option, Some, None, unwrap_or, ⊤}
use Rattle.std.specs.Option.{option_map}
use Rattle.elf_image.specs.declared.fault.ImageFault.{ImageFault}
use Rattle.elf_image.specs.declared.fault.ImageFault.TheVariants.{Rule, NoMemory}
use Rattle.elf_image.specs.declared.image.Image.{Image}
use Rattle.elf_image.specs.declared.image.PlanPiece.{PlanPiece}
use Rattle.elf_image.specs.declared.segment.Segment.{Segment}
use Rattle.elf_image.specs.Header.{is_elf, is_no_image, header_of}
use Rattle.elf_image.specs.Segment.{is_load, is_inconsistent, segments_of}

-- ---- the entry

-- it is loaded, and has this virtual address
abbrev pub has_address : ℕ → Segment → Bool
has_address address segment =
    is_load segment && nat_le segment.virtual_at address && nat_lt address (segment.virtual_at + segment.total)

-- where a virtual address of the segment lies
abbrev pub physical_of : ℕ → Segment → ℕ
physical_of address segment = (address - segment.virtual_at) + segment.at

-- where a virtual address lies, by the first of the segments that have it
abbrev pub physical_in : ℕ → List Segment → Option ℕ
physical_in address segments = option_map (physical_of address) (find (has_address address) segments)

unfoldable pub entry_of : List ℕ → Option ℕ
entry_of file = physical_in (header_of file).entry (segments_of file)

-- I3: the entry is in no segment
abbrev pub lacks_entry : List ℕ → Bool
lacks_entry file = is_none (entry_of file)

-- ---- the pieces

-- it is loaded, and has bytes
abbrev pub has_bytes : Segment → Bool
has_bytes segment = is_load segment && nat_lt 0 segment.total

abbrev pub piece_of : Segment → PlanPiece
piece_of segment = record { at = segment.at; from = segment.from; len = segment.len; total = segment.total }

abbrev pub pieces_in : List Segment → List PlanPiece
pieces_in segments = map piece_of (filter has_bytes segments)

-- ---- images

-- an ELF file: the pieces in the order of the table
unfoldable pub elf_image : List ℕ → Image
elf_image file = record { pieces = pieces_in (segments_of file); entry = unwrap_or (entry_of file) 0 }

-- any other: all its bytes, which begin to run at the first
unfoldable pub raw_image : ℕ → ℕ → Image
raw_image size at = record { pieces = record { at = at; from = 0; len = size; total = size } ∷ []; entry = at }

-- the image that the file is; a raw one lies at this address
unfoldable pub image_of : List ℕ → ℕ → Image
image_of file raw_at = if is_elf file then elf_image file else raw_image (length file) raw_at

-- ---- faults

-- the first rule that the segments of an ELF file break
unfoldable pub segments_fault : List ℕ → Option ℕ
segments_fault file = if is_inconsistent file then Some 2 else if lacks_entry file then Some 3 else None

-- the least rule that the file breaks
unfoldable pub first_fault : List ℕ → Option ℕ
first_fault file = if is_no_image file then Some 1 else if is_elf file then segments_fault file else None

-- the fault says which rule is broken first; want of memory says nothing
abbrev pub Says : ImageFault → Option ℕ → Type 0
Says (Rule rule) first = first ≡ Some rule
Says NoMemory first = ⊤
