-- The header of an ELF file (System V ABI, chapter 4 "Object Files", "ELF Header"), and which files are no images for the machine.
use Rattle.std.specs.Prelude.{ℕ, Bool, ◌&&◌, ◌||◌, not, nat_lt, ◌==◌, List, [], ◌∷◌, length, take, drop, slice_index}
use Rattle.std.specs.Str.{bytes_eq}
use Rattle.byteorder.specs.Endian.{big_number}
use Rattle.elf_image.specs.declared.header.Header.{Header}

-- bytes of a file's header
abbrev pub header_size : ℕ
header_size = 52

-- bytes of a program header
abbrev pub row_size : ℕ
row_size = 32

-- program headers of a file
abbrev pub most_rows : ℕ
most_rows = 64

-- the bytes begin with these
abbrev pub begin_with : List ℕ → List ℕ → Bool
begin_with mark bytes = bytes_eq mark (take (length mark) bytes)

unfoldable pub is_elf : List ℕ → Bool
is_elf file = begin_with (0x7f ∷ 0x45 ∷ 0x4c ∷ 0x46 ∷ []) file

-- a uImage, or what gzip makes
unfoldable pub is_packed : List ℕ → Bool
is_packed file = begin_with (0x27 ∷ 0x05 ∷ 0x19 ∷ 0x56 ∷ []) file || begin_with (0x1f ∷ 0x8b ∷ []) file

-- the fields of interest, each the highest byte first: e_ident's class and order of bytes, then e_type, e_machine, e_entry, e_phoff,
-- e_phentsize and e_phnum
unfoldable pub header_of : List ℕ → Header
header_of file = record {
  class = slice_index file 4;
  order = slice_index file 5;
  kind = big_number 2 (drop 16 file);
  machine = big_number 2 (drop 18 file);
  entry = big_number 4 (drop 24 file);
  table_at = big_number 4 (drop 28 file);
  row_size = big_number 2 (drop 42 file);
  count = big_number 2 (drop 44 file);
}

-- Not of 32 bits, the highest byte first, an executable or a shared object, for PowerPC, with program headers of this size and few
-- enough of them.
unfoldable pub is_for_others : Header → Bool
is_for_others header =
    not (header.class == 1) || not (header.order == 2) || not (header.kind == 2 || header.kind == 3) || not (header.machine == 20)
    || not (header.row_size == row_size) || header.count == 0 || nat_lt most_rows header.count

-- an ELF file whose header is cut or says that it is for others
abbrev pub is_bad_elf : List ℕ → Bool
is_bad_elf file = nat_lt (length file) header_size || is_for_others (header_of file)

-- I1: no image for the machine
abbrev pub is_no_image : List ℕ → Bool
is_no_image file = is_packed file || (is_elf file && is_bad_elf file)
