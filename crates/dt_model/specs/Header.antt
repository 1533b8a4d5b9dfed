-- The header of a blob, and the blocks that it names (ePAPR 1.1, 8.2 "Header").
use Rattle.std.specs.Prelude.{ℕ, ◌+◌, ◌%◌, Bool, ◌||◌, not, nat_lt, ◌==◌, if◌then◌else◌, List, length, take, drop, Option, Some, None}
use Rattle.byteorder.specs.Endian.{big_number}

pub record Header : Type 0 where
  pub magic : ℕ
  pub total_size : ℕ
  pub structure_at : ℕ
  pub strings_at : ℕ
  pub reserve_at : ℕ
  pub version : ℕ
  pub compatible_version : ℕ
  pub boot_cpu : ℕ
  pub strings_size : ℕ
  pub structure_size : ℕ

-- ten words, the highest byte of each first
unfoldable pub header_of : List ℕ → Header
header_of bytes = record {
  magic = big_number 4 bytes;
  total_size = big_number 4 (drop 4 bytes);
  structure_at = big_number 4 (drop 8 bytes);
  strings_at = big_number 4 (drop 12 bytes);
  reserve_at = big_number 4 (drop 16 bytes);
  version = big_number 4 (drop 20 bytes);
  compatible_version = big_number 4 (drop 24 bytes);
  boot_cpu = big_number 4 (drop 28 bytes);
  strings_size = big_number 4 (drop 32 bytes);
  structure_size = big_number 4 (drop 36 bytes);
}

-- a block begins inside the header or ends past the blob, or isn't aligned
unfoldable pub is_misplaced : Header → Bool
is_misplaced header =
    nat_lt header.reserve_at 40 || nat_lt header.structure_at 40 || nat_lt header.strings_at 40
    || nat_lt header.total_size (header.structure_at + header.structure_size)
    || nat_lt header.total_size (header.strings_at + header.strings_size)
    || not (header.structure_at % 4 == 0) || not (header.reserve_at % 8 == 0)

-- the least rule of B2 to B5 that the header breaks, with so many bytes in all
unfoldable pub words_fault : ℕ → Header → Option ℕ
words_fault count header =
    if not (header.magic == 0xd00dfeed) then Some 2
    else if nat_lt header.version 17 || nat_lt 17 header.compatible_version then Some 3
    else if nat_lt header.total_size 40 || nat_lt count header.total_size || nat_lt 16777216 header.total_size then Some 4
    else if is_misplaced header then Some 5
    else None

-- the least rule that the header breaks
unfoldable pub header_fault : List ℕ → Option ℕ
header_fault bytes = if nat_lt (length bytes) 40 then Some 1 else words_fault (length bytes) (header_of bytes)

-- what of the blob lies behind the beginning of the reserve map
unfoldable pub reserve_part : List ℕ → List ℕ
reserve_part bytes = let header = header_of bytes in drop header.reserve_at (take header.total_size bytes)

unfoldable pub structure_part : List ℕ → List ℕ
structure_part bytes = let header = header_of bytes in take header.structure_size (drop header.structure_at bytes)

unfoldable pub strings_part : List ℕ → List ℕ
strings_part bytes = let header = header_of bytes in take header.strings_size (drop header.strings_at bytes)
