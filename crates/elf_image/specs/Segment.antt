-- The program headers of an ELF file (System V ABI, chapter 5 "Program Loading and Dynamic Linking", "Program Header"), and which
-- don't fit the file.
use Rattle.std.specs.Prelude.{ℕ, ◌+◌, ◌*◌, Bool, ◌&&◌, ◌||◌, nat_lt, ◌==◌, List, length, drop, map}
use Rattle.std.specs.List.{list_any, range_with_len}
use Rattle.byteorder.specs.Endian.{big_number}
use Rattle.elf_image.specs.declared.header.Header.{Header}
use Rattle.elf_image.specs.declared.segment.Segment.{Segment}
use Rattle.elf_image.specs.Header.{header_of, row_size}

-- p_type, p_offset, p_vaddr, p_paddr, p_filesz and p_memsz, the highest byte of each first
unfoldable pub segment_of : List ℕ → Segment
segment_of row = record {
  kind = big_number 4 row;
  from = big_number 4 (drop 4 row);
  virtual_at = big_number 4 (drop 8 row);
  at = big_number 4 (drop 12 row);
  len = big_number 4 (drop 16 row);
  total = big_number 4 (drop 20 row);
}

-- the segment of this number, in a table that begins at this byte
abbrev pub segment_at : List ℕ → ℕ → ℕ → Segment
segment_at file table_at number = segment_of (drop (table_at + row_size * number) file)

abbrev pub segments_in : List ℕ → Header → List Segment
segments_in file header = map (segment_at file header.table_at) (range_with_len 0 header.count)

-- all of them, in the order of the table
unfoldable pub segments_of : List ℕ → List Segment
segments_of file = segments_in file (header_of file)

-- PT_LOAD: it is loaded
abbrev pub is_load : Segment → Bool
is_load segment = segment.kind == 1

-- it is loaded, and has bytes outside a file of this size, or more bytes of the file than there are in all
unfoldable pub is_bad_segment : ℕ → Segment → Bool
is_bad_segment size segment =
    is_load segment
    && ((nat_lt 0 segment.len && nat_lt size (segment.from + segment.len)) || nat_lt segment.total segment.len)

-- the table ends behind a file of this size
unfoldable pub is_table_outside : ℕ → Header → Bool
is_table_outside size header = nat_lt size (header.table_at + row_size * header.count)

-- I2: the table or a segment doesn't fit the file
unfoldable pub is_inconsistent : List ℕ → Bool
is_inconsistent file = is_table_outside (length file) (header_of file) || list_any (is_bad_segment (length file)) (segments_of file)
