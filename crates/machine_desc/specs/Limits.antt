-- The counts and sizes that descriptions keep.
use Rattle.std.specs.Prelude.{ℕ}

-- regions of a partition
abbrev pub most_regions : ℕ
most_regions = 16

-- handles of a partition
abbrev pub most_handles : ℕ
most_handles = 64

-- cores of a partition
abbrev pub most_cores : ℕ
most_cores = 8

-- partitions
abbrev pub most_partitions : ℕ
most_partitions = 16

-- bytes of all extents together: 1 GiB
abbrev pub most_bytes : ℕ
most_bytes = 1073741824

-- bytes of the pages that regions are made of
abbrev pub page_size : ℕ
page_size = 4096

-- where logical and real addresses end: 2^36
abbrev pub address_end : ℕ
address_end = 68719476736

-- where the area ends that is mapped as a partition starts: 64 MiB
abbrev pub mapped_end : ℕ
mapped_end = 67108864

-- bytes at the end of the tree's window that are for spin entries
abbrev pub spin_room : ℕ
spin_room = 512

-- bytes from one spin entry to the next
abbrev pub spin_step : ℕ
spin_step = 64

-- bytes of a spin entry
abbrev pub spin_size : ℕ
spin_size = 24
