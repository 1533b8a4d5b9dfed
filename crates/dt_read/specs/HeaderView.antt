-- The header that the code keeps, as the definition's.
use Rattle.std.specs.Prelude.{◌+◌, ◌≤◌}
use Rattle.dt_model.specs.Header as model
use Rattle.dt_read.specs.declared.header.Header.{Header}

abbrev pub header_view : Header → model.Header
header_view header = record {
  magic = header.magic;
  total_size = header.total_size;
  structure_at = header.structure_at;
  strings_at = header.strings_at;
  reserve_at = header.reserve_at;
  version = header.version;
  compatible_version = header.compatible_version;
  boot_cpu = header.boot_cpu;
  strings_size = header.strings_size;
  structure_size = header.structure_size;
}

-- the blocks end inside the blob
abbrev pub AreWithin : Header → Type 0
AreWithin header =
    (header.structure_at + header.structure_size ≤ header.total_size) × (header.strings_at + header.strings_size ≤ header.total_size)
