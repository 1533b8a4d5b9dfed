-- The longest file that is read.
use Rattle.std.specs.Prelude.{ℕ}

-- in bytes: 64 MiB
abbrev pub file_limit : ℕ
file_limit = 67108864
