-- The counts and sizes that a configuration keeps, beside those of descriptions.
use Rattle.std.specs.Prelude.{ℕ}

-- characters of a name
abbrev pub longest_name : ℕ
longest_name = 31

-- areas of real memory
abbrev pub most_areas : ℕ
most_areas = 64

-- byte channels
abbrev pub most_channels : ℕ
most_channels = 64

-- doorbells
abbrev pub most_bells : ℕ
most_bells = 64

-- bytes of the window for a partition's device tree: 1 MiB
abbrev pub largest_window : ℕ
largest_window = 1048576
