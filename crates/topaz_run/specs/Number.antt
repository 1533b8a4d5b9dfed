-- Numbers as words of the command line.
use Rattle.std.specs.Prelude.{ℕ, ◌&&◌, nat_le, List, Option, None, Some, if◌then◌else◌, decimal}
use Rattle.std.specs.Str.{bytes_eq}
use Rattle.std.specs.Str.Parse.{digits_value}

-- the number that the text spells in decimal: without a sign or a leading zero, and at most that large
abbrev pub number_of : ℕ → List ℕ → Option ℕ
number_of most text =
    if nat_le (digits_value 10 text) most && bytes_eq text (decimal (digits_value 10 text))
    then Some (digits_value 10 text)
    else None
