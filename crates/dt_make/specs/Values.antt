-- Values of properties as bytes (ePAPR 1.1, 2.2.4 "Properties").
use Rattle.std.specs.Prelude.{ℕ, List, [], ◌∷◌, ◌++◌}
use Rattle.std.specs.List.{flat_map}
use Rattle.byteorder.specs.Endian.{big_bytes}
use Rattle.dt_model.specs.declared.tree.Property.{Property}

-- a number of 32 bits, the highest byte first
abbrev pub cell : ℕ → List ℕ
cell number = big_bytes 4 number

-- several of them, one behind the other
abbrev pub cells : List ℕ → List ℕ
cells numbers = flat_map cell numbers

-- a number of 64 bits, which is two cells
abbrev pub double : ℕ → List ℕ
double number = big_bytes 8 number

-- the bytes, and the NUL that ends them
abbrev pub text : List ℕ → List ℕ
text bytes = bytes ++ 0 ∷ []

abbrev pub property : List ℕ → List ℕ → Property
property name value = record { name = name; value = value }
