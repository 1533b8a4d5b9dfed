-- The memory reservation block (ePAPR 1.1, 8.3 "Memory Reservation Block").
use Rattle.std.specs.Prelude.{◌≡◌, ◌≤◌, ℕ, List, [], ◌∷◌, length, drop}
use Rattle.byteorder.specs.Endian.{big_number}
use Rattle.dt_model.specs.declared.tree.Reserve.{Reserve}

-- the entry at the front: an address and a size of eight bytes each
unfoldable pub entry_of : List ℕ → Reserve
entry_of bytes = record { address = big_number 8 bytes; size = big_number 8 (drop 8 bytes) }

abbrev pub last_entry : Reserve
last_entry = record { address = 0; size = 0 }

-- the bytes begin with these entries, and with the two zeros behind them
abbrev pub IsReserveMap : List ℕ → List Reserve → Type 0
IsReserveMap bytes [] = (16 ≤ length bytes) × (entry_of bytes ≡ last_entry)
IsReserveMap bytes (entry ∷ entries) = (16 ≤ length bytes) × (entry_of bytes ≡ entry) × IsReserveMap (drop 16 bytes) entries
