-- The reserve map of a canonical blob.
use Rattle.std.proofs.Common.{◌≡◌, ℕ, ◌<◌, ◌^◌, List, [], ◌∷◌, ◌++◌, refl, ap, ◌∙◌, arith}
use Rattle.byteorder.specs.Endian.{big_number, big_bytes}
use Rattle.byteorder.specs.Numbers.{big_number-reads_back}
use Rattle.dt_model.specs.declared.tree.Reserve.{Reserve}
use Rattle.dt_model.specs.Reserve.{IsReserveMap, entry_of}
use Rattle.dt_model.specs.Canonical.{entry_bytes, reserve_map_of}
use Rattle.dt_model.specs.Typed.{AreDoubles}

entry_read : (entry : Reserve) (rest : List ℕ) → entry.address < 2 ^ 64 → entry.size < 2 ^ 64 → entry_of (entry_bytes entry ++ rest) ≡ entry
unfolding entry_of
entry_read entry rest address size =
    let first : big_number 8 (big_bytes 8 entry.address ++ (big_bytes 8 entry.size ++ rest)) ≡ entry.address =
    big_number-reads_back 8 entry.address (big_bytes 8 entry.size ++ rest) address in
    let second : big_number 8 (big_bytes 8 entry.size ++ rest) ≡ entry.size = big_number-reads_back 8 entry.size rest size in
    ap (λ n. record { address = n; size = big_number 8 (big_bytes 8 entry.size ++ rest) }) first
    ∙ ap (λ n. record { address = entry.address; size = n }) second

pub map_read : (entries : List Reserve) (rest : List ℕ) → AreDoubles entries → IsReserveMap (reserve_map_of entries ++ rest) entries
unfolding entry_of
map_read [] rest typed = (omega arith, refl)
map_read (entry ∷ entries) rest typed =
    (omega arith, entry_read entry (reserve_map_of entries ++ rest) typed.0 typed.1, map_read entries rest typed.2)
