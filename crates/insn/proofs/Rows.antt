-- Rows and keys choose the same instruction, and no two rows fit one word.
use Rattle.std.proofs.Common.{◌≡◌, ℕ, ◌+◌, ◌*◌, ◌/◌, ◌%◌, ◌^◌, ◌<◌, Bool, true, false, not, ◌&&◌, cond, eqb, ltb, List, [], ◌∷◌, ◌++◌, map, AllPairs, bit_and, refl, sym, ◌∙◌, ap, arith}
use Rattle.std.specs.List.{list_all, All}
use Rattle.std.proofs.lemmas.Nat.{and_assoc, and_comm}
use Rattle.std.proofs.lemmas.Bool.{and_parts, eqb-true, ltb-true, eq-eqb}
use Rattle.std.proofs.lemmas.Bool.Decides.{same_from_decides, Decides-eqb, Decides-and, Decides-like}
use Rattle.std.proofs.lemmas.List.Elements.{All-nil, All-cons}
use Rattle.std.proofs.lemmas.List.Kept.{AllPairs-cons}
use Rattle.insn.specs.declared.instruction.Op.{Op}
use Rattle.insn.specs.declared.instruction.Op.TheVariants.{Illegal}
use Rattle.insn.specs.Fields.{opcode}
use Rattle.insn.specs.Table.{Row, table, primary_map, map_19, map_31, fits, primary, system_call, extended, arithmetic, select, recorded, op_among, op_of, Exclude, AtMostOneFits}
use Rattle.insn.specs.Keys.{Key, Primary, SystemCall, Extension, Extended, Arithmetic, Select, Recorded, key_op, extension_op, opens, extends, by_keys, by_extensions, primary_keys, keys_19, comparisons, sums, high_products, products, selections, system_rows, indexed_rows, by_19, by_31, by_sums, by_high_products, by_products, by_selections, by_system_rows, by_indexed_rows, op_by_fields}
use Rattle.insn.proofs.Masks.{and_primary, and_system_call, and_extended, and_arithmetic, and_select, and_recorded}

-- the row of a key
abbrev row_of : Key → Row
row_of (Primary n op) = primary n op
row_of (SystemCall level op) = system_call level op

-- the row of an extension under a primary opcode
abbrev row_under : ℕ → Extension → Row
row_under n (Extended x op) = extended n x op
row_under n (Arithmetic x op) = arithmetic n x op
row_under n (Select x op) = select n x op
row_under n (Recorded x op) = recorded n x op

-- whether a word can have the fields
abbrev in_range : Key → Bool
in_range (Primary n op) = true
in_range (SystemCall level op) = ltb level 128

abbrev in_extended_range : Extension → Bool
in_extended_range (Extended x op) = ltb x 1024
in_extended_range (Arithmetic x op) = ltb x 512
in_extended_range (Select x op) = ltb x 32
in_extended_range (Recorded x op) = ltb x 1024

same_primary : (a n : ℕ) → eqb (a * 2 ^ 26) (n * 2 ^ 26) ≡ eqb a n
same_primary a n =
    same_from_decides _ _ (Decides-eqb (a * 2 ^ 26) (n * 2 ^ 26))
    (Decides-like (eqb a n) (λ (e : a ≡ n). omega arith) (λ (e : a * 2 ^ 26 ≡ n * 2 ^ 26). omega arith) (Decides-eqb a n))

same_system_call : (w l : ℕ) → l < 128 → eqb (w / 2 ^ 26 * 2 ^ 26 + w / 2 ^ 5 % 128 * 2 ^ 5 + w / 2 % 2 * 2) (17 * 2 ^ 26 + l * 2 ^ 5 + 2) ≡ (eqb (w / 2 ^ 26) 17 && eqb (w / 2 ^ 5 % 128) l && eqb (w / 2 % 2) 1)
same_system_call w l h =
    same_from_decides _ _ (Decides-eqb (w / 2 ^ 26 * 2 ^ 26 + w / 2 ^ 5 % 128 * 2 ^ 5 + w / 2 % 2 * 2) (17 * 2 ^ 26 + l * 2 ^ 5 + 2))
    (Decides-like _ (λ p. let one : w / 2 ^ 26 ≡ 17 = p.0.0 in let two : w / 2 ^ 5 % 128 ≡ l = p.0.1 in let three : w / 2 % 2 ≡ 1 = p.1 in omega arith)
    (λ e. ((omega arith, omega arith), omega arith))
    (Decides-and _ _ (Decides-and _ _ (Decides-eqb (w / 2 ^ 26) 17) (Decides-eqb (w / 2 ^ 5 % 128) l)) (Decides-eqb (w / 2 % 2) 1)))

-- two fields side by side, the second of at most 25 bits and one place from the right
same_pair : (a n y x : ℕ) → y < 1024 → x < 1024 → eqb (a * 2 ^ 26 + y * 2) (n * 2 ^ 26 + x * 2) ≡ (eqb a n && eqb y x)
same_pair a n y x high h =
    same_from_decides _ _ (Decides-eqb (a * 2 ^ 26 + y * 2) (n * 2 ^ 26 + x * 2))
    (Decides-like _ (λ p. let one : a ≡ n = p.0 in let two : y ≡ x = p.1 in omega arith)
    (λ e. (omega arith, omega arith))
    (Decides-and _ _ (Decides-eqb a n) (Decides-eqb y x)))

same_recorded : (w n x : ℕ) → x < 1024 → eqb (w / 2 ^ 26 * 2 ^ 26 + w % 2 ^ 11) (n * 2 ^ 26 + x * 2 + 1) ≡ (eqb (w / 2 ^ 26) n && (eqb (w / 2 % 1024) x && eqb (w % 2) 1))
same_recorded w n x h =
    same_from_decides _ _ (Decides-eqb (w / 2 ^ 26 * 2 ^ 26 + w % 2 ^ 11) (n * 2 ^ 26 + x * 2 + 1))
    (Decides-like _ (λ p. let one : w / 2 ^ 26 ≡ n = p.0 in let two : w / 2 % 1024 ≡ x = p.1.0 in let three : w % 2 ≡ 1 = p.1.1 in omega arith)
    (λ e. (omega arith, (omega arith, omega arith)))
    (Decides-and _ _ (Decides-eqb (w / 2 ^ 26) n) (Decides-and _ _ (Decides-eqb (w / 2 % 1024) x) (Decides-eqb (w % 2) 1))))

-- a word fits a key's row exactly where it has the key's fields
fits-row_of : (key : Key) (w : ℕ) → w < 2 ^ 32 → in_range key ≡ true → fits (row_of key) w ≡ opens key (opcode w) w
fits-row_of (Primary n op) w h r = rw (and_primary w h) (same_primary (w / 2 ^ 26) n)
fits-row_of (SystemCall level op) w h r = rw (and_system_call w h) (same_system_call w level (ltb-true level 128 r))

fits-row_under : (n : ℕ) (one : Extension) (w : ℕ) → w < 2 ^ 32 → in_extended_range one ≡ true → fits (row_under n one) w ≡ (eqb (opcode w) n && extends one w)
fits-row_under n (Extended x op) w h r = rw (and_extended w h) (same_pair (w / 2 ^ 26) n (w / 2 % 1024) x (omega arith) (ltb-true x 1024 r))
fits-row_under n (Arithmetic x op) w h r =
    let below : x < 512 = ltb-true x 512 r in
    rw (and_arithmetic w h) (same_pair (w / 2 ^ 26) n (w / 2 % 512) x (omega arith) (omega arith))
fits-row_under n (Select x op) w h r =
    let below : x < 32 = ltb-true x 32 r in
    rw (and_select w h) (same_pair (w / 2 ^ 26) n (w / 2 % 32) x (omega arith) (omega arith))
fits-row_under n (Recorded x op) w h r = rw (and_recorded w h) (same_recorded w n x (ltb-true x 1024 r))

op-row_of : (key : Key) → (row_of key).op ≡ key_op key
op-row_of (Primary n op) = refl
op-row_of (SystemCall level op) = refl

op-row_under : (n : ℕ) (one : Extension) → (row_under n one).op ≡ extension_op one
op-row_under n (Extended x op) = refl
op-row_under n (Arithmetic x op) = refl
op-row_under n (Select x op) = refl
op-row_under n (Recorded x op) = refl

-- the instruction of the first row that fits, or another
abbrev among : List Row → ℕ → Op → Op
among [] w other = other
among (row ∷ rows) w other = cond (fits row w) row.op (among rows w other)

among-op_among : (rows : List Row) (w : ℕ) → op_among rows w ≡ among rows w Illegal
among-op_among [] w = refl
among-op_among (row ∷ rows) w = rw (among-op_among rows w)

among-append : (rows later : List Row) (w : ℕ) (other : Op) → among (rows ++ later) w other ≡ among rows w (among later w other)
among-append [] later w other = refl
among-append (row ∷ rows) later w other = rw (among-append rows later w other)

among-row_of : (ks : List Key) (w : ℕ) (other : Op) → w < 2 ^ 32 → list_all in_range ks ≡ true → among (map row_of ks) w other ≡ by_keys ks other (opcode w) w
among-row_of [] w other h r = refl
among-row_of (key ∷ ks) w other h r =
    let parts = and_parts (in_range key) (list_all in_range ks) r in
    rw (fits-row_of key w h parts.0, op-row_of key, among-row_of ks w other h parts.1)

-- extensions that are looked at only under their primary opcode
abbrev guarded : Bool → List Extension → Op → ℕ → Op
guarded here [] other w = other
guarded here (one ∷ others) other w = cond (here && extends one w) (extension_op one) (guarded here others other w)

guarded-true : (es : List Extension) (other : Op) (w : ℕ) → guarded true es other w ≡ by_extensions es other w
guarded-true [] other w = refl
guarded-true (one ∷ others) other w = rw (guarded-true others other w)

guarded-false : (es : List Extension) (other : Op) (w : ℕ) → guarded false es other w ≡ other
guarded-false [] other w = refl
guarded-false (one ∷ others) other w = guarded-false others other w

guarded-cond : (here : Bool) (es : List Extension) (other : Op) (w : ℕ) → guarded here es other w ≡ cond here (by_extensions es other w) other
guarded-cond true es other w = guarded-true es other w
guarded-cond false es other w = guarded-false es other w

among-guarded : (n : ℕ) (es : List Extension) (w : ℕ) (other : Op) → w < 2 ^ 32 → list_all in_extended_range es ≡ true → among (map (row_under n) es) w other ≡ guarded (eqb (opcode w) n) es other w
among-guarded n [] w other h r = refl
among-guarded n (one ∷ others) w other h r =
    let parts = and_parts (in_extended_range one) (list_all in_extended_range others) r in
    rw (fits-row_under n one w h parts.0, op-row_under n one, among-guarded n others w other h parts.1)

among-row_under : (n : ℕ) (es : List Extension) (w : ℕ) (other : Op) → w < 2 ^ 32 → list_all in_extended_range es ≡ true → among (map (row_under n) es) w other ≡ cond (eqb (opcode w) n) (by_extensions es other w) other
among-row_under n es w other h r = among-guarded n es w other h r ∙ guarded-cond (eqb (opcode w) n) es other w

abbrev keys_31 : List Extension
keys_31 = comparisons ++ (sums ++ (high_products ++ (products ++ (selections ++ (system_rows ++ indexed_rows)))))

primary_map-keys : primary_map ≡ map row_of primary_keys
unfolding primary_map primary_keys
primary_map-keys = refl

map_19-keys : map_19 ≡ map (row_under 19) keys_19
unfolding map_19 keys_19
map_19-keys = refl

map_31-keys : map_31 ≡ map (row_under 31) keys_31
unfolding map_31 comparisons sums high_products products selections system_rows indexed_rows
map_31-keys = refl

keys_in_range : list_all in_range primary_keys ≡ true
unfolding primary_keys
keys_in_range = refl

keys_19_in_range : list_all in_extended_range keys_19 ≡ true
unfolding keys_19
keys_19_in_range = refl

keys_31_in_range : list_all in_extended_range keys_31 ≡ true
unfolding comparisons sums high_products products selections system_rows indexed_rows
keys_31_in_range = refl

by_31-keys : (w : ℕ) → by_extensions keys_31 Illegal w ≡ by_31 w
unfolding by_31 by_sums by_high_products by_products by_selections by_system_rows by_indexed_rows comparisons sums high_products products selections system_rows indexed_rows
by_31-keys w = refl

-- where one test rules another out
cond_either : (here there : Bool) (es : List Extension) (one other : Op) (w : ℕ) → (here ≡ true → there ≡ false) → cond here (by_extensions es (cond there one Illegal) w) other ≡ cond here (by_extensions es Illegal w) other
cond_either true there es one other w apart = rw (apart refl) refl
cond_either false there es one other w apart = refl

not_both : (first : ℕ) → eqb first 19 ≡ true → eqb first 31 ≡ false
not_both first one =
    let same : first ≡ 19 = eqb-true first 19 one in
    rw same refl

among-table : (w : ℕ) → w < 2 ^ 32 → among table w Illegal ≡ by_keys primary_keys (cond (eqb (opcode w) 19) (by_extensions keys_19 (cond (eqb (opcode w) 31) (by_31 w) Illegal) w) (cond (eqb (opcode w) 31) (by_31 w) Illegal)) (opcode w) w
unfolding table
among-table w h =
    rw (
      among-append primary_map (map_19 ++ map_31) w Illegal,
      among-append map_19 map_31 w Illegal,
      primary_map-keys,
      map_19-keys,
      map_31-keys,
      among-row_under 31 keys_31 w Illegal h keys_31_in_range,
      by_31-keys w,
      among-row_under 19 keys_19 w (cond (eqb (opcode w) 31) (by_31 w) Illegal) h keys_19_in_range,
    )
    (among-row_of primary_keys w _ h keys_in_range)

-- the first row that a word fits is the one that its fields open
pub op_of-fields : (w : ℕ) → w < 2 ^ 32 → op_of w ≡ op_by_fields (opcode w) w
unfolding op_of op_by_fields by_19
op_of-fields w h =
    among-op_among table w
    ∙ among-table w h
    ∙ ap (λ other. by_keys primary_keys other (opcode w) w) (cond_either (eqb (opcode w) 19) (eqb (opcode w) 31) keys_19 (by_31 w) _ w (not_both (opcode w)))

-- two rows that ask different things of a bit that both look at
abbrev disagree : Row → Row → Bool
disagree row other = not (eqb (bit_and row.word other.mask) (bit_and other.word row.mask))

abbrev all_disagree : List Row → Bool
all_disagree [] = true
all_disagree (row ∷ rows) = list_all (disagree row) rows && all_disagree rows

exclude : (row other : Row) → disagree row other ≡ true → Exclude row other
exclude row other differ w one two =
    let first : bit_and w row.mask ≡ row.word = eqb-true _ _ one in
    let second : bit_and w other.mask ≡ other.word = eqb-true _ _ two in
    let same : bit_and row.word other.mask ≡ bit_and other.word row.mask =
    ap (λ v. bit_and v other.mask) (sym first)
    ∙ and_assoc other.mask w row.mask
    ∙ ap (λ v. bit_and w v) (and_comm row.mask other.mask)
    ∙ sym (and_assoc row.mask w other.mask)
    ∙ ap (λ v. bit_and v row.mask) second in
    let test : eqb (bit_and row.word other.mask) (bit_and other.word row.mask) ≡ true = eq-eqb _ _ same in
    cc

exclude_all : (row : Row) (rows : List Row) → list_all (disagree row) rows ≡ true → All (Exclude row) rows
exclude_all row [] h = All-nil (Exclude row)
exclude_all row (other ∷ rows) h =
    let parts = and_parts (disagree row other) (list_all (disagree row) rows) h in
    All-cons (Exclude row) other rows (exclude row other parts.0) (exclude_all row rows parts.1)

AllPairs-from_disagree : (rows : List Row) → all_disagree rows ≡ true → AllPairs Exclude rows
AllPairs-from_disagree [] h = λ i j d before within. absurd (omega arith)
AllPairs-from_disagree (row ∷ rows) h =
    let parts = and_parts (list_all (disagree row) rows) (all_disagree rows) h in
    AllPairs-cons Exclude row rows (exclude_all row rows parts.0) (AllPairs-from_disagree rows parts.1)

table_disagrees : all_disagree table ≡ true
unfolding table primary_map map_19 map_31
table_disagrees = refl

pub at_most_one_fits : AtMostOneFits
at_most_one_fits = AllPairs-from_disagree table table_disagrees
