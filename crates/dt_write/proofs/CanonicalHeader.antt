-- The header of a canonical blob, and the blocks that it names.
use Rattle.std.proofs.Common.{◌≡◌, ℕ, ◌+◌, ◌%◌, ◌<◌, ◌≤◌, ◌^◌, false, nat_lt, List, [], ◌++◌, length, take, drop, None, refl, sym, ap, ◌∙◌, arith, append_assoc, append-nil, length-append}
use Rattle.std.proofs.lemmas.Bool.{le-ltb}
use Rattle.std.proofs.lemmas.List.{take_at, drop_at}
use Rattle.byteorder.specs.Endian.{big_number}
use Rattle.byteorder.specs.Numbers.{big_number-reads_back}
use Rattle.dt_model.specs.Header.{Header, header_of, header_fault, words_fault, is_misplaced, reserve_part, structure_part, strings_part}
use Rattle.dt_model.specs.Canonical.{word, header_bytes, most_bytes}

-- a word at the front
reads : (n : ℕ) (rest : List ℕ) → n < 2 ^ 32 → big_number 4 (word n ++ rest) ≡ n
reads n rest small = big_number-reads_back 4 n rest small

-- what the header of these blocks says
abbrev pub said : ℕ → ℕ → ℕ → ℕ → Header
said boot_cpu r s t = record {
  magic = 0xd00dfeed;
  total_size = 40 + r + s + t;
  structure_at = 40 + r;
  strings_at = 40 + r + s;
  reserve_at = 40;
  version = 17;
  compatible_version = 16;
  boot_cpu = boot_cpu;
  strings_size = t;
  structure_size = s;
}

pub header_of-said : (boot_cpu r s t : ℕ) (rest : List ℕ) → boot_cpu < 2 ^ 32 → 40 + r + s + t ≤ most_bytes
    → header_of (header_bytes boot_cpu r s t ++ rest) ≡ said boot_cpu r s t
unfolding header_of header_bytes
header_of-said b r s t rest cpu few =
    let w10 = word s ++ rest in
    let w9 = word t ++ w10 in
    let w8 = word b ++ w9 in
    let w7 = word 16 ++ w8 in
    let w6 = word 17 ++ w7 in
    let w5 = word 40 ++ w6 in
    let w4 = word (40 + r + s) ++ w5 in
    let w3 = word (40 + r) ++ w4 in
    let w2 = word (40 + r + s + t) ++ w3 in
    let total : big_number 4 w2 ≡ 40 + r + s + t = reads (40 + r + s + t) w3 (omega arith) in
    let structure_at : big_number 4 w3 ≡ 40 + r = reads (40 + r) w4 (omega arith) in
    let strings_at : big_number 4 w4 ≡ 40 + r + s = reads (40 + r + s) w5 (omega arith) in
    let cpu_is : big_number 4 w8 ≡ b = reads b w9 cpu in
    let strings_size : big_number 4 w9 ≡ t = reads t w10 (omega arith) in
    let structure_size : big_number 4 w10 ≡ s = reads s rest (omega arith) in
    joined _ _ _ _ _ _ (40 + r + s + t) (40 + r) (40 + r + s) b t s total structure_at strings_at cpu_is strings_size structure_size
  where
    joined : (a1 a2 a3 a4 a5 a6 b1 b2 b3 b4 b5 b6 : ℕ) → a1 ≡ b1 → a2 ≡ b2 → a3 ≡ b3 → a4 ≡ b4 → a5 ≡ b5 → a6 ≡ b6
        → (let x : Header = record { magic = 0xd00dfeed; total_size = a1; structure_at = a2; strings_at = a3; reserve_at = 40; version = 17; compatible_version = 16; boot_cpu = a4; strings_size = a5; structure_size = a6 } in x)
        ≡ record { magic = 0xd00dfeed; total_size = b1; structure_at = b2; strings_at = b3; reserve_at = 40; version = 17; compatible_version = 16; boot_cpu = b4; strings_size = b5; structure_size = b6 }
    joined a1 a2 a3 a4 a5 a6 b1 b2 b3 b4 b5 b6 e1 e2 e3 e4 e5 e6 = cc

-- ---- the header keeps its rules

pub sound_header : (bytes : List ℕ) (boot_cpu r s t : ℕ) → header_of bytes ≡ said boot_cpu r s t → length bytes ≡ 40 + r + s + t → 40 + r + s + t ≤ most_bytes
    → r % 4 ≡ 0 → header_fault bytes ≡ None
unfolding header_fault words_fault is_misplaced
sound_header bytes b r s t is size few aligned =
    let long : nat_lt (length bytes) 40 ≡ false = le-ltb (length bytes) 40 (omega arith) in
    let whole : nat_lt (length bytes) (40 + r + s + t) ≡ false = le-ltb (length bytes) (40 + r + s + t) (omega arith) in
    let total : nat_lt (40 + r + s + t) 40 ≡ false = le-ltb (40 + r + s + t) 40 (omega arith) in
    let small : nat_lt most_bytes (40 + r + s + t) ≡ false = le-ltb most_bytes (40 + r + s + t) few in
    let structure_at : nat_lt (40 + r) 40 ≡ false = le-ltb (40 + r) 40 (omega arith) in
    let strings_at : nat_lt (40 + r + s) 40 ≡ false = le-ltb (40 + r + s) 40 (omega arith) in
    let structure_end : nat_lt (40 + r + s + t) (40 + r + s) ≡ false = le-ltb (40 + r + s + t) (40 + r + s) (omega arith) in
    let strings_end : nat_lt (40 + r + s + t) (40 + r + s + t) ≡ false = le-ltb (40 + r + s + t) (40 + r + s + t) (omega arith) in
    let on_a_word : (40 + r) % 4 ≡ 0 = omega arith in
    rw (is, long, whole, total, small, structure_at, strings_at, structure_end, strings_end, on_a_word) refl

-- ---- the blocks

blocks : (h r s t : List ℕ) → h ++ (r ++ (s ++ t)) ≡ (h ++ r) ++ (s ++ t)
blocks h r s t = sym (append_assoc h r (s ++ t))

last_block : (h r s t : List ℕ) → h ++ (r ++ (s ++ t)) ≡ ((h ++ r) ++ s) ++ (t ++ [])
last_block h r s t = blocks h r s t ∙ sym (append_assoc (h ++ r) s t) ∙ ap (λ (l : List ℕ). ((h ++ r) ++ s) ++ l) (sym (append-nil t))

taken : (xs : List ℕ) (n : ℕ) → length xs ≡ n → take n xs ≡ xs
taken xs n is = ap (take n) (sym (append-nil xs)) ∙ take_at xs [] n is

pub reserve_part-is : (bytes h r s t : List ℕ) (boot_cpu : ℕ) → bytes ≡ h ++ (r ++ (s ++ t)) → length h ≡ 40
    → header_of bytes ≡ said boot_cpu (length r) (length s) (length t) → length bytes ≡ 40 + length r + length s + length t → reserve_part bytes ≡ r ++ (s ++ t)
unfolding reserve_part
reserve_part-is bytes h r s t boot_cpu parts head is size =
    ap (λ (x : Header). drop x.reserve_at (take x.total_size bytes)) is ∙ ap (drop 40) (taken bytes (40 + length r + length s + length t) size ∙ parts)
    ∙ drop_at h (r ++ (s ++ t)) 40 head

pub structure_part-is : (bytes h r s t : List ℕ) (boot_cpu : ℕ) → bytes ≡ h ++ (r ++ (s ++ t)) → length h ≡ 40
    → header_of bytes ≡ said boot_cpu (length r) (length s) (length t) → structure_part bytes ≡ s
unfolding structure_part
structure_part-is bytes h r s t boot_cpu parts head is =
    let front : length (h ++ r) ≡ 40 + length r = omega (arith, length-append h r) in
    ap (λ (x : Header). take x.structure_size (drop x.structure_at bytes)) is
    ∙ ap (λ (l : List ℕ). take (length s) (drop (40 + length r) l)) (parts ∙ blocks h r s t)
    ∙ ap (take (length s)) (drop_at (h ++ r) (s ++ t) (40 + length r) front) ∙ take_at s t (length s) refl

pub strings_part-is : (bytes h r s t : List ℕ) (boot_cpu : ℕ) → bytes ≡ h ++ (r ++ (s ++ t)) → length h ≡ 40
    → header_of bytes ≡ said boot_cpu (length r) (length s) (length t) → strings_part bytes ≡ t
unfolding strings_part
strings_part-is bytes h r s t boot_cpu parts head is =
    let front : length ((h ++ r) ++ s) ≡ 40 + length r + length s = omega (arith, length-append h r, length-append (h ++ r) s) in
    ap (λ (x : Header). take x.strings_size (drop x.strings_at bytes)) is
    ∙ ap (λ (l : List ℕ). take (length t) (drop (40 + length r + length s) l)) (parts ∙ last_block h r s t)
    ∙ ap (take (length t)) (drop_at ((h ++ r) ++ s) (t ++ []) (40 + length r + length s) front) ∙ take_at t [] (length t) refl
