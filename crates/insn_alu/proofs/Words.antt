-- Several registers as bytes.
use Rattle.std.proofs.Common.{◌≡◌, ℕ, suc, ◌+◌, ◌-◌, ◌*◌, ◌<◌, ◌≤◌, List, [], ◌∷◌, ◌++◌, length, take, drop, set, get_or, append_assoc, append-nil, add-one, refl, sym, ap, ◌∙◌, drop-cons, arith}
use Rattle.std.specs.List.{flat_map}
use Rattle.std.specs.Int.{w32, from_be_bytes, to_be_bytes}
use Rattle.std.proofs.lemmas.List.{drop-drop, take_more_set, take_all, drop_all}
use Rattle.guest_regs.specs.Registers.{Registers}
use Rattle.insn_alu.specs.Transfers.{words_in}

pub fill_start : (g bytes : List ℕ) (n k : ℕ) → take n g ++ words_in k (drop (4 * (n - n)) bytes) ≡ take n g ++ words_in k bytes
fill_start g bytes n k =
    let none : 4 * (n - n) ≡ 0 = omega arith in
    rw none refl

-- one more register takes one more word
pub fill_step : (g bytes : List ℕ) (n first w : ℕ) → n < 32 → first ≤ n → n < length g → w ≡ from_be_bytes w32 (take (4 * (n - first) + 4 - 4 * (n - first)) (drop (4 * (n - first)) bytes)) → take (n + 1) (set g n w) ++ words_in (32 - (n + 1)) (drop (4 * (n + 1 - first)) bytes) ≡ take n g ++ words_in (32 - n) (drop (4 * (n - first)) bytes)
fill_step g bytes n first w below from within is =
    let four : 4 * (n - first) + 4 - 4 * (n - first) ≡ 4 = omega arith in
    let word : w ≡ from_be_bytes w32 (take 4 (drop (4 * (n - first)) bytes)) = is ∙ ap (λ k. from_be_bytes w32 (take k (drop (4 * (n - first)) bytes))) four in
    let more : 32 - n ≡ suc (32 - (n + 1)) = omega arith in
    let place : 4 * (n + 1 - first) ≡ 4 * (n - first) + 4 = omega arith in
    let later : drop (4 * (n + 1 - first)) bytes ≡ drop 4 (drop (4 * (n - first)) bytes) = ap (λ k. drop k bytes) place ∙ sym (drop-drop 4 (4 * (n - first)) bytes) in
    rw (later, more, take_more_set g n w within, append_assoc (take n g) (w ∷ []) (words_in (32 - (n + 1)) (drop 4 (drop (4 * (n - first)) bytes)))) (ap (λ v. take n g ++ (v ∷ words_in (32 - (n + 1)) (drop 4 (drop (4 * (n - first)) bytes)))) word)

pub fill_end : (g later all : List ℕ) (n : ℕ) → n ≡ 32 → length g ≡ 32 → take n g ++ words_in (32 - n) later ≡ all → g ≡ all
fill_end g later all n last full is =
    let none : 32 - n ≡ 0 = omega arith in
    let whole : take n g ≡ g = take_all n g (omega arith) in
    let nothing : take n g ++ words_in (32 - n) later ≡ take n g ++ [] = ap (λ k. take n g ++ words_in k later) none in
    sym (append-nil g) ∙ ap (λ v. v ++ []) (sym whole) ∙ sym nothing ∙ is

-- one more register gives one more word
pub store_step : (bytes g : List ℕ) (n w : ℕ) → n < length g → w ≡ get_or g n 0 → (bytes ++ to_be_bytes w32 w) ++ flat_map (to_be_bytes w32) (drop (n + 1) g) ≡ bytes ++ flat_map (to_be_bytes w32) (drop n g)
store_step bytes g n w within is =
    rw (drop-cons g n 0 within, add-one, append_assoc bytes (to_be_bytes w32 w) (flat_map (to_be_bytes w32) (drop (suc n) g)), is) refl

pub store_end : (bytes g all : List ℕ) (n : ℕ) → n ≡ 32 → length g ≡ 32 → bytes ++ flat_map (to_be_bytes w32) (drop n g) ≡ all → bytes ≡ all
store_end bytes g all n last full is =
    let none : drop n g ≡ [] = drop_all n g (omega arith) in
    sym (append-nil bytes) ∙ ap (λ rest. bytes ++ flat_map (to_be_bytes w32) rest) (sym none) ∙ is

-- what stays beside the general registers
pub rest_step : (start now later : Registers) (g : List ℕ) → now ≡ record start { gpr = now.gpr } → later ≡ record now { gpr = g } → later ≡ record start { gpr = later.gpr }
rest_step start now later g same set =
    set
    ∙ ap (λ (r : Registers). record r { gpr = g }) same
    ∙ ap (λ (v : List ℕ). record start { gpr = v }) (sym (ap (λ (r : Registers). r.gpr) set))

pub rest_end : (start now : Registers) (g : List ℕ) → now ≡ record start { gpr = now.gpr } → now.gpr ≡ g → now ≡ record start { gpr = g }
rest_end start now g same is = same ∙ ap (λ (v : List ℕ). record start { gpr = v }) is
