-- What the registers hold, how they report it, and what a miss leaves in them.
use Rattle.std.proofs.Common.{arith, refl, sym, subst, ◌≡◌, ℕ, ◌+◌, ◌-◌, ◌*◌, ◌/◌, ◌%◌, ◌^◌, ◌<◌, ◌==◌, Bool, true, false, cond}
use Rattle.mas.specs.declared.registers.Mas.{Mas}
use Rattle.mas.specs.declared.entry.Entry.{Entry}
use Rattle.mas.specs.Fields.{bit, epn_field, wimge_field, rpn_field, perms_field, tsize_default, wimge_default, tlbsel_field, esel_field, nv_field, tlbsel_default}
use Rattle.mas.specs.Translation.{Fits, entry_of, reporting, missed, mas1_of}
use Rattle.mas.specs.Laws.{HeldFits, ReportedIsHeld, MissReportsPage, MissSetsSearch, MissNamesVictim}

pub held_fits : HeldFits
unfolding entry_of
held_fits mas = record {
  tid_small = omega arith;
  tsize_small = omega arith;
  epn_small = omega arith;
  epn_whole = omega arith;
  wimge_small = omega arith;
  rpn_small = omega arith;
  rpn_whole = omega arith;
  perms_small = omega arith;
}

-- the same of an entry that is known to be what they hold
pub held_fits_at : (entry : Entry) (mas : Mas) → entry ≡ entry_of mas → Fits entry
held_fits_at entry mas e = let P : Entry → Type 0 = Fits in subst P (sym e) (held_fits mas)

-- A translation is its fields.
abbrev entry_with : Bool → Bool → ℕ → Bool → ℕ → ℕ → ℕ → ℕ → ℕ → Entry
entry_with valid iprot tid ts tsize epn wimge rpn perms = record { valid = valid; iprot = iprot; tid = tid; ts = ts; tsize = tsize; epn = epn; wimge = wimge; rpn = rpn; perms = perms }

same_fields : (v v' i i' : Bool) (t t' : ℕ) (s s' : Bool) (z z' e e' w w' r r' p p' : ℕ) → v ≡ v' → i ≡ i' → t ≡ t' → s ≡ s' → z ≡ z' → e ≡ e' → w ≡ w' → r ≡ r' → p ≡ p' →
    entry_with v i t s z e w r p ≡ entry_with v' i' t' s' z' e' w' r' p'
same_fields v v' i i' t t' s s' z z' e e' w w' r r' p p' hv hi ht hs hz he hw hr hp = cc

pub same_entry : (a b : Entry) → a.valid ≡ b.valid → a.iprot ≡ b.iprot → a.tid ≡ b.tid → a.ts ≡ b.ts → a.tsize ≡ b.tsize → a.epn ≡ b.epn → a.wimge ≡ b.wimge → a.rpn ≡ b.rpn → a.perms ≡ b.perms → a ≡ b
same_entry a b = same_fields a.valid b.valid a.iprot b.iprot a.tid b.tid a.ts b.ts a.tsize b.tsize a.epn b.epn a.wimge b.wimge a.rpn b.rpn a.perms b.perms

-- a bit is read as it was written
pub bit_small : (b : Bool) → bit b < 2
bit_small true = omega arith
bit_small false = omega arith

read_bit : (b : Bool) (n : ℕ) → n ≡ bit b → (n == 1) ≡ b
read_bit true n h = grind (arith, h)
read_bit false n h = grind (arith, h)

-- MAS1 has each field where it is read: the marks as numbers below 2
mas1_parts : (v i tid s tsize m1 : ℕ) → v < 2 → i < 2 → tid < 2 ^ 14 → s < 2 → tsize < 2 ^ 4 → m1 ≡ v * 2 ^ 31 + i * 2 ^ 30 + tid * 2 ^ 16 + s * 2 ^ 12 + tsize * 2 ^ 8 →
    (m1 / 2 ^ 31 % 2 ≡ v) × (m1 / 2 ^ 30 % 2 ≡ i) × (m1 / 2 ^ 16 % 2 ^ 14 ≡ tid) × (m1 / 2 ^ 12 % 2 ≡ s) × (m1 / 2 ^ 8 % 2 ^ 4 ≡ tsize)
mas1_parts v i tid s tsize m1 hv hi ht hs hz e = (omega arith, omega arith, omega arith, omega arith, omega arith)

-- the same of the other registers
mas2_parts : (epn wimge : ℕ) → epn < 2 ^ 32 → epn % 2 ^ 12 ≡ 0 → wimge < 2 ^ 5 → (epn_field (epn + wimge) ≡ epn) × (wimge_field (epn + wimge) ≡ wimge)
mas2_parts epn wimge he hw hs = (omega arith, omega arith)

mas3_parts : (rpn perms : ℕ) → rpn < 2 ^ 36 → rpn % 2 ^ 12 ≡ 0 → perms < 2 ^ 10 → (rpn_field (rpn / 2 ^ 32) (rpn % 2 ^ 32 + perms) ≡ rpn) × (perms_field (rpn % 2 ^ 32 + perms) ≡ perms)
mas3_parts rpn perms hr hw hp = (omega arith, omega arith)

pub reported_is_held : ReportedIsHeld
unfolding entry_of reporting
reported_is_held entry mas h =
    let one = mas1_parts (bit entry.valid) (bit entry.iprot) entry.tid (bit entry.ts) entry.tsize (mas1_of entry.valid entry.iprot entry.tid entry.ts entry.tsize) (bit_small entry.valid) (bit_small entry.iprot) h.tid_small (bit_small entry.ts) h.tsize_small refl in
    let two = mas2_parts entry.epn entry.wimge h.epn_small h.epn_whole h.wimge_small in
    let three = mas3_parts entry.rpn entry.perms h.rpn_small h.rpn_whole h.perms_small in
    same_entry (entry_of (reporting entry mas)) entry (read_bit entry.valid _ one.0) (read_bit entry.iprot _ one.1) one.2 (read_bit entry.ts _ one.3) one.4 two.0 two.1 three.0 three.1

pub miss_reports_page : MissReportsPage
unfolding entry_of missed
miss_reports_page mas pid space ea nv hp he =
    let one = mas1_parts 1 0 pid (bit space) (tsize_default mas.m4) (2 ^ 31 + pid * 2 ^ 16 + bit space * 2 ^ 12 + tsize_default mas.m4 * 2 ^ 8) (omega arith) (omega arith) hp (bit_small space) (omega arith) (omega arith) in
    let two = mas2_parts (ea - ea % 2 ^ 12) (wimge_default mas.m4) (omega arith) (omega arith) (omega arith) in
    same_entry (entry_of (missed mas pid space ea nv)) _ (read_bit true _ one.0) (read_bit false _ one.1) one.2 (read_bit space _ one.3) one.4 two.0 two.1 refl refl

pub miss_sets_search : MissSetsSearch
unfolding missed
miss_sets_search mas pid space ea nv hp =
    let small : bit space < 2 = bit_small space in
    let low : (pid * 2 ^ 16 + bit space) % 2 ≡ bit space = omega arith in (omega arith, read_bit space _ low)

-- MAS0 has each field where it is read
place_parts : (tlbsel nv : ℕ) (first : Bool) → tlbsel < 4 → nv < 2 ^ 12 →
    (tlbsel_field (tlbsel * 2 ^ 28 + cond first (nv * 2 ^ 16 + (nv + 1) % 4) 0) ≡ tlbsel)
    × (esel_field (tlbsel * 2 ^ 28 + cond first (nv * 2 ^ 16 + (nv + 1) % 4) 0) ≡ cond first nv 0)
    × (nv_field (tlbsel * 2 ^ 28 + cond first (nv * 2 ^ 16 + (nv + 1) % 4) 0) ≡ cond first ((nv + 1) % 4) 0)
place_parts tlbsel nv true ht hn = (omega arith, omega arith, omega arith)
place_parts tlbsel nv false ht hn = (omega arith, omega arith, omega arith)

pub miss_names_victim : MissNamesVictim
unfolding missed
miss_names_victim mas pid space ea nv hn =
    place_parts (tlbsel_default mas.m4) nv (tlbsel_default mas.m4 == 0) (omega arith) hn
