-- What the definitions mean together.
use Rattle.std.specs.Prelude.{◌≡◌, ℕ, ◌+◌, ◌-◌, ◌%◌, ◌^◌, ◌<◌, ◌==◌, Bool, true, false, if◌then◌else◌}
use Rattle.mas.specs.declared.registers.Mas.{Mas}
use Rattle.mas.specs.declared.entry.Entry.{Entry}
use Rattle.mas.specs.Fields.{tlbsel_field, esel_field, nv_field, tlbsel_default, tsize_default, wimge_default, spid_field, sas_bit}
use Rattle.mas.specs.Translation.{Fits, entry_of, reporting, missed}

-- What registers hold fits them.
abbrev pub HeldFits : Type 0
HeldFits = (mas : Mas) → Fits (entry_of mas)

-- The registers that report a translation that fits hold it.
abbrev pub ReportedIsHeld : Type 0
ReportedIsHeld = (entry : Entry) (mas : Mas) → Fits entry → entry_of (reporting entry mas) ≡ entry

-- A miss reports a valid translation of the page that missed, with the defaults, that leads nowhere yet.
abbrev pub MissReportsPage : Type 0
MissReportsPage =
    (mas : Mas) (pid : ℕ) (space : Bool) (ea nv : ℕ) → pid < 2 ^ 14 → ea < 2 ^ 32 →
    entry_of (missed mas pid space ea nv) ≡ record {
      valid = true;
      iprot = false;
      tid = pid;
      ts = space;
      tsize = tsize_default mas.m4;
      epn = ea - ea % 2 ^ 12;
      wimge = wimge_default mas.m4;
      rpn = 0;
      perms = 0;
    }

-- It names the default TLB, and of TLB0 the way of the counter and the next of the four.
abbrev pub MissNamesVictim : Type 0
MissNamesVictim =
    (mas : Mas) (pid : ℕ) (space : Bool) (ea nv : ℕ) → nv < 2 ^ 12 →
    let m0 = (missed mas pid space ea nv).m0 in
    let first = tlbsel_default mas.m4 == 0 in
    (tlbsel_field m0 ≡ tlbsel_default mas.m4)
    × (esel_field m0 ≡ (if first then nv else 0))
    × (nv_field m0 ≡ (if first then (nv + 1) % 4 else 0))

-- A search after a miss looks for what missed.
abbrev pub MissSetsSearch : Type 0
MissSetsSearch =
    (mas : Mas) (pid : ℕ) (space : Bool) (ea nv : ℕ) → pid < 2 ^ 14 →
    (spid_field (missed mas pid space ea nv).m6 ≡ pid) × (sas_bit (missed mas pid space ea nv).m6 ≡ space)
