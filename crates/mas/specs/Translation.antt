-- A translation, and the MAS registers that hold it (Power ISA 2.06, Book III-E, chapter 6).
use Rattle.std.specs.Prelude.{◌≡◌, ℕ, ◌+◌, ◌-◌, ◌*◌, ◌/◌, ◌%◌, ◌^◌, ◌<◌, ◌==◌, Bool, if◌then◌else◌}
use Rattle.mas.specs.declared.registers.Mas.{Mas}
use Rattle.mas.specs.declared.entry.Entry.{Entry}
use Rattle.mas.specs.Fields.{bit, v_bit, iprot_bit, tid_field, ts_bit, tsize_field, epn_field, wimge_field, rpn_field, perms_field, tlbsel_default, tsize_default, wimge_default}

-- each field of a translation is as wide as its field in the registers
pub record Fits (entry : Entry) : Type 0 where
  pub tid_small : entry.tid < 2 ^ 14
  pub tsize_small : entry.tsize < 2 ^ 4
  pub epn_small : entry.epn < 2 ^ 32
  pub epn_whole : entry.epn % 2 ^ 12 ≡ 0
  pub wimge_small : entry.wimge < 2 ^ 5
  pub rpn_small : entry.rpn < 2 ^ 36
  pub rpn_whole : entry.rpn % 2 ^ 12 ≡ 0
  pub perms_small : entry.perms < 2 ^ 10

-- the translation that the registers hold
unfoldable pub entry_of : Mas → Entry
entry_of mas = record {
  valid = v_bit mas.m1;
  iprot = iprot_bit mas.m1;
  tid = tid_field mas.m1;
  ts = ts_bit mas.m1;
  tsize = tsize_field mas.m1;
  epn = epn_field mas.m2;
  wimge = wimge_field mas.m2;
  rpn = rpn_field mas.m7 mas.m3;
  perms = perms_field mas.m3;
}

-- MAS1 of these fields
abbrev pub mas1_of : Bool → Bool → ℕ → Bool → ℕ → ℕ
mas1_of valid iprot tid ts tsize = bit valid * 2 ^ 31 + bit iprot * 2 ^ 30 + tid * 2 ^ 16 + bit ts * 2 ^ 12 + tsize * 2 ^ 8

-- the registers when they report a translation: which TLB, the defaults and the search stay
unfoldable pub reporting : Entry → Mas → Mas
reporting entry mas = record mas {
  m1 = mas1_of entry.valid entry.iprot entry.tid entry.ts entry.tsize;
  m2 = entry.epn + entry.wimge;
  m3 = entry.rpn % 2 ^ 32 + entry.perms;
  m7 = entry.rpn / 2 ^ 32;
}

-- Where a miss would have its translation put: into the default TLB, and of TLB0 into the way of the counter, behind which
-- the next of the four ways follows.
abbrev pub victim : ℕ → ℕ → ℕ
victim tlbsel nv = tlbsel * 2 ^ 28 + (if tlbsel == 0 then nv * 2 ^ 16 + (nv + 1) % 4 else 0)

-- the registers after a TLB error of a PID in an address space at an effective address: the default translation for its page
unfoldable pub missed : Mas → ℕ → Bool → ℕ → ℕ → Mas
missed mas pid space ea nv = record {
  m0 = victim (tlbsel_default mas.m4) nv;
  m1 = 2 ^ 31 + pid * 2 ^ 16 + bit space * 2 ^ 12 + tsize_default mas.m4 * 2 ^ 8;
  m2 = ea - ea % 2 ^ 12 + wimge_default mas.m4;
  m3 = 0;
  m4 = mas.m4;
  m6 = pid * 2 ^ 16 + bit space;
  m7 = 0;
}
