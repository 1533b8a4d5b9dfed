-- Faults are counted. What a count that rose means, and which name a fault is about.
use Rattle.std.specs.Prelude.{◌≡◌, ℕ, ◌+◌, ◌-◌, ◌^◌, ◌≤◌, min, List, Result, MatchResult}
use Rattle.outside.specs.declared.fault.OpenFault.{OpenFault}
use Rattle.outside.specs.declared.fault.OpenFault.TheVariants.{Failed, NoMemory}

-- the count after one more fault: it stands still at its type's end
abbrev pub raised : ℕ → ℕ
raised count = min (count + 1) (2 ^ 64 - 1)

-- the count rose: it is above what it was, or stands at its type's end
abbrev pub Rose : ℕ → ℕ → Type 0
Rose before now = raised before ≤ now

-- an opening that did not fail leaves the name of the last fault
abbrev pub SpareName : OpenFault → List ℕ → List ℕ → Type 0
SpareName Failed before now = Unit {0}
SpareName NoMemory before now = now ≡ before

abbrev pub BlamesNone : {T : Type 0} → Result T OpenFault → List ℕ → List ℕ → Type 0
BlamesNone r before now = MatchResult r (λ _. now ≡ before) (λ fault. SpareName fault before now)
