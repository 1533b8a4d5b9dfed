-- Where nothing is stored in a shared area, no partition hears of it.
use Rattle.std.proofs.Common.{◌≡◌, ℕ, ◌==◌, Bool, true, false, if◌then◌else◌, List, [], ◌∷◌, length, map, Option, Some, None, refl, sym, ap, ◌∙◌, arith}
use Rattle.core_step.specs.declared.answer.Wrote.{Wrote}
use Rattle.core_step.specs.Step.{with_reserved}
use Rattle.machine_desc.specs.declared.desc.Region.{Region}
use Rattle.partition.specs.Machine.{Cpu}
use Rattle.partition.specs.Reservations.{kept_reservation, with_kept}
use Rattle.partition.specs.Lending.{Part as Member}
use Rattle.system.specs.System.{part_at}
use Rattle.system.specs.Turning.{Hears, kept_part}

reservation_stays : (regions : List Region) (reserved : Option ℕ) → kept_reservation regions [] reserved ≡ reserved
reservation_stays regions None = refl
reservation_stays regions (Some granule) = refl

abbrev reserving : Cpu → Option ℕ → Cpu
reserving cpu reserved = record cpu { registers = with_reserved reserved cpu.registers }

cpu_stays : (regions : List Region) (cpu : Cpu) → with_kept regions [] cpu ≡ cpu
cpu_stays regions cpu = ap (reserving cpu) (reservation_stays regions cpu.registers.reserved)

cpus_stay : (regions : List Region) (cpus : List Cpu) → map (with_kept regions []) cpus ≡ cpus
cpus_stay regions [] = refl
cpus_stay regions (cpu ∷ cpus) = ap (λ (it : Cpu). it ∷ map (with_kept regions []) cpus) (cpu_stays regions cpu) ∙ ap (λ (its : List Cpu). cpu ∷ its) (cpus_stay regions cpus)

abbrev with_cores : Member → List Cpu → Member
with_cores part cores = record part { inner = record part.inner { cores = cores } }

part_stays : (part : Member) → kept_part [] part ≡ part
part_stays part = ap (with_cores part) (cpus_stay part.desc.regions part.inner.cores)

either : (b : Bool) (part : Member) → part ≡ (if b then part else kept_part [] part)
either true part = refl
either false part = sym (part_stays part)

pub none_stored : (who : ℕ) (stored : List Wrote) (parts : List Member) → length stored ≡ 0 → Hears who stored parts parts
none_stored who [] parts none = record { count = refl; each = λ part there. either (part == who) (part_at parts part) }
none_stored who (wrote ∷ stored) parts none = let it : ⊥ = omega (arith, none) in absurd it
