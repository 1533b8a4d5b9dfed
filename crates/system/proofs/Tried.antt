-- What the tests' system begins with.
use Rattle.std.proofs.Common.{◌≡◌, ℕ, zero, suc, ◌<◌, List, [], ◌∷◌, length, slice_index_or, ap, ◌∙◌, arith}
use Rattle.machine_desc.specs.declared.desc.Desc.{Desc}
use Rattle.machine_desc.specs.declared.wiring.Wiring.{Wiring}
use Rattle.partition.specs.Machine.{most_steps}
use Rattle.network.specs.Network.{no_desc}
use Rattle.network.specs.Tally.{no_tally}
use Rattle.network.specs.World.{machine_at, opening_world}
use Rattle.system.specs.System.{Snapshot, HaveOneCore}
use Rattle.system.proofs.Opened.{opening_steps}

one_at : (a b : Desc) (part : ℕ) → length a.cores ≡ 1 → length b.cores ≡ 1 → part < length (a ∷ (b ∷ [])) → length (slice_index_or (a ∷ (b ∷ [])) part no_desc).cores ≡ 1
one_at a b zero p q there = p
one_at a b (suc zero) p q there = q
one_at a b (suc (suc part)) p q there = absurd (omega (arith, there))

pub two_of_one : (a b : Desc) → length a.cores ≡ 1 → length b.cores ≡ 1 → HaveOneCore (a ∷ (b ∷ []))
two_of_one a b p q = record { one = λ part there. one_at a b part p q there }

pub opens_few : (made : Snapshot) (descs : List Desc) (wiring : Wiring) (part : ℕ)
    → made ≡ record { network = record { descs = descs; wiring = wiring }; world = opening_world (record { descs = descs; wiring = wiring }); tally = no_tally } → (machine_at made.world.machines part).inner.steps < most_steps
opens_few made descs wiring part e =
    let none : (machine_at made.world.machines part).inner.steps ≡ 0 = ap (λ (s : Snapshot). (machine_at s.world.machines part).inner.steps) e ∙ opening_steps (record { descs = descs; wiring = wiring }) part in
    omega (arith, none)
