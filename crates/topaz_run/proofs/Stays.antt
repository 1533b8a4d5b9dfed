-- What enters from consoles leaves the count of each partition's steps as it is.
use Rattle.std.proofs.Common.{◌≡◌, ℕ, zero, suc, ◌+◌, List, [], ◌∷◌, map, take, slice_index_or, slice_set, Option, Some, None, refl, sym, ap, ◌∙◌}
use Rattle.std.proofs.Math.ListN.{get_or-map}
use Rattle.std.proofs.Math.Seq.{map-set_same}
use Rattle.machine_desc.specs.declared.wiring.PortRef.{PortRef}
use Rattle.machine_desc.specs.declared.wiring.End.{End}
use Rattle.machine_desc.specs.declared.wiring.End.TheVariants.{Part, Console}
use Rattle.partition.specs.Event.{Bytes, apply}
use Rattle.partition.specs.Machine.{Machine, fresh}
use Rattle.partition.specs.Reached.{Takes}
use Rattle.network.specs.Network.{Network, no_desc, desc_at, far_end}
use Rattle.network.specs.Change.{Moves, changed}
use Rattle.network.specs.World.{World, machine_at, after_log, delivered}
use Rattle.network.specs.Entering.{received_room, come_to, entered_at, enter, enter_all, waiting}
use Rattle.topaz_run.proofs.Rounds.{enters-next}

abbrev pub KeepsSteps : World → World → Type 0
KeepsSteps before after = (part : ℕ) → (machine_at after.machines part).inner.steps ≡ (machine_at before.machines part).inner.steps

steps-of : Machine → ℕ
steps-of machine = machine.inner.steps

at-part : (machines : List Machine) (part : ℕ) → slice_index_or (map steps-of machines) part (steps-of (fresh no_desc)) ≡ (machine_at machines part).inner.steps
unfolding steps-of
at-part machines part = get_or-map steps-of machines part (fresh no_desc)

same-after : (machines : List Machine) (place : ℕ) (machine : Machine) → machine.inner.steps ≡ (machine_at machines place).inner.steps
    → (part : ℕ) → (machine_at (slice_set machines place machine) part).inner.steps ≡ (machine_at machines part).inner.steps
unfolding steps-of
same-after machines place machine same part =
    sym (at-part (slice_set machines place machine) part)
    ∙ ap (λ (counts : List ℕ). slice_index_or counts part (steps-of (fresh no_desc))) (map-set_same steps-of machines place machine (fresh no_desc) same)
    ∙ at-part machines part

come-stays : (network : Network) (ref : PortRef) (bytes : List ℕ) (machines : List Machine) (part : ℕ)
    → (machine_at (after_log network (map delivered (come_to ref bytes)) machines) part).inner.steps ≡ (machine_at machines part).inner.steps
unfolding changed apply
come-stays network ref [] machines part = refl
come-stays network ref (byte ∷ bytes) machines part =
    same-after machines ref.part (changed (desc_at network ref.part) (Moves (Takes (Bytes ref.handle (byte ∷ bytes)))) (machine_at machines ref.part)) refl part

at-stays : (network : Network) (end : Option End) (console : ℕ) (bytes : List ℕ) (world : World) → KeepsSteps world (entered_at network end console bytes world).after
at-stays network None console bytes world part = refl
at-stays network (Some (Console other)) console bytes world part = refl
at-stays network (Some (Part ref)) console bytes world part = come-stays network ref (take (received_room world.machines ref) bytes) world.machines part

enter-stays : (network : Network) (console : ℕ) (bytes : List ℕ) (world : World) → KeepsSteps world (enter network console bytes world).after
unfolding enter
enter-stays network console bytes world = at-stays network (far_end network.wiring.links (Console console)) console bytes world

pub entering_stays : (network : Network) (given : ℕ → List ℕ) (console more : ℕ) (world : World) → KeepsSteps world (enter_all network given console more world).after
entering_stays network given console zero world part = refl
entering_stays network given console (suc more) world part =
    let first = (enter network console (waiting (given console) world.consoles console) world).after in
    ap (λ (world : World). (machine_at world.machines part).inner.steps) (enters-next network given console more world)
    ∙ entering_stays network given (console + 1) more first part
    ∙ enter-stays network console (waiting (given console) world.consoles console) world part
