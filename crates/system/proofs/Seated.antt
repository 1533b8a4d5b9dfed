-- One partition after another, in search of a core.
use Rattle.std.proofs.Common.{◌≡◌, ℕ, ◌+◌, ◌<◌, Bool, false, if◌then◌else◌, List, drop, length, slice_index_or, Option, Some, None, refl, sym, ap, ◌∙◌, arith, drop-cons, drop_of_length-le, add-one}
use Rattle.std.proofs.lemmas.List.{length-map, get_or-map}
use Rattle.machine_desc.specs.declared.desc.Desc.{Desc}
use Rattle.partition.specs.Machine.{place_in}
use Rattle.partition.specs.Lending.{Part}
use Rattle.machine_desc.specs.declared.act.State.{State}
use Rattle.machine_desc.specs.declared.act.State.TheVariants.{Running}
use Rattle.network.specs.Network.{Network, Seat as Owned, no_desc, seated, owner_from, owner_of}
use Rattle.network.specs.World.{World, machine_at, passed}
use Rattle.network.specs.Turn.{is_running, seat_turn, core_turn, steps_in}
use Rattle.system.specs.System.{descs_of}

owner_step : (parts : List Part) (part number : ℕ) (d : Part) → part < length parts
    → owner_from part (drop part (descs_of parts)) number ≡ seated (place_in (slice_index_or parts part d).desc.cores number) part (owner_from (part + 1) (drop (part + 1) (descs_of parts)) number)
owner_step parts part number d there =
    let long : length (descs_of parts) ≡ length parts = length-map parts (λ (p : Part). p.desc) in
    ap (λ (l : List Desc). owner_from part l number) (drop-cons (descs_of parts) part no_desc (omega (arith, there, long)))
    ∙ (ap (λ (n : ℕ). seated (place_in (slice_index_or (descs_of parts) part no_desc).cores number) part (owner_from (part + 1) (drop n (descs_of parts)) number)) (sym (add-one part))
    ∙ ap (λ (desc : Desc). seated (place_in desc.cores number) part (owner_from (part + 1) (drop (part + 1) (descs_of parts)) number)) (get_or-map (λ (p : Part). p.desc) parts part d no_desc there))

pub seat_here : (parts : List Part) (part number core : ℕ) (d : Part) → part < length parts → place_in (slice_index_or parts part d).desc.cores number ≡ Some core
    → owner_from part (drop part (descs_of parts)) number ≡ Some (record { part = part; core = core })
seat_here parts part number core d there e =
    owner_step parts part number d there ∙ ap (λ (o : Option ℕ). seated o part (owner_from (part + 1) (drop (part + 1) (descs_of parts)) number)) e

pub seat_behind : (parts : List Part) (part number : ℕ) (d : Part) → part < length parts → place_in (slice_index_or parts part d).desc.cores number ≡ None
    → owner_from (part + 1) (drop (part + 1) (descs_of parts)) number ≡ owner_from part (drop part (descs_of parts)) number
seat_behind parts part number d there e =
    sym (owner_step parts part number d there ∙ ap (λ (o : Option ℕ). seated o part (owner_from (part + 1) (drop (part + 1) (descs_of parts)) number)) e)

pub no_seat_left : (parts : List Part) (part number : ℕ) → part ≡ length parts → owner_from part (drop part (descs_of parts)) number ≡ None
no_seat_left parts part number last =
    let long : length (descs_of parts) ≡ length parts = length-map parts (λ (p : Part). p.desc) in
    ap (λ (l : List Desc). owner_from part l number) (drop_of_length-le (descs_of parts) {i = part} (omega (arith, last, long)))

-- ---- its turn

pub seat_runs : (network : Network) (number : ℕ) (world : World) (seat : Owned) → owner_of network number ≡ Some seat → (machine_at world.machines seat.part).inner.state ≡ Running
    → core_turn network (Some number) world ≡ steps_in network seat.part seat.core world
seat_runs network number world seat e runs =
    ap (λ (o : Option Owned). seat_turn network o world) e ∙ ap (λ (s : State). if is_running s then steps_in network seat.part seat.core world else passed world) runs

rests : (s : State) → (s ≡ Running → ⊥) → is_running s ≡ false
rests Running h = absurd (h refl)
rests _ h = refl

pub seat_rests : (network : Network) (number : ℕ) (world : World) (seat : Owned) → owner_of network number ≡ Some seat → ((machine_at world.machines seat.part).inner.state ≡ Running → ⊥)
    → core_turn network (Some number) world ≡ passed world
seat_rests network number world seat e halted =
    ap (λ (o : Option Owned). seat_turn network o world) e
    ∙ ap (λ (b : Bool). if b then steps_in network seat.part seat.core world else passed world) (rests (machine_at world.machines seat.part).inner.state halted)
