-- What each entry of bytes and each step keeps holds all along a run.
use Rattle.std.proofs.Common.{◌≡◌, ℕ, zero, suc, ◌+◌, ◌<◌, ◌==◌, Bool, true, false, List, [], ◌∷◌, map, length, take, Option, Some, None, refl, sym, ap, subst, ◌∙◌, if◌then◌else◌, arith}
use Rattle.std.specs.Prelude.{slice_index_or}
use Rattle.std.proofs.lemmas.List.Quantifiers.{position-Some}
use Rattle.machine_desc.specs.declared.desc.Desc.{Desc}
use Rattle.machine_desc.specs.declared.wiring.PortRef.{PortRef}
use Rattle.machine_desc.specs.declared.wiring.End.{End}
use Rattle.machine_desc.specs.declared.wiring.End.TheVariants.{Part, Console}
use Rattle.partition.specs.Machine.{Machine, place_in}
use Rattle.partition.specs.Reached.{Move}
use Rattle.network.specs.Network.{Network, no_desc, desc_at, far_end, Seat, seated, owner_from, owner_of}
use Rattle.network.specs.World.{Entry, delivered, World, Passage, passed, and_then, machine_at, after_log, opening_world}
use Rattle.network.specs.Entering.{received_room, come_to, entered_at, enter, enter_all, waiting}
use Rattle.network.specs.Turn.{done_by, log_of, steps_in, is_running, seat_turn, core_turn, core_in, Script, given_at, turn, turns_from, run}
use Rattle.network.proofs.Logs.{after_both}
use Rattle.isolation.proofs.Each.{Each, each_both}

-- ---- what is kept

-- each change of a log holds at its time, and the machines behind it are sound
abbrev pub Keeps : (Desc → Move → Machine → Type 0) → (List Machine → Type 0) → Network → List Entry → List Machine → Type 0
Keeps P Sound network log machines = Each P network log machines × Sound (after_log network log machines)

-- bytes that enter where there is room
abbrev pub Enters : (Desc → Move → Machine → Type 0) → (List Machine → Type 0) → Network → Type 0
Enters P Sound network =
    (ref : PortRef) (console : ℕ) (bytes : List ℕ) (machines : List Machine) → Sound machines → far_end network.wiring.links (Console console) ≡ Some (Part ref)
    → Keeps P Sound network (map delivered (come_to ref (take (received_room machines ref) bytes))) machines

-- a step on a core of a partition that runs
abbrev pub Does : (Desc → Move → Machine → Type 0) → (List Machine → Type 0) → Network → Type 0
Does P Sound network =
    (part core : ℕ) (machines : List Machine) → Sound machines → is_running (machine_at machines part).inner.state ≡ true → core < length (desc_at network part).cores
    → Keeps P Sound network (log_of network machines part core (done_by network machines part core)) machines

pub record Passes (P : Desc → Move → Machine → Type 0) (Sound : List Machine → Type 0) (network : Network) (world : World) (done : Passage) : Type 0 where
  pub machines : done.after.machines ≡ after_log network done.log world.machines
  pub each : Each P network done.log world.machines
  pub sound : Sound done.after.machines

stays : (P : Desc → Move → Machine → Type 0) (Sound : List Machine → Type 0) (network : Network) (world : World) → Sound world.machines → Passes P Sound network world (passed world)
stays P Sound network world sound = record { machines = refl; each = tt; sound = sound }

and_passes : (P : Desc → Move → Machine → Type 0) (Sound : List Machine → Type 0) (network : Network) (world : World) (first : Passage) (rest : World → Passage) → Passes P Sound network world first
    → Passes P Sound network first.after (rest first.after) → Passes P Sound network world (and_then first rest)
and_passes P Sound network world first rest g h = record {
  machines = h.machines ∙ (ap (after_log network (rest first.after).log) g.machines ∙ sym (after_both network first.log (rest first.after).log world.machines));
  each = each_both P network first.log (rest first.after).log world.machines g.each (subst (λ (m : List Machine). Each P network (rest first.after).log m) g.machines h.each);
  sound = h.sound;
}

-- ---- entering

entered_passes : (P : Desc → Move → Machine → Type 0) (Sound : List Machine → Type 0) (network : Network) → Enters P Sound network → (end : Option End) (console : ℕ) (bytes : List ℕ) (world : World)
    → far_end network.wiring.links (Console console) ≡ end → Sound world.machines → Passes P Sound network world (entered_at network end console bytes world)
entered_passes P Sound network enters None console bytes world linked sound = stays P Sound network world sound
entered_passes P Sound network enters (Some (Console other)) console bytes world linked sound = stays P Sound network world sound
entered_passes P Sound network enters (Some (Part ref)) console bytes world linked sound =
    let k = enters ref console bytes world.machines sound linked in record { machines = refl; each = k.0; sound = k.1 }

enter_passes : (P : Desc → Move → Machine → Type 0) (Sound : List Machine → Type 0) (network : Network) → Enters P Sound network → (console : ℕ) (bytes : List ℕ) (world : World)
    → Sound world.machines → Passes P Sound network world (enter network console bytes world)
unfolding enter
enter_passes P Sound network enters console bytes world sound = entered_passes P Sound network enters (far_end network.wiring.links (Console console)) console bytes world refl sound

all_enter : (P : Desc → Move → Machine → Type 0) (Sound : List Machine → Type 0) (network : Network) → Enters P Sound network → (given : ℕ → List ℕ) (console more : ℕ) (world : World)
    → Sound world.machines → Passes P Sound network world (enter_all network given console more world)
all_enter P Sound network enters given console zero world sound = stays P Sound network world sound
all_enter P Sound network enters given console (suc more) world sound =
    let first = enter_passes P Sound network enters console (waiting (given console) world.consoles console) world sound in
    and_passes P Sound network world (enter network console (waiting (given console) world.consoles console) world) (enter_all network given (console + 1) more) first
    (all_enter P Sound network enters given (console + 1) more _ first.sound)

-- ---- whose core it is

some_same : {X : Type 0} (a b : X) → Some a ≡ Some b → a ≡ b
some_same a b h = cc

record Owned (descs : List Desc) (part : ℕ) (seat : Seat) : Type 0 where
  place : ℕ
  is : seat.part ≡ part + place
  core : seat.core < length (slice_index_or descs place no_desc).cores

owned_by : (desc : Desc) (descs : List Desc) (part number : ℕ) (seat : Seat) (o : Option ℕ) → place_in desc.cores number ≡ o → seated o part (owner_from (part + 1) descs number) ≡ Some seat
    → (owner_from (part + 1) descs number ≡ Some seat → Owned descs (part + 1) seat) → Owned (desc ∷ descs) part seat
owned_by desc descs part number seat None e h rest =
    let a = rest h in record { place = suc a.place; is = (let b = a.is in omega (arith, b)); core = a.core }
owned_by desc descs part number seat (Some core) e h rest =
    let q = some_same (record { part = part; core = core }) seat h in
    let c = position-Some (λ (n : ℕ). n == number) desc.cores core 0 e in
    record {
      place = 0;
      is = (let b = ap (λ (s : Seat). s.part) q in omega (arith, b));
      core = (let b = ap (λ (s : Seat). s.core) q in let below = c.0 in omega (arith, b, below));
    }

owned : (descs : List Desc) (part number : ℕ) (seat : Seat) → owner_from part descs number ≡ Some seat → Owned descs part seat
owned [] part number seat h = absurd (let e = h in cc)
owned (desc ∷ descs) part number seat h = owned_by desc descs part number seat (place_in desc.cores number) refl h (owned descs (part + 1) number seat)

-- ---- turns

steps_pass : (P : Desc → Move → Machine → Type 0) (Sound : List Machine → Type 0) (network : Network) → Does P Sound network → (part core : ℕ) (world : World) → Sound world.machines
    → is_running (machine_at world.machines part).inner.state ≡ true → core < length (desc_at network part).cores → Passes P Sound network world (steps_in network part core world)
unfolding steps_in
steps_pass P Sound network does part core world sound runs there =
    let k = does part core world.machines sound runs there in record { machines = refl; each = k.0; sound = k.1 }

seat_by : (P : Desc → Move → Machine → Type 0) (Sound : List Machine → Type 0) (network : Network) → Does P Sound network → (seat : Seat) (world : World) → Sound world.machines
    → seat.core < length (desc_at network seat.part).cores → (b : Bool) → is_running (machine_at world.machines seat.part).inner.state ≡ b
    → Passes P Sound network world (if b then steps_in network seat.part seat.core world else passed world)
seat_by P Sound network does seat world sound there true runs = steps_pass P Sound network does seat.part seat.core world sound runs there
seat_by P Sound network does seat world sound there false runs = stays P Sound network world sound

seat_passes : (P : Desc → Move → Machine → Type 0) (Sound : List Machine → Type 0) (network : Network) → Does P Sound network → (number : ℕ) (seat : Option Seat) (world : World)
    → owner_of network number ≡ seat → Sound world.machines → Passes P Sound network world (seat_turn network seat world)
seat_passes P Sound network does number None world e sound = stays P Sound network world sound
seat_passes P Sound network does number (Some seat) world e sound =
    let o = owned network.descs 0 number seat e in
    let q : o.place ≡ seat.part = (let a = o.is in omega (arith, a)) in
    seat_by P Sound network does seat world sound (subst (λ (n : ℕ). seat.core < length (desc_at network n).cores) q o.core) (is_running (machine_at world.machines seat.part).inner.state) refl

core_passes : (P : Desc → Move → Machine → Type 0) (Sound : List Machine → Type 0) (network : Network) → Does P Sound network → (core : Option ℕ) (world : World)
    → Sound world.machines → Passes P Sound network world (core_turn network core world)
core_passes P Sound network does None world sound = stays P Sound network world sound
core_passes P Sound network does (Some number) world sound = seat_passes P Sound network does number (owner_of network number) world refl sound

turn_passes : (P : Desc → Move → Machine → Type 0) (Sound : List Machine → Type 0) (network : Network) → Enters P Sound network → Does P Sound network → (script : Script) (number : ℕ) (world : World)
    → Sound world.machines → Passes P Sound network world (turn network script number world)
unfolding turn
turn_passes P Sound network enters does script number world sound =
    let first = all_enter P Sound network enters (given_at script number) 0 (length network.wiring.consoles) world sound in
    and_passes P Sound network world (enter_all network (given_at script number) 0 (length network.wiring.consoles) world) (core_turn network (core_in script.schedule number)) first
    (core_passes P Sound network does (core_in script.schedule number) _ first.sound)

turns_pass : (P : Desc → Move → Machine → Type 0) (Sound : List Machine → Type 0) (network : Network) → Enters P Sound network → Does P Sound network → (script : Script) (number more : ℕ) (world : World)
    → Sound world.machines → Passes P Sound network world (turns_from network script number more world)
turns_pass P Sound network enters does script number zero world sound = stays P Sound network world sound
turns_pass P Sound network enters does script number (suc more) world sound =
    let first = turn_passes P Sound network enters does script number world sound in
    and_passes P Sound network world (turn network script number world) (turns_from network script (number + 1) more) first
    (turns_pass P Sound network enters does script (number + 1) more _ first.sound)

pub run_passes : (P : Desc → Move → Machine → Type 0) (Sound : List Machine → Type 0) (network : Network) → Enters P Sound network → Does P Sound network → (script : Script) (turns : ℕ)
    → Sound (opening_world network).machines → Passes P Sound network (opening_world network) (run network script turns)
unfolding run
run_passes P Sound network enters does script turns sound = turns_pass P Sound network enters does script 1 turns (opening_world network) sound
