-- The machines and the lines of a run are those of its log.
use Rattle.std.proofs.Common.{◌≡◌, ℕ, zero, suc, ◌+◌, ◌==◌, Bool, true, false, List, [], ◌∷◌, ◌++◌, map, length, take, Option, Some, None, refl, sym, ap, ◌∙◌, if◌then◌else◌}
use Rattle.core_step.specs.declared.answer.Wrote.{Wrote}
use Rattle.machine_desc.specs.declared.desc.Desc.{Desc}
use Rattle.machine_desc.specs.declared.desc.Region.{Region}
use Rattle.machine_desc.specs.declared.wiring.PortRef.{PortRef}
use Rattle.machine_desc.specs.declared.wiring.End.{End}
use Rattle.machine_desc.specs.declared.wiring.End.TheVariants.{Part, Console}
use Rattle.partition.specs.Machine.{Machine}
use Rattle.partition.specs.Step.{Stepped}
use Rattle.partition.specs.Reached.{Steps}
use Rattle.network.specs.Network.{Network, Seat, owner_of, far_end}
use Rattle.network.specs.Change.{Moves, Shared}
use Rattle.network.specs.World.{World, Entry, Delivery, entry_for, delivered, machine_at, after_entry, after_log, line_of, Line, opening_world, passed}
use Rattle.network.specs.Entering.{received_room, come_to, entered, entered_at, enter, enter_all, waiting}
use Rattle.network.specs.Effects.{brought, shown_from, shown}
use Rattle.network.specs.Turn.{feed_for, done_by, after_step, steps_in, is_running, seat_turn, core_turn, core_in, Script, given_at, turn, turns_from, run}
use Rattle.network.proofs.Logs.{lines_by, lines_both, IsLogged, logged_passed, logged_then}

-- ---- what has no line

no_lines_delivered : (network : Network) (deliveries : List Delivery) (machines : List Machine) → lines_by network (map delivered deliveries) machines ≡ []
no_lines_delivered network [] machines = refl
no_lines_delivered network (delivery ∷ deliveries) machines = no_lines_delivered network deliveries (after_entry network (delivered delivery) machines)

-- nor has what others see
abbrev HaveNoLines : Network → List Entry → Type 0
HaveNoLines network log = (machines : List Machine) → lines_by network log machines ≡ []

shown_or_not : (network : Network) (part : ℕ) (regions : List Region) (memory : List (List ℕ)) (stored : List Wrote) (rest : List Entry) → HaveNoLines network rest
    → (b : Bool) → HaveNoLines network ((if b then [] else entry_for part (Shared regions memory stored) ∷ []) ++ rest)
shown_or_not network part regions memory stored rest h true machines = h machines
shown_or_not network part regions memory stored rest h false machines = h (after_entry network (entry_for part (Shared regions memory stored)) machines)

no_lines_from : (network : Network) (part : ℕ) (descs : List Desc) (stepping : ℕ) (regions : List Region) (memory : List (List ℕ)) (stored : List Wrote)
    → HaveNoLines network (shown_from part descs stepping regions memory stored)
no_lines_from network part [] stepping regions memory stored machines = refl
no_lines_from network part (desc ∷ descs) stepping regions memory stored machines =
    shown_or_not network part regions memory stored (shown_from (part + 1) descs stepping regions memory stored) (no_lines_from network (part + 1) descs stepping regions memory stored)
    (part == stepping) machines

no_lines_shown : (network : Network) (part : ℕ) (done : Stepped) → HaveNoLines network (shown network part done)
unfolding shown
no_lines_shown network part done = no_lines_from network 0 network.descs part _ _ _

no_lines_beside : (network : Network) (part : ℕ) (done : Stepped) (deliveries : List Delivery) → HaveNoLines network (shown network part done ++ map delivered deliveries)
no_lines_beside network part done deliveries machines =
    lines_both network (shown network part done) (map delivered deliveries) machines
    ∙ (ap (λ (l : List Line). l ++ lines_by network (map delivered deliveries) (after_log network (shown network part done) machines)) (no_lines_shown network part done machines)
    ∙ no_lines_delivered network deliveries (after_log network (shown network part done) machines))

-- ---- entering

logged_entered : (network : Network) (ref : PortRef) (room console : ℕ) (bytes : List ℕ) (world : World) → IsLogged network world (entered network ref room console bytes world)
logged_entered network ref room console bytes world = record { machines = refl; lines = sym (no_lines_delivered network (come_to ref (take room bytes)) world.machines) }

logged_entered_at : (network : Network) (end : Option End) (console : ℕ) (bytes : List ℕ) (world : World) → IsLogged network world (entered_at network end console bytes world)
logged_entered_at network None console bytes world = logged_passed network world
logged_entered_at network (Some (Console other)) console bytes world = logged_passed network world
logged_entered_at network (Some (Part ref)) console bytes world = logged_entered network ref (received_room world.machines ref) console bytes world

logged_enter : (network : Network) (console : ℕ) (bytes : List ℕ) (world : World) → IsLogged network world (enter network console bytes world)
unfolding enter
logged_enter network console bytes world = logged_entered_at network (far_end network.wiring.links (Console console)) console bytes world

logged_enter_all : (network : Network) (given : ℕ → List ℕ) (console more : ℕ) (world : World) → IsLogged network world (enter_all network given console more world)
logged_enter_all network given console zero world = logged_passed network world
logged_enter_all network given console (suc more) world =
    logged_then network world (enter network console (waiting (given console) world.consoles console) world) (enter_all network given (console + 1) more)
    (logged_enter network console (waiting (given console) world.consoles console) world) (logged_enter_all network given (console + 1) more _)

-- ---- steps

-- a step has its line, and what it brings has none
logged_step : (network : Network) (part core : ℕ) (world : World) → IsLogged network world (after_step network part core world (done_by network world.machines part core))
logged_step network part core world =
    let done : Stepped = done_by network world.machines part core in
    let next : List Machine = after_entry network (entry_for part (Moves (Steps core (feed_for network world.machines part core)))) world.machines in
    record {
      machines = refl;
      lines = sym (ap (λ (l : List Line). line_of part (record { step = done.after.inner.steps; act = done.act }) ∷ l) (no_lines_beside network part done (brought network world.machines part done.act) next));
    }

logged_steps : (network : Network) (part core : ℕ) (world : World) → IsLogged network world (steps_in network part core world)
unfolding steps_in
logged_steps network part core world = logged_step network part core world

logged_running : (network : Network) (seat : Seat) (world : World) (b : Bool) → IsLogged network world (if b then steps_in network seat.part seat.core world else passed world)
logged_running network seat world true = logged_steps network seat.part seat.core world
logged_running network seat world false = logged_passed network world

logged_seat : (network : Network) (seat : Option Seat) (world : World) → IsLogged network world (seat_turn network seat world)
logged_seat network None world = logged_passed network world
logged_seat network (Some seat) world = logged_running network seat world (is_running (machine_at world.machines seat.part).inner.state)

logged_core : (network : Network) (core : Option ℕ) (world : World) → IsLogged network world (core_turn network core world)
logged_core network None world = logged_passed network world
logged_core network (Some number) world = logged_seat network (owner_of network number) world

-- ---- turns

logged_turn : (network : Network) (script : Script) (number : ℕ) (world : World) → IsLogged network world (turn network script number world)
unfolding turn
logged_turn network script number world =
    logged_then network world (enter_all network (given_at script number) 0 (length network.wiring.consoles) world) (core_turn network (core_in script.schedule number))
    (logged_enter_all network (given_at script number) 0 (length network.wiring.consoles) world) (logged_core network (core_in script.schedule number) _)

logged_turns : (network : Network) (script : Script) (number more : ℕ) (world : World) → IsLogged network world (turns_from network script number more world)
logged_turns network script number zero world = logged_passed network world
logged_turns network script number (suc more) world =
    logged_then network world (turn network script number world) (turns_from network script (number + 1) more)
    (logged_turn network script number world) (logged_turns network script (number + 1) more _)

pub logged_run : (network : Network) (script : Script) (turns : ℕ) → IsLogged network (opening_world network) (run network script turns)
unfolding run
logged_run network script turns = logged_turns network script 1 turns (opening_world network)
