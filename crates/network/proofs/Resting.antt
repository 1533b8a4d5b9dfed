-- Where no partition runs and nothing waits, turns pass.
use Rattle.std.proofs.Common.{◌≡◌, ℕ, zero, suc, ◌+◌, ◌<◌, Bool, true, false, cond, not, List, [], ◌∷◌, map, length, take, slice_set, Option, Some, None, refl, ap, ◌∙◌, arith}
use Rattle.std.specs.Prelude.{min}
use Rattle.std.proofs.lemmas.Bool.{and_parts}
use Rattle.std.proofs.lemmas.List.{set-get_or}
use Rattle.machine_desc.specs.declared.wiring.PortRef.{PortRef}
use Rattle.machine_desc.specs.declared.wiring.End.{End}
use Rattle.machine_desc.specs.declared.wiring.End.TheVariants.{Part, Console}
use Rattle.partition.specs.Machine.{Machine, fresh}
use Rattle.network.specs.Network.{Network, Seat, far_end, owner_of}
use Rattle.network.specs.World.{World, Counts, Passage, passed, and_then, delivered, machine_at, counts_at, no_counts, after_log}
use Rattle.network.specs.Entering.{come_to, count_entered, entered, entered_at, enter, enter_all, waiting, received_room}
use Rattle.network.specs.Turn.{Script, given_at, is_running, seat_turn, steps_in, core_turn, core_in, turn, turns_from}
use Rattle.network.specs.Laws.{is_at_rest, are_at_rest}

-- ---- no step

not-true : (b : Bool) → not b ≡ true → b ≡ false
not-true false e = refl
not-true true e = absurd cc

rest-at : (machines : List Machine) (part : ℕ) → are_at_rest machines ≡ true → is_running (machine_at machines part).inner.state ≡ false
unfolding fresh
rest-at [] part e = refl
rest-at (machine ∷ machines) zero e = not-true (is_running machine.inner.state) (and_parts (is_at_rest machine) (are_at_rest machines) e).0
rest-at (machine ∷ machines) (suc part) e = rest-at machines part (and_parts (is_at_rest machine) (are_at_rest machines) e).1

seat-rests : (network : Network) (seat : Option Seat) (world : World) → are_at_rest world.machines ≡ true → seat_turn network seat world ≡ passed world
seat-rests network None world e = refl
seat-rests network (Some seat) world e =
    ap (λ (b : Bool). cond b (steps_in network seat.part seat.core world) (passed world)) (rest-at world.machines seat.part e)

core-rests : (network : Network) (core : Option ℕ) (world : World) → are_at_rest world.machines ≡ true → core_turn network core world ≡ passed world
core-rests network None world e = refl
core-rests network (Some number) world e = seat-rests network (owner_of network number) world e

-- ---- no byte

none-taken : (room : ℕ) → take {A = ℕ} room [] ≡ []
none-taken zero = refl
none-taken (suc room) = refl

none-more : (consoles : List Counts) (console room : ℕ) → count_entered console (min room 0) consoles ≡ consoles
none-more consoles console room =
    let none : (counts_at consoles console).entered + min room 0 ≡ (counts_at consoles console).entered = grind arith in
    ap (λ (n : ℕ). slice_set consoles console (record (counts_at consoles console) { entered = n })) none ∙ set-get_or consoles console no_counts

nothing-entered : (network : Network) (ref : PortRef) (room console : ℕ) (world : World) → entered network ref room console [] world ≡ passed world
nothing-entered network ref room console world =
    ap (λ (bytes : List ℕ). record {
      after = record { machines = after_log network (map delivered (come_to ref bytes)) world.machines; consoles = count_entered console (min room 0) world.consoles };
      log = map delivered (come_to ref bytes);
      lines = [];
    }) (none-taken room)
    ∙ ap (λ (consoles : List Counts). passed (record { machines = world.machines; consoles = consoles })) (none-more world.consoles console room)

nothing-enters-at : (network : Network) (end : Option End) (console : ℕ) (world : World) → entered_at network end console [] world ≡ passed world
nothing-enters-at network None console world = refl
nothing-enters-at network (Some (Console other)) console world = refl
nothing-enters-at network (Some (Part ref)) console world = nothing-entered network ref (received_room world.machines ref) console world

pub nothing-enters : (network : Network) (console : ℕ) (bytes : List ℕ) (world : World) → bytes ≡ [] → enter network console bytes world ≡ passed world
unfolding enter
nothing-enters network console bytes world none =
    ap (λ (bytes : List ℕ). entered_at network (far_end network.wiring.links (Console console)) console bytes world) none
    ∙ nothing-enters-at network (far_end network.wiring.links (Console console)) console world

none-enter : (network : Network) (given : ℕ → List ℕ) (console more : ℕ) (world : World) → ((k : ℕ) → waiting (given k) world.consoles k ≡ [])
    → enter_all network given console more world ≡ passed world
none-enter network given console zero world none = refl
none-enter network given console (suc more) world none =
    ap (λ (first : Passage). and_then first (enter_all network given (console + 1) more)) (nothing-enters network console (waiting (given console) world.consoles console) world (none console))
    ∙ none-enter network given (console + 1) more world none

-- ---- turns

turn-passes : (network : Network) (script : Script) (number : ℕ) (world : World) → are_at_rest world.machines ≡ true
    → ((k : ℕ) → waiting (given_at script number k) world.consoles k ≡ []) → turn network script number world ≡ passed world
unfolding turn
turn-passes network script number world e none =
    ap (λ (first : Passage). and_then first (core_turn network (core_in script.schedule number))) (none-enter network (given_at script number) 0 (length network.wiring.consoles) world none)
    ∙ core-rests network (core_in script.schedule number) world e

pub turns_pass : (network : Network) (script : Script) (number more : ℕ) (world : World) → are_at_rest world.machines ≡ true
    → ((n k : ℕ) → n < number + more → waiting (given_at script n k) world.consoles k ≡ []) → turns_from network script number more world ≡ passed world
turns_pass network script number zero world e none = refl
turns_pass network script number (suc more) world e none =
    ap (λ (first : Passage). and_then first (turns_from network script (number + 1) more)) (turn-passes network script number world e (λ k. none number k (omega arith)))
    ∙ turns_pass network script (number + 1) more world e (λ n k below. none n k (omega (arith, below)))
