-- How a run goes on: console by console, and turn by turn.
use Rattle.std.proofs.Common.{◌≡◌, ℕ, zero, suc, ◌+◌, ◌-◌, ◌<◌, ◌≤◌, Bool, true, false, List, [], ◌∷◌, ◌++◌, length, map, drop, nat_lt, Option, Some, None, refl, sym, ap, subst, ◌∙◌, arith}
use Rattle.std.specs.Prelude.{◌==◌, slice_index_or, Ok, nat_le, filter, flat_map, unwrap_or, if◌then◌else◌}
use Rattle.std.proofs.lemmas.Option.{slice_get_past}
use Rattle.std.proofs.lemmas.List.{append_assoc, append-nil, drop_all, length-append, get_or_append_left}
use Rattle.std.proofs.Math.Seq.{get_or-append_seam}
use Rattle.std.proofs.KnownBytes.{Appends-nil}
use Rattle.outside.specs.Pieces.{Writes}
use Rattle.outside.proofs.PiecesSoFar.{no_front}
use Rattle.std.proofs.lemmas.Grind.{flat_map-append}
use Rattle.script.specs.Course.{Course, Given, given_at as given_to, bytes_up_to}
use Rattle.machine_desc.specs.declared.desc.Desc.{Desc}
use Rattle.machine_desc.specs.declared.wiring.End.{End}
use Rattle.machine_desc.specs.declared.wiring.End.TheVariants.{Part, Console}
use Rattle.partition.specs.Machine.{fresh, most_steps}
use Rattle.network.specs.Network.{Network, desc_at, far_end}
use Rattle.network.specs.World.{World, Line, Passage, passed, and_then, counts_at, machine_at, opening_world}
use Rattle.network.specs.Entering.{enter, entered_at, enter_all, waiting}
use Rattle.network.specs.Turn.{Script, given_at, core_in, core_turn, turn, turns_from, run}
use Rattle.network.specs.Report.{act_lines, traced_line}
use Rattle.topaz_run.specs.Reported.{given_by}
use Rattle.topaz_run.specs.Turns.{AllEntered, StepsAtMost}

-- ---- consoles

-- nothing has a line there
at-quiet : (network : Network) (end : Option End) (console : ℕ) (bytes : List ℕ) (world : World) → (entered_at network end console bytes world).lines ≡ []
at-quiet network None console bytes world = refl
at-quiet network (Some (Console other)) console bytes world = refl
at-quiet network (Some (Part ref)) console bytes world = refl

enter-quiet : (network : Network) (console : ℕ) (bytes : List ℕ) (world : World) → (enter network console bytes world).lines ≡ []
unfolding enter
enter-quiet network console bytes world = at-quiet network (far_end network.wiring.links (Console console)) console bytes world

all-quiet : (network : Network) (given : ℕ → List ℕ) (console more : ℕ) (world : World) → (enter_all network given console more world).lines ≡ []
all-quiet network given console zero world = refl
all-quiet network given console (suc more) world =
    let bytes : List ℕ = waiting (given console) world.consoles console in
    let rest : List Line = (enter_all network given (console + 1) more (enter network console bytes world).after).lines in
    ap (λ (l : List Line). l ++ rest) (enter-quiet network console bytes world) ∙ all-quiet network given (console + 1) more (enter network console bytes world).after

pub enters-next : (network : Network) (given : ℕ → List ℕ) (console more : ℕ) (world : World)
    → (enter_all network given console (suc more) world).after
    ≡ (enter_all network given (console + 1) more (enter network console (waiting (given console) world.consoles console) world).after).after
enters-next network given console more world = refl

-- the consoles from this one on
pub enters_next : (network : Network) (given : ℕ → List ℕ) (console count : ℕ) (world : World) → console < count
    → (enter_all network given console (count - console) world).after
    ≡ (enter_all network given (console + 1) (count - (console + 1)) (enter network console (waiting (given console) world.consoles console) world).after).after
enters_next network given console count world few =
    let one : count - console ≡ suc (count - (console + 1)) = omega (arith, few) in
    ap (λ (more : ℕ). (enter_all network given console more world).after) one

-- ---- a turn

-- one passage tells the same as another, but for its log
pub record IsTurnOf (core whole : Passage) : Type 0 where
  pub after : core.after ≡ whole.after
  pub lines : core.lines ≡ whole.lines

-- what a turn is, once the consoles' bytes have entered
pub record IsTurn (network : Network) (script : Script) (number : ℕ) (world entered : World) : Type 0 where
  pub after : (turn network script number world).after ≡ (core_turn network (core_in script.schedule number) entered).after
  pub lines : (turn network script number world).lines ≡ (core_turn network (core_in script.schedule number) entered).lines

turn-behind : (network : Network) (script : Script) (number : ℕ) (world : World)
    → IsTurn network script number world (enter_all network (given_at script number) 0 (length network.wiring.consoles) world).after
unfolding turn
turn-behind network script number world =
    let entered : World = (enter_all network (given_at script number) 0 (length network.wiring.consoles) world).after in
    record {
      after = refl;
      lines = ap (λ (l : List Line). l ++ (core_turn network (core_in script.schedule number) entered).lines) (all-quiet network (given_at script number) 0 (length network.wiring.consoles) world);
    }

pub turn_behind : (network : Network) (script : Script) (number consoles : ℕ) (world entered : World) → length network.wiring.consoles ≡ consoles
    → entered ≡ (enter_all network (given_at script number) 0 consoles world).after → IsTurn network script number world entered
turn_behind network script number consoles world entered count is =
    subst (λ (entered : World). IsTurn network script number world entered)
    (ap (λ (count : ℕ). (enter_all network (given_at script number) 0 count world).after) count ∙ sym is)
    (turn-behind network script number world)

-- ---- turn after turn

then-passed : (first : Passage) → and_then first passed ≡ first
then-passed first = λ i. record { after = first.after; log = append-nil first.log i; lines = append-nil first.lines i }

assoc : (first : Passage) (second third : World → Passage) → and_then (and_then first second) third ≡ and_then first (λ world. and_then (second world) third)
assoc first second third =
    let middle : Passage = second first.after in
    let last : Passage = third middle.after in
    λ i. record { after = last.after; log = append_assoc first.log middle.log last.log i; lines = append_assoc first.lines middle.lines last.lines i }

-- so many turns are those of a first part, and then the others
split : (network : Network) (script : Script) (number first more : ℕ) (world : World)
    → turns_from network script number (more + first) world ≡ and_then (turns_from network script number first world) (turns_from network script (number + first) more)
split network script number zero more world =
    let count : more + zero ≡ more = omega arith in
    let place : number ≡ number + zero = omega arith in
    ap (λ (n : ℕ). turns_from network script number n world) count ∙ ap (λ (n : ℕ). turns_from network script n more world) place
split network script number (suc first) more world =
    let count : more + suc first ≡ suc (more + first) = omega arith in
    let here = turn network script number world in
    let front : World → Passage = turns_from network script (number + 1) first in
    let back : World → Passage = turns_from network script (number + suc first) more in
    let same : number + 1 + first ≡ number + suc first = omega arith in
    let behind : (w : World) → turns_from network script (number + 1) (more + first) w ≡ and_then (front w) back =
    λ w. split network script (number + 1) first more w ∙ ap (λ (n : ℕ). and_then (front w) (turns_from network script n more)) same in
    ap (λ (n : ℕ). turns_from network script number n world) count
    ∙ (λ i. and_then here (λ w. behind w i)) ∙ sym (assoc here front back)

-- one turn more
one-turn : (network : Network) (script : Script) (number : ℕ) (world : World) → turns_from network script number 1 world ≡ turn network script number world
one-turn network script number world = then-passed (turn network script number world)

pub record GoesOn (network : Network) (script : Script) (done : ℕ) (world : World) : Type 0 where
  pub after : (run network script (done + 1)).after ≡ (turn network script (done + 1) world).after
  pub lines : (run network script (done + 1)).lines ≡ (run network script done).lines ++ (turn network script (done + 1) world).lines

run-more : (network : Network) (script : Script) (done : ℕ) → run network script (done + 1) ≡ and_then (run network script done) (turn network script (done + 1))
unfolding run
run-more network script done =
    let same : 1 + done ≡ done + 1 = omega arith in
    ap (λ (n : ℕ). turns_from network script 1 n (opening_world network)) (sym same)
    ∙ split network script 1 done 1 (opening_world network)
    ∙ ap (λ (n : ℕ). and_then (run network script done) (turns_from network script n 1)) same
    ∙ (λ i. and_then (run network script done) (λ w. one-turn network script (done + 1) w i))

pub goes_on : (network : Network) (script : Script) (done : ℕ) (world : World) → world ≡ (run network script done).after → GoesOn network script done world
goes_on network script done world is =
    let first = run network script done in
    let next : World → Passage = turn network script (done + 1) in
    let whole : run network script (done + 1) ≡ and_then first next = run-more network script done in
    let here : next first.after ≡ next world = ap next (sym is) in
    record {
      after = ap (λ (p : Passage). p.after) whole ∙ ap (λ (p : Passage). p.after) here;
      lines = ap (λ (p : Passage). p.lines) whole ∙ ap (λ (p : Passage). first.lines ++ p.lines) here;
    }

-- turns that pass change nothing
pub ends_resting : (network : Network) (script : Script) (done turns : ℕ) (world : World) → done ≤ turns → world ≡ (run network script done).after
    → turns_from network script (done + 1) (turns - done) world ≡ passed world → run network script turns ≡ run network script done
unfolding run
ends_resting network script done turns world few is rest =
    let first = run network script done in
    let next : World → Passage = turns_from network script (1 + done) (turns - done) in
    let next-number : 1 + done ≡ done + 1 = omega arith in
    let parts : turns ≡ turns - done + done = omega (arith, few) in
    let here : next first.after ≡ passed first.after =
    ap next (sym is) ∙ ap (λ (n : ℕ). turns_from network script n (turns - done) world) next-number ∙ rest ∙ ap passed is in
    ap (λ (n : ℕ). turns_from network script 1 n (opening_world network)) parts
    ∙ split network script 1 done (turns - done) (opening_world network)
    ∙ (ap (λ (p : Passage). record { after = p.after; log = first.log ++ p.log; lines = first.lines ++ p.lines }) here ∙ then-passed first)

-- ---- what waits

abbrev front : Given → Bool → List Given → List Given
front given b rest = if b then given ∷ rest else rest

abbrev bytes-in : List Given → List ℕ
bytes-in inputs = flat_map (λ (input : Given). input.bytes) inputs

fewer : (given : Given) (turn later : ℕ) (rest more : List Given) → turn ≤ later → length (bytes-in rest) ≤ length (bytes-in more) → (now later-on : Bool) → nat_le given.turn turn ≡ now
    → nat_le given.turn later ≡ later-on → length (bytes-in (front given now rest)) ≤ length (bytes-in (front given later-on more))
fewer given turn later rest more few below false false one other = below
fewer given turn later rest more few below false true one other = omega (arith, below, length-append given.bytes (bytes-in more))
fewer given turn later rest more few below true false one other = absurd (grind (arith, one, other, few))
fewer given turn later rest more few below true true one other = omega (arith, below, length-append given.bytes (bytes-in rest), length-append given.bytes (bytes-in more))

up-to-fewer : (turn later : ℕ) (inputs : List Given) → turn ≤ later → length (bytes_up_to turn inputs) ≤ length (bytes_up_to later inputs)
unfolding bytes_up_to
up-to-fewer turn later [] few = omega arith
up-to-fewer turn later (given ∷ inputs) few =
    fewer given turn later (filter (λ (input : Given). nat_le input.turn turn) inputs) (filter (λ (input : Given). nat_le input.turn later) inputs) few
    (up-to-fewer turn later inputs few) (nat_le given.turn turn) (nat_le given.turn later) refl refl

none-left : (n : ℕ) (bytes : List ℕ) → drop n bytes ≡ [] → length bytes ≤ n
none-left n [] e = omega arith
none-left zero (byte ∷ bytes) e = absurd cc
none-left (suc n) (byte ∷ bytes) e = omega (arith, none-left n bytes e)

-- where nothing is left of all that is given up to a turn, nothing is of what is given earlier
pub none_earlier : (inputs : List Given) (entered turn later : ℕ) → turn ≤ later → drop entered (bytes_up_to later inputs) ≡ [] → drop entered (bytes_up_to turn inputs) ≡ []
none_earlier inputs entered turn later few none =
    drop_all entered (bytes_up_to turn inputs) (omega (arith, up-to-fewer turn later inputs few, none-left entered (bytes_up_to later inputs) none))

nothing-past : (inputs : List (List Given)) (console : ℕ) → length inputs ≤ console → given_to console inputs ≡ []
nothing-past inputs console past = ap (λ (found : Option (List Given)). unwrap_or found []) (slice_get_past inputs console past)

nothing-given : (turn entered : ℕ) (inputs : List Given) → inputs ≡ [] → drop entered (bytes_up_to turn inputs) ≡ []
unfolding bytes_up_to
nothing-given turn entered inputs none = ap (λ (inputs : List Given). drop entered (bytes_up_to turn inputs)) none ∙ drop_all entered [] (omega arith)

-- where all that is given up to the last turn has entered, nothing waits at any turn up to it
pub none_waits : (course : Course) (world : World) (turns consoles : ℕ) → length course.inputs ≡ consoles → AllEntered (given_at (given_by course) turns) world consoles
    → (later console : ℕ) → later ≤ turns → waiting (given_at (given_by course) later console) world.consoles console ≡ []
none_waits course world turns consoles count all later console few =
    elim (nat_lt console consoles) as (λ b. nat_lt console consoles ≡ b → waiting (given_at (given_by course) later console) world.consoles console ≡ []) [
      | true ↦ λ e. none_earlier (given_to console course.inputs) (counts_at world.consoles console).entered later turns few (all console (grind (arith, e)))
      | false ↦ λ e. nothing-given later (counts_at world.consoles console).entered (given_to console course.inputs) (nothing-past course.inputs console (grind (arith, e, count)))
    ] refl

-- ---- before the first turn

fresh-steps : (descs : List Desc) (part : ℕ) → (machine_at (map fresh descs) part).inner.steps ≤ 0
unfolding fresh
fresh-steps [] part = omega arith
fresh-steps (desc ∷ descs) zero = omega arith
fresh-steps (desc ∷ descs) (suc part) = fresh-steps descs part

pub opening_steps : (network : Network) (world : World) → world ≡ opening_world network → StepsAtMost 0 world
unfolding opening_world
opening_steps network world is part = subst (λ (world : World). (machine_at world.machines part).inner.steps ≤ 0) (sym is) (fresh-steps network.descs part)

-- the steps that a turn may begin with
pub few_steps : (number : ℕ) (before entered : World) → StepsAtMost (number - 1) before → 1 ≤ number → number ≤ most_steps
    → ((part : ℕ) → (machine_at entered.machines part).inner.steps ≡ (machine_at before.machines part).inner.steps) → (part : ℕ) → (machine_at entered.machines part).inner.steps < most_steps
few_steps number before entered few some small same part = grind (arith, few part, some, small, same part)

pub no_bytes : (bytes : List ℕ) (empty : Bool) → empty ≡ (length bytes == 0) → empty ≡ true → bytes ≡ []
no_bytes [] empty is e = refl
no_bytes (byte ∷ bytes) empty is e = absurd (grind (arith, is, e))

-- once the consoles' bytes have entered, the turn is that of the core
pub turned_by : (network : Network) (script : Script) (number consoles : ℕ) (before entered : World) (whole : Network) (core : Option ℕ) → length network.wiring.consoles ≡ consoles
    → entered ≡ (enter_all network (given_at script number) 0 consoles before).after → whole ≡ network → core ≡ core_in script.schedule number
    → IsTurnOf (core_turn whole core entered) (turn network script number before)
turned_by network script number consoles before entered whole core count is same at =
    let turned = turn_behind network script number consoles before entered count is in
    let here : core_turn whole core entered ≡ core_turn network (core_in script.schedule number) entered = λ i. core_turn (same i) (at i) entered in
    record {
      after = ap (λ (p : Passage). p.after) here ∙ sym turned.after;
      lines = ap (λ (p : Passage). p.lines) here ∙ sym turned.lines;
    }

pub steps_next : (number : ℕ) (before entered after : World) → StepsAtMost (number - 1) before → 1 ≤ number
    → ((part : ℕ) → (machine_at entered.machines part).inner.steps ≡ (machine_at before.machines part).inner.steps)
    → ((part : ℕ) → (machine_at after.machines part).inner.steps ≤ (machine_at entered.machines part).inner.steps + 1) → StepsAtMost number after
steps_next number before entered after few some same more part = omega (arith, few part, some, same part, more part)

-- ---- what the loops keep

-- what holds below a number and at it holds below the next
pub one_more : (P : ℕ → Type 0) (n : ℕ) → ((k : ℕ) → k < n → P k) → P n → (k : ℕ) → k < n + 1 → P k
one_more P n below here k few =
    elim (nat_lt k n) as (λ b. nat_lt k n ≡ b → P k) [
      | true ↦ λ e. below k (grind (arith, e))
      | false ↦ λ e. let same : n ≡ k = grind (arith, e, few) in subst P same here
    ] refl

-- a list with one number more behind it
pub behind_all : (items : List ℕ) (n : ℕ) (count : ℕ → ℕ) → length items ≡ n → ((k : ℕ) → k < n → slice_index_or items k 0 ≡ count k)
    → (k : ℕ) → k < n + 1 → slice_index_or (items ++ count n ∷ []) k 0 ≡ count k
behind_all items n count long each =
    one_more (λ k. slice_index_or (items ++ count n ∷ []) k 0 ≡ count k) n
    (λ k few. get_or_append_left items (count n ∷ []) 0 k (omega (arith, few, long)) ∙ each k few)
    (subst (λ (m : ℕ). slice_index_or (items ++ count n ∷ []) m 0 ≡ count n) long (get_or-append_seam items (count n) [] 0))

-- ---- turn by turn

pub run_none : (network : Network) (script : Script) → run network script 0 ≡ passed (opening_world network)
unfolding run
run_none network script = refl
