-- A partition without shared areas does in the network what it does alone.
use Rattle.std.proofs.Common.{◌≡◌, ℕ, ◌<◌, true, List, [], ◌∷◌, ◌++◌, map, length, sym, ap, subst, ◌∙◌}
use Rattle.std.specs.Prelude.{sum_by}
use Rattle.std.proofs.lemmas.List.{length-map}
use Rattle.std.proofs.lemmas.List.Concat.{length-flat_map}
use Rattle.std.proofs.lemmas.List.FromFn.{length-map-range_with_len}
use Rattle.std.proofs.Math.ListN.{get_or-map}
use Rattle.machine_desc.specs.declared.desc.Desc.{Desc}
use Rattle.machine_desc.specs.declared.desc.Span.{Span}
use Rattle.copy_lists.specs.Moving.{byte_in}
use Rattle.partition.specs.Regions.{areas_of}
use Rattle.partition.specs.Machine.{Machine, fresh}
use Rattle.partition.specs.Copying.{own_regions}
use Rattle.partition.specs.Asking.{Asked, asks}
use Rattle.partition.specs.Step.{Stepped}
use Rattle.partition.specs.Reached.{Move, Steps, after_moves}
use Rattle.recording.specs.Alone.{Place, alone}
use Rattle.recording.specs.Laws.{IsDone, EachMove, Makes}
use Rattle.recording.proofs.Along.{tells}
use Rattle.network.specs.Network.{Network, no_desc, desc_at}
use Rattle.network.specs.Change.{Moves, trace_of, are_private}
use Rattle.network.specs.World.{Delivery, delivered, machine_at, after_log, after_entry, opening_world, moves_of, entry_for}
use Rattle.network.specs.Effects.{brought, shown}
use Rattle.network.specs.Turn.{bytes_of, fed, feed_for, done_by, Script, given_at, run}
use Rattle.network.specs.Report.{trace_lines, machine_line, own_text}
use Rattle.network.proofs.Alone.{follows_moves}
use Rattle.network.proofs.Printed.{lines_are_own}
use Rattle.isolation.specs.Isolation.{record_of, trace_at, prints}
use Rattle.isolation.specs.Laws.{PartitionsAreAlone, LinesAreItsOwn}
use Rattle.isolation.proofs.Each.{Each, each_both, each_move, all_shown, each_shown}
use Rattle.isolation.proofs.Passing.{Enters, Does, run_passes}

-- ---- each step runs, and is given what it asks for

pub fed_size : (network : Network) (machines : List Machine) (asked : Asked) → length (fed network machines asked) ≡ sum_by (λ (range : Span). range.size) asked.ranges
fed_size network machines asked =
    length-flat_map (bytes_of network machines asked.part) asked.ranges
    ∙ ap (λ (size : Span → ℕ). sum_by size asked.ranges)
    (λ i. λ (range : Span). length-map-range_with_len (byte_in (own_regions (areas_of (desc_at network asked.part).regions)) (machine_at machines asked.part).memory) range.at range.size i)

-- of events nothing is asked here
events_done : (network : Network) (deliveries : List Delivery) (machines : List Machine) → Each IsDone network (map delivered deliveries) machines
events_done network [] machines = tt
events_done network (delivery ∷ deliveries) machines = (tt, events_done network deliveries (after_entry network (delivered delivery) machines))

abbrev AnyMachines : List Machine → Type 0
AnyMachines machines = Unit {0}

enters_done : (network : Network) → Enters IsDone AnyMachines network
enters_done network ref console bytes machines sound linked = (events_done network _ machines, tt)

does_done : (network : Network) → Does IsDone AnyMachines network
does_done network part core machines sound runs there =
    let done : Stepped = done_by network machines part core in
    let next : List Machine = after_entry network (entry_for part (Moves (Steps core (feed_for network machines part core)))) machines in (
      (
        (runs, fed_size network machines (asks (desc_at network part) (machine_at machines part) core)),
        each_both IsDone network (shown network part done) (map delivered (brought network machines part done.act)) next (each_shown IsDone network (shown network part done) next (all_shown network part done))
            (events_done network (brought network machines part done.act) (after_log network (shown network part done) next)),
      ),
      tt,
    )

-- ---- from the beginning

pub opens_fresh : (network : Network) (part : ℕ) → machine_at (opening_world network).machines part ≡ fresh (desc_at network part)
unfolding opening_world
opens_fresh network part = get_or-map fresh network.descs part no_desc

pub opens_all : (network : Network) → length (opening_world network).machines ≡ length network.descs
unfolding opening_world
opens_all network = length-map network.descs fresh

makes : (network : Network) (script : Script) (turns part : ℕ) → part < length network.descs → are_private (desc_at network part).regions ≡ true
    → Makes (desc_at network part) (moves_of part (run network script turns).log) (alone (desc_at network part) (record_of network script turns part))
makes network script turns part here private =
    let moves : List Move = moves_of part (run network script turns).log in
    let passes = run_passes IsDone AnyMachines network (enters_done network) (does_done network) script turns tt in
    let inside : part < length (opening_world network).machines = subst (λ (n : ℕ). part < n) (sym (opens_all network)) here in
    let each = each_move IsDone network part (run network script turns).log (opening_world network).machines inside private passes.each in
    tells (desc_at network part) moves (subst (EachMove IsDone (desc_at network part) moves) (opens_fresh network part) each)

pub alone_in : PartitionsAreAlone
alone_in network script turns part here private =
    let d : Desc = desc_at network part in
    let m = makes network script turns part here private in
    let f = follows_moves network script turns part here private in
    record {
      machine = m.machine ∙ sym f.machine;
      trace = ap (λ (moves : List Move). trace_of d moves (fresh d)) m.moves_made ∙ sym f.trace;
    }

-- ---- the text

printed : (desc : Desc) (moves : List Move) (place : Place) → Makes desc moves place
    → own_text desc moves ≡ trace_lines desc.name (trace_at desc place) ++ machine_line desc.name place.machine
unfolding own_text
printed desc moves place m =
    ap (λ (made : List Move). trace_lines desc.name (trace_of desc made (fresh desc)) ++ machine_line desc.name (after_moves desc moves (fresh desc))) (sym m.moves_made)
    ∙ ap (λ (machine : Machine). trace_lines desc.name (trace_at desc place) ++ machine_line desc.name machine) (sym m.machine)

pub lines_in : LinesAreItsOwn
unfolding prints
lines_in network script turns part named here private =
    let d : Desc = desc_at network part in
    lines_are_own network (given_at script turns) part (run network script turns) named here (follows_moves network script turns part here private)
    ∙ printed d (moves_of part (run network script turns).log) (alone d (record_of network script turns part)) (makes network script turns part here private)
