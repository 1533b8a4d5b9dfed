-- A partition without shared areas follows its own moves.
use Rattle.std.proofs.Common.{◌≡◌, ℕ, ◌+◌, ◌<◌, ◌==◌, Bool, true, false, not, ◌&&◌, ◌||◌, List, [], ◌∷◌, ◌++◌, map, length, Option, Some, None, refl, sym, ap, subst, ◌∙◌, if◌then◌else◌}
use Rattle.std.proofs.lemmas.Bool.{and_parts}
use Rattle.std.proofs.lemmas.List.{length-map}
use Rattle.std.proofs.Math.ListN.{get_or-map}
use Rattle.std.specs.Prelude.{flat_map}
use Rattle.std.specs.List.{list_any}
use Rattle.core_step.specs.declared.answer.Wrote.{Wrote}
use Rattle.core_step.specs.Step.{with_reserved}
use Rattle.machine_desc.specs.declared.desc.Desc.{Desc}
use Rattle.machine_desc.specs.declared.desc.Region.{Region}
use Rattle.machine_desc.specs.Ranges.{ranges_meet}
use Rattle.partition.specs.Machine.{Cpu, Machine, fresh}
use Rattle.partition.specs.Reached.{Move, moved, after_moves}
use Rattle.partition.specs.Reservations.{granule_size, is_in_granule, is_stored_to, kept_reservation, with_kept}
use Rattle.network.specs.Network.{Network, no_desc, desc_at}
use Rattle.network.specs.Change.{Change, Moves, Shared, Traced, bytes_of, seen, changed, after_changes, move_in, traced, trace_of, are_private}
use Rattle.network.specs.World.{machine_at, opening_world, changes_of, trace_in}
use Rattle.network.specs.Turn.{Script, run}
use Rattle.network.specs.Laws.{FollowsMoves}
use Rattle.network.proofs.Logs.{trace_by, follows_changes}
use Rattle.network.proofs.Turns.{logged_run}

-- ---- what others do

private_memory : (regions : List Region) (memory : List (List ℕ)) (owns : List Region) (olds : List (List ℕ)) → are_private owns ≡ true → seen regions memory owns olds ≡ olds
private_memory regions memory [] olds h = refl
private_memory regions memory (own ∷ owns) [] h = refl
private_memory regions memory (own ∷ owns) (old ∷ olds) h =
    let p = and_parts own.private (are_private owns) h in
    ap (λ (b : Bool). (if b then old else bytes_of regions memory own.extent old) ∷ seen regions memory owns olds) p.0
    ∙ ap (λ (l : List (List ℕ)). old ∷ l) (private_memory regions memory owns olds p.1)

not_in_granules : (granule : ℕ) (range : Wrote) (owns : List Region) → are_private owns ≡ true → list_any (is_in_granule granule range) owns ≡ false
not_in_granules granule range [] h = refl
not_in_granules granule range (own ∷ owns) h =
    let p = and_parts own.private (are_private owns) h in
    ap (λ (b : Bool). (not b && (own.extent == range.extent && ranges_meet granule granule_size (own.logical + range.at) range.len)) || list_any (is_in_granule granule range) owns) p.0
    ∙ not_in_granules granule range owns p.1

not_stored_to : (owns : List Region) (stored : List Wrote) (granule : ℕ) → are_private owns ≡ true → is_stored_to owns stored granule ≡ false
not_stored_to owns [] granule h = refl
not_stored_to owns (range ∷ stored) granule h =
    ap (λ (b : Bool). b || is_stored_to owns stored granule) (not_in_granules granule range owns h) ∙ not_stored_to owns stored granule h

same_reservation : (owns : List Region) (stored : List Wrote) (reserved : Option ℕ) → are_private owns ≡ true → kept_reservation owns stored reserved ≡ reserved
same_reservation owns stored None h = refl
same_reservation owns stored (Some granule) h = ap (λ (b : Bool). if b then None else Some granule) (not_stored_to owns stored granule h)

same_cpu : (owns : List Region) (stored : List Wrote) (cpu : Cpu) → are_private owns ≡ true → with_kept owns stored cpu ≡ cpu
same_cpu owns stored cpu h = ap (λ (r : Option ℕ). record cpu { registers = with_reserved r cpu.registers }) (same_reservation owns stored cpu.registers.reserved h)

same_cpus : (owns : List Region) (stored : List Wrote) (cores : List Cpu) → are_private owns ≡ true → map (with_kept owns stored) cores ≡ cores
same_cpus owns stored [] h = refl
same_cpus owns stored (cpu ∷ cores) h =
    ap (λ (c : Cpu). c ∷ map (with_kept owns stored) cores) (same_cpu owns stored cpu h) ∙ ap (λ (l : List Cpu). cpu ∷ l) (same_cpus owns stored cores h)

pub left_alone : (desc : Desc) (regions : List Region) (memory : List (List ℕ)) (stored : List Wrote) (machine : Machine) → are_private desc.regions ≡ true
    → changed desc (Shared regions memory stored) machine ≡ machine
unfolding changed
left_alone desc regions memory stored machine h =
    ap (λ (l : List Cpu). record machine { inner = record machine.inner { cores = l }; memory = seen regions memory desc.regions machine.memory }) (same_cpus desc.regions stored machine.inner.cores h)
    ∙ ap (λ (l : List (List ℕ)). record machine { memory = l }) (private_memory regions memory desc.regions machine.memory h)

-- ---- moves alone

own_move : (desc : Desc) (move : Move) (machine : Machine) → changed desc (Moves move) machine ≡ moved desc move machine
unfolding changed
own_move desc move machine = refl

record FollowsMovesOf (desc : Desc) (changes : List Change) (first : Machine) : Type 0 where
  machine : after_changes desc changes first ≡ after_moves desc (flat_map move_in changes) first
  trace : trace_by desc changes first ≡ trace_of desc (flat_map move_in changes) first

moves_alone : (desc : Desc) (changes : List Change) (machine : Machine) → are_private desc.regions ≡ true → FollowsMovesOf desc changes machine
moves_alone desc [] machine h = record { machine = refl; trace = refl }
moves_alone desc (Moves move ∷ changes) machine h =
    let rest = moves_alone desc changes (moved desc move machine) h in
    record {
      machine = ap (after_changes desc changes) (own_move desc move machine) ∙ rest.machine;
      trace = ap (λ (l : List Traced). traced desc move machine ++ l) (ap (trace_by desc changes) (own_move desc move machine) ∙ rest.trace);
    }
moves_alone desc (Shared regions memory stored ∷ changes) machine h =
    let rest = moves_alone desc changes machine h in
    record {
      machine = ap (after_changes desc changes) (left_alone desc regions memory stored machine h) ∙ rest.machine;
      trace = ap (trace_by desc changes) (left_alone desc regions memory stored machine h) ∙ rest.trace;
    }

-- ---- from the beginning

opens_fresh : (network : Network) (part : ℕ) → machine_at (opening_world network).machines part ≡ fresh (desc_at network part)
unfolding opening_world
opens_fresh network part = get_or-map fresh network.descs part no_desc

opens_all : (network : Network) → length (opening_world network).machines ≡ length network.descs
unfolding opening_world
opens_all network = length-map network.descs fresh

pub follows_moves : (network : Network) (script : Script) (turns part : ℕ) → part < length network.descs → are_private (desc_at network part).regions ≡ true
    → FollowsMoves network part (run network script turns)
follows_moves network script turns part here h =
    let d : Desc = desc_at network part in
    let told = logged_run network script turns in
    let changes : List Change = changes_of part (run network script turns).log in
    let each = follows_changes network part (run network script turns).log (opening_world network).machines (subst (λ (n : ℕ). part < n) (sym (opens_all network)) here) in
    let alone = moves_alone d changes (fresh d) h in
    record {
      machine = ap (λ (l : _). machine_at l part) told.machines ∙ (each.machine ∙ (ap (after_changes d changes) (opens_fresh network part) ∙ alone.machine));
      trace = ap (trace_in part) told.lines ∙ (each.trace ∙ (ap (trace_by d changes) (opens_fresh network part) ∙ alone.trace));
    }
