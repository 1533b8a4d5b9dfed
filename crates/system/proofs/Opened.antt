-- A system before the first turn.
use Rattle.std.proofs.Common.{◌≡◌, ℕ, zero, suc, ◌<◌, List, [], ◌∷◌, length, map, replicate, slice_index_or, true, refl, sym, ap, subst, ◌∙◌, arith}
use Rattle.std.specs.List.{list_all}
use Rattle.std.proofs.lemmas.List.{length-map, length-replicate, get_or-map}
use Rattle.std.proofs.lemmas.List.FromFn.{get_or-map-range_with_len, length-map-range_with_len}
use Rattle.byte_channel.specs.declared.side.Side.{Side}
use Rattle.byte_channel.specs.declared.side.Side.TheVariants.{A, B}
use Rattle.byte_channel.specs.Waiting.{empty_channel, waiting_at}
use Rattle.machine_desc.specs.declared.desc.Desc.{Desc}
use Rattle.machine_desc.specs.declared.wiring.Wiring.{Wiring}
use Rattle.machine_desc.specs.Joined.{AreJoined}
use Rattle.machine_desc.specs.Sound.{is_sound}
use Rattle.ground.specs.Own.{own_of}
use Rattle.fresh_load.specs.Fresh.{fresh_memory}
use Rattle.fresh_load.specs.Placed.{ArePlaced, extents_of}
use Rattle.partition.specs.Port.{End, fresh_end}
use Rattle.partition.specs.Machine.{Machine, fresh, fresh_inner}
use Rattle.partition.specs.Lending.{Part, machine_of}
use Rattle.network.specs.Network.{Network, no_desc}
use Rattle.network.specs.Tally.{no_tally}
use Rattle.network.specs.World.{Counts, no_counts, machine_at, opening_world}
use Rattle.system.specs.Board.{Lines, ends_of, wires_at}
use Rattle.system.specs.Wired.{console_side, begins_running, opening_lines, regions_of}
use Rattle.system.specs.System.{Held, Snapshot, fresh_part, no_part, part_at, descs_of, machine_in, machines_of, world_of, network_of, snapshot_of, IsSystem, AreLoaded}
use Rattle.system.proofs.Fresh.{none_wait, open_fresh}
use Rattle.system.proofs.Tied.{joined_parts}
use Rattle.system.proofs.Counted.{opens_counted}

-- ---- lists

pub same_lists : {X : Type 0} (xs ys : List X) (d e : X) → length xs ≡ length ys → ((i : ℕ) → i < length xs → slice_index_or xs i d ≡ slice_index_or ys i e) → xs ≡ ys
same_lists [] [] d e long h = refl
same_lists [] (y ∷ ys) d e long h = absurd (omega (arith, long))
same_lists (x ∷ xs) [] d e long h = absurd (omega (arith, long))
same_lists (x ∷ xs) (y ∷ ys) d e long h =
    let head : x ≡ y = h 0 (omega arith) in
    let tail : xs ≡ ys = same_lists xs ys d e (omega (arith, long)) (λ i there. h (suc i) (omega (arith, there))) in
    cc

-- a machine by its number
pub machine_there : (held : Held) (part : ℕ) (d : Machine) → part < length held.parts → slice_index_or (machines_of held) part d ≡ machine_in held part
unfolding machines_of
machine_there held part d there = get_or-map-range_with_len (machine_in held) 0 (length held.parts) part part d there (omega arith)

pub machines_length : (held : Held) → length (machines_of held) ≡ length held.parts
unfolding machines_of
machines_length held = length-map-range_with_len (machine_in held) 0 (length held.parts)

-- ---- partitions

pub fresh_steps : (desc : Desc) → (fresh desc).inner.steps ≡ 0
unfolding fresh
fresh_steps desc = refl

steps_of_fresh : (descs : List Desc) (part : ℕ) → (machine_at (map fresh descs) part).inner.steps ≡ 0
steps_of_fresh [] part = fresh_steps no_desc
steps_of_fresh (desc ∷ descs) zero = fresh_steps desc
steps_of_fresh (desc ∷ descs) (suc part) = steps_of_fresh descs part

-- no step is done before the first turn
pub opening_steps : (network : Network) (part : ℕ) → (machine_at (opening_world network).machines part).inner.steps ≡ 0
unfolding opening_world
opening_steps network part = steps_of_fresh network.descs part

pub descs_back : (descs : List Desc) → descs_of (map fresh_part descs) ≡ descs
descs_back [] = refl
descs_back (desc ∷ descs) = let tail : descs_of (map fresh_part descs) ≡ descs = descs_back descs in cc

part_there : (descs : List Desc) (part : ℕ) → part < length descs → part_at (map fresh_part descs) part ≡ fresh_part (slice_index_or descs part no_desc)
part_there descs part there = get_or-map fresh_part descs part no_desc no_part there

abbrev opening : List Desc → Wiring → List (List ℕ) → Held
opening descs wiring memory = record {
  parts = map fresh_part descs;
  memory = memory;
  lines = opening_lines descs wiring;
  wiring = wiring;
  counts = replicate (length wiring.consoles) no_counts;
}

machine_is : (desc : Desc) (ends : List End) (memory : List (List ℕ)) → ends ≡ map fresh_end desc.ports → own_of (extents_of desc.regions) memory ≡ fresh_memory desc
    → machine_of (fresh_part desc) ends memory ≡ fresh desc
unfolding fresh
machine_is desc ends memory e m =
    ap (λ (l : List End). let it : Machine = record { inner = fresh_inner desc; ports = l; memory = own_of (extents_of desc.regions) memory } in it) e
    ∙ ap (λ (l : List (List ℕ)). let it : Machine = record { inner = fresh_inner desc; ports = map fresh_end desc.ports; memory = l } in it) m

opens_as : (descs : List Desc) (wiring : Wiring) (memory : List (List ℕ)) (part : ℕ) → AreJoined descs wiring → AreLoaded descs memory → part < length descs
    → machine_in (opening descs wiring memory) part ≡ fresh (slice_index_or descs part no_desc)
opens_as descs wiring memory part joined loaded there =
    let lines = opening_lines descs wiring in
    let network : Network = record { descs = descs; wiring = wiring } in
    ap (λ (p : Part). machine_of p (ends_of lines.channels lines.running (wires_at lines.wires part)) memory) (part_there descs part there)
    ∙ machine_is (slice_index_or descs part no_desc) (ends_of lines.channels lines.running (wires_at lines.wires part)) memory (open_fresh network part joined there).ends (loaded.each part there).fresh

machines_open : (descs : List Desc) (wiring : Wiring) (memory : List (List ℕ)) → AreJoined descs wiring → AreLoaded descs memory → machines_of (opening descs wiring memory) ≡ map fresh descs
machines_open descs wiring memory joined loaded =
    let held = opening descs wiring memory in
    let long = machines_length held in
    let parts : length held.parts ≡ length descs = length-map descs fresh_part in
    let others : length (map fresh descs) ≡ length descs = length-map descs fresh in
    same_lists (machines_of held) (map fresh descs) (fresh no_desc) (fresh no_desc) (long ∙ (parts ∙ sym others))
    (λ part there.
    let within : part < length descs = omega (arith, there, long, parts) in
    machine_there held part (fresh no_desc) (omega (arith, there, long))
    ∙ (opens_as descs wiring memory part joined loaded within ∙ sym (get_or-map fresh descs part no_desc (fresh no_desc) within)))

-- it is the definition's world before the first turn
pub opens : (descs : List Desc) (wiring : Wiring) (memory : List (List ℕ)) → AreJoined descs wiring → AreLoaded descs memory
    → snapshot_of no_tally (record {
      parts = map fresh_part descs;
      memory = memory;
      lines = opening_lines descs wiring;
      wiring = wiring;
      counts = replicate (length wiring.consoles) no_counts;
    }) ≡ record { network = record { descs = descs; wiring = wiring }; world = opening_world (record { descs = descs; wiring = wiring }); tally = no_tally }
unfolding opening_world
opens descs wiring memory joined loaded =
    ap (λ (l : List Desc).
    let it : Snapshot = record {
      network = record { descs = l; wiring = wiring };
      world = record { machines = machines_of (opening descs wiring memory); consoles = replicate (length wiring.consoles) no_counts };
      tally = no_tally;
    } in
    it) (descs_back descs)
    ∙ ap (λ (l : List Machine).
    let it : Snapshot = record {
      network = record { descs = descs; wiring = wiring };
      world = record { machines = l; consoles = replicate (length wiring.consoles) no_counts };
      tally = no_tally;
    } in
    it) (machines_open descs wiring memory joined loaded)

none_at : (side : Side) → waiting_at side empty_channel ≡ []
none_at A = refl
none_at B = refl

-- and what a system keeps
pub opens_kept : (descs : List Desc) (wiring : Wiring) (memory : List (List ℕ)) → AreJoined descs wiring → AreLoaded descs memory
    → IsSystem (record {
      parts = map fresh_part descs;
      memory = memory;
      lines = opening_lines descs wiring;
      wiring = wiring;
      counts = replicate (length wiring.consoles) no_counts;
    })
unfolding opening_lines
opens_kept descs wiring memory joined loaded =
    let parts : length (map fresh_part descs) ≡ length descs = length-map descs fresh_part in
    record {
      joined = subst (λ (l : List Desc). AreJoined l wiring) (sym (descs_back descs)) joined;
      wires = ap (λ (l : List Desc). (opening_lines l wiring).wires) (sym (descs_back descs));
      running = length-map descs begins_running ∙ sym parts;
      channels = length-replicate (length wiring.links) empty_channel;
      consoles = refl;
      maps = ap (map regions_of) (sym (descs_back descs));
      counts = length-replicate (length wiring.consoles) no_counts;
      placed = λ part there.
          let within : part < length descs = omega (arith, there, parts) in
          subst (λ (p : Part). ArePlaced memory p.desc.regions) (sym (part_there descs part within)) (loaded.each part within).placed;
      taken = λ console there.
          let it = console_side wiring.links console in
          ap (waiting_at it.side) (none_wait (length wiring.links) it.link) ∙ none_at it.side;
      counted = opens_counted descs (opening_lines descs wiring) (length wiring.consoles);
    }

pub joined_sound : (descs : List Desc) (wiring : Wiring) → AreJoined descs wiring → list_all is_sound descs ≡ true
joined_sound descs wiring joined = (joined_parts descs wiring joined).sound

pub opens_from : (descs : List Desc) (wiring : Wiring) (parts : List Part) (memory : List (List ℕ)) (lines : Lines) (counts : List Counts) → AreJoined descs wiring → AreLoaded descs memory
    → parts ≡ map fresh_part descs → lines ≡ opening_lines descs wiring → counts ≡ replicate (length wiring.consoles) no_counts
    → IsSystem (record { parts = parts; memory = memory; lines = lines; wiring = wiring; counts = counts })
opens_from descs wiring parts memory lines counts joined loaded p l c =
    subst (λ (ps : List Part). IsSystem (record { parts = ps; memory = memory; lines = lines; wiring = wiring; counts = counts })) (sym p)
    (subst (λ (ls : Lines). IsSystem (record { parts = map fresh_part descs; memory = memory; lines = ls; wiring = wiring; counts = counts })) (sym l)
    (subst (λ (cs : List Counts). IsSystem (record { parts = map fresh_part descs; memory = memory; lines = opening_lines descs wiring; wiring = wiring; counts = cs })) (sym c)
    (opens_kept descs wiring memory joined loaded)))
