-- A step of the system is the step of its network.
use Rattle.std.proofs.Common.{◌≡◌, ℕ, ◌+◌, ◌<◌, ◌≤◌, ◌==◌, Bool, true, false, ◌&&◌, cond, if◌then◌else◌, List, [], ◌∷◌, append-nil, length, length-set, map, Some, refl, sym, ap, subst, ◌∙◌, arith}
use Rattle.std.specs.List.{list_all}
use Rattle.std.proofs.lemmas.Bool.{and_parts, eqb-true, eqb-false, ltb-true, ltb-false}
use Rattle.std.proofs.lemmas.List.{length-map, get_or_past, get_or-set_other}
use Rattle.std.proofs.lemmas.List.Concat.{flat_map-cons}
use Rattle.std.specs.Prelude.{nat_lt}
use Rattle.core_step.specs.declared.answer.Wrote.{Wrote}
use Rattle.machine_desc.specs.declared.act.Act.{Act as Told}
use Rattle.machine_desc.specs.declared.act.Act.TheVariants as told
use Rattle.machine_desc.specs.declared.desc.Desc.{Desc}
use Rattle.machine_desc.specs.declared.wiring.End.{End as LinkEnd}
use Rattle.machine_desc.specs.declared.wiring.End.TheVariants.{Part, Console}
use Rattle.machine_desc.specs.declared.wiring.Link.{Link}
use Rattle.machine_desc.specs.declared.wiring.Wiring.{Wiring}
use Rattle.machine_desc.specs.Joined.{is_end, are_ends_apart, is_link_joined, are_links_joined}
use Rattle.partition.specs.Port.{kinds_of as described_kinds}
use Rattle.trace_text.specs.Acts.{act_text, copy_to_line}
use Rattle.copy_lists.specs.Pieces.{Piece, pieces_out}
use Rattle.partition.specs.Act.{Act, HasTotal, act_of}
use Rattle.fresh_load.specs.Placed.{ArePlaced, sizes_of}
use Rattle.fresh_load.proofs.Places.{all_still_placed}
use Rattle.partition.specs.Machine.{Machine, fresh, most_steps}
use Rattle.partition.specs.Step.{Stepped}
use Rattle.partition.proofs.Acting.{steps_so}
use Rattle.partition.specs.Lending.{Part as Member, HasHandle}
use Rattle.network.specs.Network.{Network, no_desc, desc_at, ref_to, is_end as is_same_end, far_end}
use Rattle.network.specs.Report.{act_line, traced_line, act_lines}
use Rattle.network.specs.World.{Counts, World, Line, line_of, machine_at, entry_for, delivered, after_entry, after_log}
use Rattle.network.specs.Effects.{brought, shown, printed_by}
use Rattle.network.specs.Tally.{Tally, after_act, after_lines}
use Rattle.network.specs.Turn.{done_by, feed_for, log_of, steps_in}
use Rattle.network.proofs.Logs.{after_both}
use Rattle.system.specs.Board.{Lines, kinds_of, wires_at, own_kinds}
use Rattle.partition.specs.declared.kind.Kind.{Kind}
use Rattle.system.specs.declared.wire.Wire.{Wire}
use Rattle.system.specs.System.{Held, Snapshot, no_part, part_at, descs_of, network_of, machine_in, machines_of, world_of, snapshot_of, IsSystem}
use Rattle.system.specs.Turning.{AfterCopy, AfterStep, Asks, Follows, HasConsole, Hears, Turns, kept_part}
use Rattle.system.proofs.Tied.{joined_parts, all_length}
use Rattle.system.proofs.Counted.{CountsStep, small_counts, total_rises}
use Rattle.system.proofs.Opened.{machine_there, machines_length, fresh_steps}
use Rattle.partition.proofs.Ways.{copy_way}
use Rattle.system.proofs.Given.{Gives, Arrives, arrives, step_gives, with_copy_sizes}
use Rattle.system.proofs.Shown.{IsStep, after_shown, pieces_by, stepping, stepped_so}
use Rattle.system.proofs.Told.{IsHeard, heard_desc}
use Rattle.system.proofs.Acts.{left_by, kinds_are}
use Rattle.system.proofs.Commanded.{settled_lines, lent_machine}
use Rattle.system.proofs.Tallied.{tallied}
use Rattle.system.proofs.Settled.{HasPieces, settled}
use Rattle.system.proofs.Kept.{descs_stay, counts_step, printed_so, turn_kept}

-- a console at a far end is there
end_has : (descs : List Desc) (wiring : Wiring) (end : LinkEnd) → is_end descs wiring end ≡ true → HasConsole (length wiring.consoles) (Some end)
end_has descs wiring (Part ref) h = tt
end_has descs wiring (Console number) h = ltb-true number (length wiring.consoles) h

far_has : (descs : List Desc) (wiring : Wiring) (links : List Link) (end : LinkEnd) → list_all (is_link_joined descs wiring) links ≡ true → HasConsole (length wiring.consoles) (far_end links end)
far_has descs wiring [] end h = tt
far_has descs wiring (link ∷ links) end h = by_ends (is_same_end end link.a) (is_same_end end link.b) (far_has descs wiring links end parts.1)
  where
    parts : (is_link_joined descs wiring link ≡ true) × (list_all (is_link_joined descs wiring) links ≡ true)
    parts = and_parts (is_link_joined descs wiring link) (list_all (is_link_joined descs wiring) links) h

    both : (is_end descs wiring link.a && is_end descs wiring link.b) ≡ true
    both = (and_parts (is_end descs wiring link.a && is_end descs wiring link.b) (are_ends_apart link.a link.b) parts.0).0

    ends : (is_end descs wiring link.a ≡ true) × (is_end descs wiring link.b ≡ true)
    ends = and_parts (is_end descs wiring link.a) (is_end descs wiring link.b) both

    by_ends : (b c : Bool) → HasConsole (length wiring.consoles) (far_end links end) → HasConsole (length wiring.consoles) (if b then Some link.b else if c then Some link.a else far_end links end)
    by_ends true c rest = end_has descs wiring link.b ends.1
    by_ends false true rest = end_has descs wiring link.a ends.0
    by_ends false false rest = rest

pub has_console : (held : Held) (handle : ℕ) → IsSystem held → HasConsole (length held.counts) (far_end held.wiring.links (Part (ref_to held.lines.who handle)))
unfolding are_links_joined
has_console held handle kept =
    subst (λ (n : ℕ). HasConsole n (far_end held.wiring.links (Part (ref_to held.lines.who handle)))) (sym kept.counts)
    (far_has (descs_of held.parts) held.wiring held.wiring.links (Part (ref_to held.lines.who handle))
    (and_parts (list_all (is_link_joined (descs_of held.parts) held.wiring) held.wiring.links) _ (joined_parts (descs_of held.parts) held.wiring kept.joined).links).0)

-- no machine's steps rise by more than one
rises : (old new : Held) → CountsStep old.lines.who old.parts new.parts → (part : ℕ) → (machine_at (machines_of new) part).inner.steps ≤ (machine_at (machines_of old) part).inner.steps + 1
rises old new step part = by_place (nat_lt part (length old.parts)) refl (part == old.lines.who) refl
  where
    olds : part < length old.parts → (machine_at (machines_of old) part).inner.steps ≡ (part_at old.parts part).inner.steps
    olds there = ap (λ (m : Machine). m.inner.steps) (machine_there old part (fresh no_desc) there)

    news : part < length new.parts → (machine_at (machines_of new) part).inner.steps ≡ (part_at new.parts part).inner.steps
    news there = ap (λ (m : Machine). m.inner.steps) (machine_there new part (fresh no_desc) there)

    by_place : (b : Bool) → nat_lt part (length old.parts) ≡ b → (c : Bool) → (part == old.lines.who) ≡ c → (machine_at (machines_of new) part).inner.steps ≤ (machine_at (machines_of old) part).inner.steps + 1
    by_place false e c f =
        let count = step.count in
        let past = ltb-false part (length old.parts) e in
        let long = machines_length new in
        let none : (machine_at (machines_of new) part).inner.steps ≡ 0 = ap (λ (m : Machine). m.inner.steps) (get_or_past (machines_of new) part (fresh no_desc) (omega (arith, count, past, long))) ∙ fresh_steps no_desc in
        omega (arith, none)
    by_place true e false f =
        let there = ltb-true part (length old.parts) e in
        let count = step.count in
        let o = olds there in
        let n = news (omega (arith, there, count)) in
        let same = step.others part there (eqb-false part old.lines.who f) in
        omega (arith, o, n, same)
    by_place true e true f =
        let there = ltb-true part (length old.parts) e in
        let count = step.count in
        let o = olds there in
        let n = news (omega (arith, there, count)) in
        let at = eqb-true part old.lines.who f in
        let own = step.own in
        let a : (part_at new.parts part).inner.steps ≡ (part_at new.parts old.lines.who).inner.steps = ap (λ (k : ℕ). (part_at new.parts k).inner.steps) at in
        let b : (part_at old.parts part).inner.steps ≡ (part_at old.parts old.lines.who).inner.steps = ap (λ (k : ℕ). (part_at old.parts k).inner.steps) at in
        omega (arith, o, n, own, a, b)

-- the step, with the board that shows its partition what the act leaves
pub is_step : (held : Held) (stepped : List Member) (memory : List (List ℕ)) (lent : Lines) (core : ℕ) (act : Told) (ranges : List Wrote) → IsSystem held → held.lines.who < length held.parts
    → AfterStep held.parts stepped held.memory memory held.lines lent core act ranges → IsStep held stepped memory (settled_lines act lent) core act ranges
is_step held stepped memory lent core act ranges kept here step = record {
  kept = kept;
  who = here;
  lent = lent;
  step = step;
  shows = lent_machine held lent (part_at stepped held.lines.who) memory act kept here (step_gives held.parts stepped held.memory memory held.lines lent core act ranges step) step.handle;
}

-- the step's own pieces are those of the list
has_pieces : (held : Held) (stepped : List Member) (memory : List (List ℕ)) (lines : Lines) (core : ℕ) (act : Told) (ranges : List Wrote) → (is : IsStep held stepped memory lines core act ranges)
    → HasPieces held memory is.lent (pieces_by held memory is.lent) act
has_pieces held stepped memory lines core (told.CopyTo handle count) ranges is =
    let desc : Desc = (part_at held.parts held.lines.who).desc in
    let to : is.lent.last.to_managed ≡ true =
    copy_way desc (machine_in held held.lines.who) core _ is.lent.last handle (pieces_by held memory is.lent) is.step.did.0 is.step.stepped.act in
    ap (λ (b : Bool). cond b (pieces_out desc.regions memory is.lent.last.entries) []) to
has_pieces held stepped memory lines core _ ranges is = tt

pub turned : (held : Held) (stepped rung : List Member) (memory loaded : List (List ℕ)) (lent left : Lines) (core : ℕ) (act : Told) (ranges : List Wrote) (new : List Counts)
    → IsSystem held → held.lines.who < length held.parts → (part_at held.parts held.lines.who).inner.steps < most_steps → AfterCopy held.parts stepped held.memory memory held.lines lent core act ranges
    → Follows held.wiring held.lines.who act ranges stepped rung memory loaded lent left held.counts new
    → Turns held (left_by held rung loaded left new) core act
unfolding is_step steps_in
turned held stepped rung after loaded lent left core act ranges new kept here few c f =
    let memory : List (List ℕ) = c.memory in
    let lines : Lines = settled_lines act lent in
    let is : IsStep held stepped memory lines core act ranges = is_step held stepped memory lent core act ranges kept here c.step in
    let h : IsHeard held stepped f.heard memory lines core act ranges = record { is = is; hears = f.hears } in
    let network : Network = network_of held in
    let machines : List Machine = machines_of held in
    let pieces : List Piece = pieces_by held memory lent in
    let done : Stepped = done_by network machines held.lines.who core in
    let so = stepped_so held stepped memory lines core act ranges is in
    let did : Gives act held.lines lent = step_gives held.parts stepped held.memory memory held.lines lent core act ranges c.step in
    let desc = heard_desc held stepped f.heard memory lines core act ranges held.lines.who h here in
    let s : Arrives held.wiring held.lines.who act f.heard rung memory loaded lent left held.counts new =
    arrives held.wiring held.lines.who act f.heard rung memory after loaded held.lines lent left (part_at held.parts held.lines.who).desc.regions held.counts new did (ap (λ (d : Desc). d.regions) (sym desc)) c.copied f.settles in
    let descs = descs_stay held stepped f.heard rung memory loaded lines left core act ranges held.counts new h s in
    let all : machines_of (left_by held rung loaded left new) ≡ after_log network (map delivered (brought network machines held.lines.who done.act)) (after_shown network machines held.lines.who core) =
    settled held stepped f.heard rung memory loaded lines left core act ranges held.counts new h kept.running refl pieces (has_pieces held stepped memory lines core act ranges is) s
    ∙ ap (λ (a : Act). after_log network (map delivered (brought network machines held.lines.who a)) (after_shown network machines held.lines.who core)) (sym so.act) in
    let logged : after_log network (log_of network machines held.lines.who core done) machines ≡ after_log network (map delivered (brought network machines held.lines.who done.act)) (after_shown network machines held.lines.who core) =
    after_both network (shown network held.lines.who done) (map delivered (brought network machines held.lines.who done.act)) (after_entry network (entry_for held.lines.who (stepping held held.lines.who core)) machines) in
    let step : CountsStep held.lines.who held.parts rung = counts_step held stepped f.heard rung memory loaded lines left core act ranges held.counts new h s in
    let counts : new ≡ printed_by network held.lines.who done.act held.counts =
    printed_so held f.heard rung memory loaded lent left act held.counts new s pieces ∙ ap (λ (a : Act). printed_by network held.lines.who a held.counts) (sym so.act) in
    record {
      system = turn_kept held stepped f.heard rung memory loaded lines left core act ranges new h s few (λ handle. has_console held handle kept);
      network = ap (λ (l : List Desc). let it : Network = record { descs = l; wiring = held.wiring } in it) descs;
      world = ap (λ (ms : List Machine). let it : World = record { machines = ms; consoles = new } in it) (all ∙ sym logged)
          ∙ ap (λ (cs : List Counts). let it : World = record { machines = after_log network (log_of network machines held.lines.who core done) machines; consoles = cs } in it) counts;
      pieces = pieces;
      did = so.act;
      total = so.total;
      bytes = c.step.bytes;
      counted = rises held (left_by held rung loaded left new) step;
      rises = total_rises held.parts rung held.lines.who step.count here step.own step.others;
    }

-- ---- what the program asks for

pub record KeepsLent (old new : Lines) : Type 0 where
  pub who : new.who ≡ old.who
  pub running : new.running ≡ old.running
  pub wires : new.wires ≡ old.wires

lent_by : (old new next : Lines) → new ≡ next → KeepsLent old next → KeepsLent old new
lent_by old new next e k = subst (λ (ls : Lines). KeepsLent old ls) (sym e) k

pub did_keeps : (act : Told) (old new : Lines) → Gives act old new → KeepsLent old new
did_keeps (told.Sent handle bytes) old new did = lent_by old new _ did (record { who = refl; running = refl; wires = refl })
did_keeps (told.Took handle count) old new did = lent_by old new _ did (record { who = refl; running = refl; wires = refl })
did_keeps (told.CopyTo handle count) old new did = lent_by old new _ did (record { who = refl; running = refl; wires = refl })
did_keeps (told.CopyFrom handle count) old new did = lent_by old new _ did (record { who = refl; running = refl; wires = refl })
did_keeps _ old new did = lent_by old new old did (record { who = refl; running = refl; wires = refl })

-- handles of the board are those of the description
pub lent_kinds : (held : Held) → IsSystem held → held.lines.who < length held.parts → own_kinds held.lines ≡ described_kinds (part_at held.parts held.lines.who).desc.ports
lent_kinds held kept here = kinds_are held held.lines.who kept here

-- what a step leaves can be settled
pub asks : (held : Held) (stepped : List Member) (memory : List (List ℕ)) (lent : Lines) (core : ℕ) (act : Told) (ranges : List Wrote) → IsSystem held → held.lines.who < length held.parts
    → AfterCopy held.parts stepped held.memory memory held.lines lent core act ranges → Asks held.wiring act stepped memory lent held.counts
asks held stepped memory lent core act ranges kept here c =
    let step = c.step in
    let k = did_keeps act held.lines lent (step_gives held.parts stepped held.memory c.memory held.lines lent core act ranges step) in
    let who = k.who in
    let long : length stepped ≡ length held.parts = ap length step.parts ∙ length-set held.parts held.lines.who (part_at stepped held.lines.who) in
    let descs : length (descs_of held.parts) ≡ length held.parts = length-map held.parts (λ (p : Member). p.desc) in
    let wires : length lent.wires ≡ length held.parts = ap length k.wires ∙ (ap length kept.wires ∙ (all_length held.wiring 0 (descs_of held.parts) ∙ descs)) in
    let kinds : own_kinds lent ≡ own_kinds held.lines = ap (λ (ws : List (List Wire)). kinds_of (wires_at ws lent.who)) k.wires ∙ ap (λ (n : ℕ). kinds_of (wires_at held.lines.wires n)) k.who in
    record {
      who = omega (arith, wires, who, here);
      count = long ∙ sym wires;
      placed = λ part there.
          let within : part < length held.parts = omega (arith, there, long) in
          subst (λ (d : Desc). ArePlaced memory d.regions) (sym (stepped_desc part within (part == held.lines.who) refl))
          (all_still_placed held.memory memory (part_at held.parts part).desc.regions (ap sizes_of c.copied ∙ (with_copy_sizes held.lines (part_at held.parts held.lines.who).desc.regions lent.last act c.memory ∙ step.sizes)) (kept.placed part within));
      handle = subst (λ (ks : List Kind). HasHandle ks act) (sym (kinds ∙ lent_kinds held kept here)) step.handle;
      bytes = step.bytes;
      entry = step.entry;
      consoles = λ h. subst (λ (n : ℕ). HasConsole (length held.counts) (far_end held.wiring.links (Part (ref_to n h)))) (sym k.who) (has_console held h kept);
      few = (small_counts held kept).printed;
    }
  where
    stepped_desc : (part : ℕ) → part < length held.parts → (b : Bool) → (part == held.lines.who) ≡ b → (part_at stepped part).desc ≡ (part_at held.parts part).desc
    stepped_desc part there false e = ap (λ (ps : List Member). (part_at ps part).desc) c.step.parts ∙ ap (λ (p : Member). p.desc) (get_or-set_other held.parts held.lines.who part (part_at stepped held.lines.who) no_part (eqb-false part held.lines.who e))
    stepped_desc part there true e = subst (λ (n : ℕ). (part_at stepped n).desc ≡ (part_at held.parts n).desc) (sym (eqb-true part held.lines.who e)) c.step.desc

-- and so it is once others heard of its stores
pub heard_asks : (wiring : Wiring) (act : Told) (stepped heard : List Member) (memory : List (List ℕ)) (lines : Lines) (counts : List Counts) (ranges : List Wrote) → Asks wiring act stepped memory lines counts
    → Hears lines.who ranges stepped heard → Asks wiring act heard memory lines counts
heard_asks wiring act stepped heard memory lines counts ranges a h = record {
  who = a.who;
  count = h.count ∙ a.count;
  placed = λ part there.
      let long = h.count in
      let within : part < length stepped = omega (arith, there, long) in
      subst (λ (d : Desc). ArePlaced memory d.regions) (sym (ap (λ (p : Member). p.desc) (h.each part within) ∙ same_desc part (part == lines.who))) (a.placed part within);
  handle = a.handle;
  bytes = a.bytes;
  entry = a.entry;
  consoles = a.consoles;
  few = a.few;
}
  where
    same_desc : (part : ℕ) → (b : Bool) → (if b then part_at stepped part else kept_part ranges (part_at stepped part)).desc ≡ (part_at stepped part).desc
    same_desc part true = refl
    same_desc part false = refl

-- ---- lent to a partition

abbrev pub lent_to : Held → ℕ → Held
lent_to held who = record held { lines = record held.lines { who = who } }

pub lent_same : (held : Held) (who : ℕ) → world_of (lent_to held who) ≡ world_of held
unfolding machines_of
lent_same held who = refl

pub lent_kept : (held : Held) (who : ℕ) → IsSystem held → IsSystem (lent_to held who)
lent_kept held who k = record { joined = k.joined; wires = k.wires; running = k.running; channels = k.channels; maps = k.maps; consoles = k.consoles; counts = k.counts; placed = k.placed; taken = k.taken; counted = record { steps = k.counted.steps; printed = k.counted.printed; entered = k.counted.entered } }

pub inner_there : {tally : Tally} (held : Held) (now : Snapshot) (part who : ℕ) → snapshot_of tally held ≡ now → part < length now.network.descs → who ≡ part
    → (machine_at now.world.machines part).inner ≡ (part_at held.parts who).inner
inner_there held now part who view here same =
    let within : part < length (descs_of held.parts) = subst (λ (s : Snapshot). part < length s.network.descs) (sym view) here in
    let descs : length (descs_of held.parts) ≡ length held.parts = length-map held.parts (λ (p : Member). p.desc) in
    ap (λ (s : Snapshot). (machine_at s.world.machines part).inner) (sym view)
    ∙ (ap (λ (m : Machine). m.inner) (machine_there held part (fresh no_desc) (omega (arith, within, descs))) ∙ ap (λ (n : ℕ). (part_at held.parts n).inner) (sym same))

-- ---- the line of a step

agrees : (name : List ℕ) (number : ℕ) (pieces : List Piece) (act : Told) → HasTotal pieces act → act_text name number act ≡ act_line name number (act_of pieces act)
agrees name number pieces (told.CopyTo handle count) total = ap (copy_to_line name number handle) total
agrees name number pieces told.None total = refl
agrees name number pieces _ total = refl

one_line : (network : Network) (part number : ℕ) (act : Act) → act_lines network (line_of part (record { step = number; act = act }) ∷ []) ≡ act_line (desc_at network part).name number act
one_line network part number act =
    flat_map-cons (λ (line : Line). traced_line (desc_at network line.part).name line.traced) (line_of part (record { step = number; act = act })) []
    ∙ append-nil (act_line (desc_at network part).name number act)

abbrev pub told_line : Network → World → ℕ → Told → List ℕ
told_line network world part act = act_text (desc_at network part).name ((machine_at world.machines part).inner.steps + 1) act

lined : (network : Network) (world : World) (part core : ℕ) (pieces : List Piece) (act : Told) → (done_by network world.machines part core).act ≡ act_of pieces act → HasTotal pieces act
    → told_line network world part act ≡ act_lines network (steps_in network part core world).lines
unfolding steps_in
lined network world part core pieces act e total =
    let done : Stepped = done_by network world.machines part core in
    let before : ℕ = (machine_at world.machines part).inner.steps in
    let name : List ℕ = (desc_at network part).name in
    let count : done.after.inner.steps ≡ before + 1 = (steps_so (desc_at network part) (machine_at world.machines part) core (feed_for network world.machines part core)).counted in
    agrees name (before + 1) pieces act total
    ∙ (ap (λ (n : ℕ). act_line name n (act_of pieces act)) (sym count)
    ∙ (ap (act_line name done.after.inner.steps) (sym e)
    ∙ sym (one_line network part done.after.inner.steps done.act)))

-- a step of the network, by what callers see
pub record IsTurned (now : Snapshot) (new : Held) (part core : ℕ) (act : Told) : Type 0 where
  pub world : world_of new ≡ (steps_in now.network part core now.world).after
  pub line : act_text (desc_at now.network part).name ((machine_at now.world.machines part).inner.steps + 1) act ≡ act_lines now.network (steps_in now.network part core now.world).lines
  pub tally : after_act (act_of [] act) now.tally ≡ after_lines (steps_in now.network part core now.world).lines now.tally
  pub counted : (other : ℕ) → (machine_at (machines_of new) other).inner.steps ≤ (machine_at now.world.machines other).inner.steps + 1

turned_lent : (tally : Tally) (held new : Held) (part core : ℕ) (act : Told) → Turns (lent_to held part) new core act → IsTurned (snapshot_of tally held) new part core act
turned_lent tally held new part core act t =
    let did = ap (λ (w : World). (done_by (network_of held) w.machines part core).act) (sym (lent_same held part)) ∙ t.did in
    record {
      world = t.world ∙ ap (λ (w : World). (steps_in (network_of held) part core w).after) (lent_same held part);
      line = lined (network_of held) (world_of held) part core t.pieces act did t.total;
      tally = tallied (network_of held) (world_of held) part core t.pieces act tally did;
      counted = λ other. subst (λ (w : World). (machine_at (machines_of new) other).inner.steps ≤ (machine_at w.machines other).inner.steps + 1) (lent_same held part) (t.counted other);
    }

pub turned_as : {tally : Tally} (held new : Held) (now : Snapshot) (lines : Lines) (part core : ℕ) (act : Told) → snapshot_of tally held ≡ now → lines ≡ record held.lines { who = part } → Turns (record held { lines = lines }) new core act
    → IsTurned now new part core act
turned_as {tally} held new now lines part core act view l t =
    subst (λ (s : Snapshot). IsTurned s new part core act) view (turned_lent tally held new part core act (subst (λ (ls : Lines). Turns (record held { lines = ls }) new core act) l t))
