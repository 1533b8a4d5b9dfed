-- What a system keeps over a turn.
use Rattle.std.proofs.Common.{◌≡◌, ◌≢◌, ℕ, ◌<◌, ◌==◌, Bool, true, false, List, [], length, map, slice_index_or, slice_set, Option, Some, None, refl, sym, ap, subst, ◌∙◌, arith, length-set}
use Rattle.std.proofs.lemmas.Bool.{false≢true, eqb-true, eqb-false}
use Rattle.std.proofs.lemmas.List.{length-map, get_or-map, get_or-set_same, get_or-set_other}
use Rattle.byte_channel.specs.declared.side.Side.{Side}
use Rattle.byte_channel.specs.declared.side.Side.TheVariants.{A, B}
use Rattle.byte_channel.specs.Waiting.{Waiting, other_side, waiting_at, after_receive}
use Rattle.core_step.specs.declared.answer.Wrote.{Wrote}
use Rattle.machine_desc.specs.declared.act.Act.{Act as Told}
use Rattle.machine_desc.specs.declared.act.Act.TheVariants as told
use Rattle.machine_desc.specs.declared.desc.Desc.{Desc}
use Rattle.machine_desc.specs.declared.wiring.PortRef.{PortRef}
use Rattle.machine_desc.specs.declared.wiring.End.{End as LinkEnd}
use Rattle.machine_desc.specs.declared.wiring.End.TheVariants.{Part, Console}
use Rattle.machine_desc.specs.Joined.{is_at, AreJoined}
use Rattle.fresh_load.specs.Placed.{ArePlaced, sizes_of}
use Rattle.fresh_load.proofs.Places.{all_still_placed}
use Rattle.partition.specs.declared.kind.Kind.TheVariants as kind
use Rattle.partition.specs.Port.{kind_at, kinds_of as described_kinds}
use Rattle.partition.specs.Act.{act_of}
use Rattle.copy_lists.specs.Pieces.{Piece}
use Rattle.partition.specs.Copying.{Copy}
use Rattle.partition.specs.Machine.{most_steps}
use Rattle.partition.specs.Lending.{Part as Member, HasHandle}
use Rattle.network.specs.Network.{no_desc, ref_to, far_of}
use Rattle.network.specs.World.{Counts}
use Rattle.network.specs.Effects.{count_printed, printed_by}
use Rattle.system.specs.declared.wire.Wire.{Wire}
use Rattle.system.specs.declared.wire.Wire.TheVariants.{Channel}
use Rattle.system.specs.Board.{Lines, channel_at, kinds_of, wires_at, own_wire, emptied_lines, sent_by, taken_by, managed_by, told_by}
use Rattle.system.specs.Wired.{all_wires, console_side, regions_of}
use Rattle.system.specs.System.{Held, no_part, part_at, descs_of, network_of, AreTaken, IsSystem}
use Rattle.system.specs.Turning.{HasConsole, copied_part, marked_lines, printed_lines, stopped_part}
use Rattle.system.proofs.Tied.{no_link, end_at}
use Rattle.system.proofs.Far.{IsOwn}
use Rattle.system.proofs.Opened.{same_lists}
use Rattle.system.proofs.Emptied.{all_cleared_long, all_still_none}
use Rattle.system.proofs.Entered.{still_taken, sent_taken}
use Rattle.system.proofs.Rung.{keeps_desc, keeps_steps}
use Rattle.system.proofs.Given.{Gives, Arrives, step_gives, written_sizes}
use Rattle.system.proofs.Told.{IsHeard, heard_long, heard_own, heard_other, heard_desc}
use Rattle.system.proofs.Counted.{CountsStep, turned_counted}
use Rattle.system.proofs.Acts.{left_by, own_end, sent_lines, taken_lines}
use Rattle.system.proofs.Settled.{printed_same, sort_of}

-- ---- the board

pub record KeepsLines (held : Held) (left : Lines) : Type 0 where
  pub wires : left.wires ≡ held.lines.wires
  pub running : length left.running ≡ length held.lines.running
  pub channels : length left.channels ≡ length held.lines.channels
  pub consoles : left.consoles ≡ held.lines.consoles
  pub maps : left.maps ≡ held.lines.maps
  pub taken : AreTaken held.wiring left.channels

same_lines : (held : Held) (left : Lines) → IsSystem held → left ≡ held.lines → KeepsLines held left
same_lines held left kept e = subst (λ (ls : Lines). KeepsLines held ls) (sym e) (record { wires = refl; running = refl; channels = refl; consoles = refl; maps = refl; taken = kept.taken })

noted_lines : (held : Held) (left : Lines) (last : Copy) → IsSystem held → left ≡ record held.lines { last = last } → KeepsLines held left
noted_lines held left last kept e = subst (λ (ls : Lines). KeepsLines held ls) (sym e) (record { wires = refl; running = refl; channels = refl; consoles = refl; maps = refl; taken = kept.taken })

marked_keeps : (held : Held) (left : Lines) → IsSystem held → left ≡ marked_lines held.lines held.lines.who false → KeepsLines held left
marked_keeps held left kept e = subst (λ (ls : Lines). KeepsLines held ls) (sym e) (record { wires = refl; running = length-set held.lines.running held.lines.who false; channels = refl; consoles = refl; maps = refl; taken = kept.taken })

wire_is : (held : Held) (handle : ℕ) → IsSystem held → (it : IsOwn (network_of held) held.lines.who handle) → own_wire held.lines handle ≡ Channel it.place it.side
wire_is held handle kept it = ap (λ (ws : List (List Wire)). own_wire (record held.lines { wires = ws }) handle) kept.wires ∙ it.wire

some_is : {X : Type 0} (x y : X) → Some x ≡ Some y → x ≡ y
some_is x y e = cc

sent_keeps : (held : Held) (handle : ℕ) (bytes : List ℕ) (ref : PortRef) → IsSystem held → held.lines.who < length held.parts → kind_at (kinds_of (wires_at held.lines.wires held.lines.who)) handle ≡ Some kind.Channel
    → far_of (network_of held) held.lines.who handle ≡ Some (Part ref) → KeepsLines held (sent_lines held.lines handle bytes)
sent_keeps held handle bytes ref kept here sort far =
    let it = own_end held handle kept here sort in
    let wire = wire_is held handle kept it in
    let below : it.place < length held.lines.channels = let t = it.there in let long = kept.channels in omega (arith, t, long) in
    record {
      wires = refl;
      running = refl;
      channels = ap (λ (w : Wire). length (sent_by held.lines.channels w bytes)) wire ∙ length-set held.lines.channels it.place _;
      consoles = refl;
      maps = refl;
      taken = subst (λ (w : Wire). AreTaken held.wiring (sent_by held.lines.channels w bytes)) (sym wire)
          (sent_taken (network_of held) held.lines.channels it.place it.side bytes ref kept.joined below (some_is _ (Part ref) (sym it.far ∙ far)) kept.taken);
    }

part_at_end : (ref : PortRef) (end : LinkEnd) → is_at ref end ≡ true → (other : PortRef) × (end ≡ Part other)
part_at_end ref (Part other) h = (other, refl)
part_at_end ref (Console number) h = absurd (false≢true h)

taken_beside : (side : Side) (count : ℕ) (channel : Waiting) → waiting_at (other_side side) (after_receive side count channel) ≡ waiting_at (other_side side) channel
taken_beside A count channel = refl
taken_beside B count channel = refl

taken_keeps : (held : Held) (handle count : ℕ) → IsSystem held → held.lines.who < length held.parts → kind_at (kinds_of (wires_at held.lines.wires held.lines.who)) handle ≡ Some kind.Channel
    → KeepsLines held (taken_lines held.lines handle count)
taken_keeps held handle count kept here sort =
    let it = own_end held handle kept here sort in
    let wire = wire_is held handle kept it in
    let below : it.place < length held.lines.channels = let t = it.there in let long = kept.channels in omega (arith, t, long) in
    let own = part_at_end (ref_to held.lines.who handle) (end_at it.side (slice_index_or held.wiring.links it.place no_link)) it.at in
    record {
      wires = refl;
      running = refl;
      channels = ap (λ (w : Wire). length (taken_by held.lines.channels w count)) wire ∙ length-set held.lines.channels it.place _;
      consoles = refl;
      maps = refl;
      taken = subst (λ (w : Wire). AreTaken held.wiring (taken_by held.lines.channels w count)) (sym wire)
          (still_taken (network_of held) held.lines.channels it.place it.side (after_receive it.side count (channel_at held.lines.channels it.place)) own.0 kept.joined below own.1
          (taken_beside it.side count (channel_at held.lines.channels it.place)) kept.taken);
    }

printed_keeps : (held : Held) (lines left : Lines) (handle : ℕ) (bytes : List ℕ) → IsSystem held → held.lines.who < length held.parts → kind_at (kinds_of (wires_at held.lines.wires held.lines.who)) handle ≡ Some kind.Channel
    → lines ≡ sent_lines held.lines handle bytes → left ≡ printed_lines (far_of (network_of held) held.lines.who handle) handle lines → KeepsLines held left
printed_keeps held lines left handle bytes kept here sort same l = by_far (far_of (network_of held) held.lines.who handle) refl
  where
    left_is : left ≡ printed_lines (far_of (network_of held) held.lines.who handle) handle (sent_lines held.lines handle bytes)
    left_is = l ∙ ap (λ (ls : Lines). printed_lines (far_of (network_of held) held.lines.who handle) handle ls) same

    by_far : (far : Option LinkEnd) → far_of (network_of held) held.lines.who handle ≡ far → KeepsLines held left
    by_far None e = let it = own_end held handle kept here sort in let both : None ≡ Some _ = sym e ∙ it.far in absurd cc
    by_far (Some (Part ref)) e =
        subst (λ (ls : Lines). KeepsLines held ls) (sym (left_is ∙ ap (λ (far : Option LinkEnd). printed_lines far handle (sent_lines held.lines handle bytes)) e)) (sent_keeps held handle bytes ref kept here sort e)
    by_far (Some (Console console)) e =
        same_lines held left kept (left_is ∙ (ap (λ (far : Option LinkEnd). printed_lines far handle (sent_lines held.lines handle bytes)) e ∙ printed_same held handle console bytes kept here sort e))

-- the ends of a partition were emptied
emptied_keeps : (held : Held) (left lines : Lines) (part : ℕ) → IsSystem held → KeepsLines held lines → left ≡ emptied_lines lines part → KeepsLines held left
emptied_keeps held left lines part kept keeps e =
    subst (λ (ls : Lines). KeepsLines held ls) (sym e)
    (
    record {
      wires = keeps.wires;
      running = keeps.running;
      channels = all_cleared_long (wires_at lines.wires part) lines.channels ∙ keeps.channels;
      consoles = keeps.consoles;
      maps = keeps.maps;
      taken = λ console there. let it = console_side held.wiring.links console in all_still_none (wires_at lines.wires part) lines.channels it.link it.side (keeps.taken console there);
    }
    )

lent_marked : (held : Held) (lent : Lines) (managed : ℕ) (runs : Bool) → IsSystem held → lent ≡ held.lines → KeepsLines held (marked_lines lent managed runs)
lent_marked held lent managed runs kept e =
    subst (λ (ls : Lines). KeepsLines held (marked_lines ls managed runs)) (sym e)
    (record { wires = refl; running = length-set held.lines.running managed runs; channels = refl; consoles = refl; maps = refl; taken = kept.taken })

lines_kept : (held : Held) (heard rung : List Member) (memory loaded : List (List ℕ)) (lines left : Lines) (act : Told) (counts new : List Counts) → IsSystem held → held.lines.who < length held.parts → Gives act held.lines lines
    → HasHandle (described_kinds (part_at held.parts held.lines.who).desc.ports) act → Arrives held.wiring held.lines.who act heard rung memory loaded lines left counts new → KeepsLines held left
lines_kept held heard rung memory loaded lines left (told.Sent on bytes) counts new kept here did handle s = printed_keeps held lines left on bytes.items kept here (sort_of held on kept here handle) did s.1
lines_kept held heard rung memory loaded lines left (told.Took on count) counts new kept here did handle s =
    subst (λ (ls : Lines). KeepsLines held ls) (sym (s.1 ∙ did)) (taken_keeps held on count kept here (sort_of held on kept here handle))
lines_kept held heard rung memory loaded lines left (told.Rang on) counts new kept here did handle s = same_lines held left kept (s.1 ∙ did)
lines_kept held heard rung memory loaded lines left (told.Start on entry load) counts new kept here did handle s =
    emptied_keeps held left (marked_lines lines (managed_by (own_wire lines on)) true) (managed_by (own_wire lines on)) kept (lent_marked held lines (managed_by (own_wire lines on)) true kept did) s.1
lines_kept held heard rung memory loaded lines left (told.Restart on) counts new kept here did handle s =
    emptied_keeps held left (marked_lines lines (managed_by (own_wire lines on)) true) (managed_by (own_wire lines on)) kept (lent_marked held lines (managed_by (own_wire lines on)) true kept did) s.1
lines_kept held heard rung memory loaded lines left (told.Stop on) counts new kept here did handle s =
    subst (λ (ls : Lines). KeepsLines held ls) (sym s.1) (lent_marked held lines (managed_by (own_wire lines on)) false kept did)
lines_kept held heard rung memory loaded lines left told.SelfRestart counts new kept here did handle s = emptied_keeps held left lines held.lines.who kept (same_lines held lines kept did) s.1
lines_kept held heard rung memory loaded lines left told.SelfStop counts new kept here did handle s = marked_keeps held left kept (s.1 ∙ ap (λ (ls : Lines). marked_lines ls held.lines.who false) did)
lines_kept held heard rung memory loaded lines left told.Faulted counts new kept here did handle s = marked_keeps held left kept (s.1 ∙ ap (λ (ls : Lines). marked_lines ls held.lines.who false) did)
lines_kept held heard rung memory loaded lines left (told.CopyTo on total) counts new kept here did handle s = noted_lines held left lines.last kept (s.1 ∙ did)
lines_kept held heard rung memory loaded lines left (told.CopyFrom on total) counts new kept here did handle s = noted_lines held left lines.last kept (s.1 ∙ did)
lines_kept held heard rung memory loaded lines left _ counts new kept here did handle s = same_lines held left kept (s.1 ∙ did)

-- ---- consoles

pub printed_so : (held : Held) (heard rung : List Member) (memory loaded : List (List ℕ)) (lines left : Lines) (act : Told) (counts new : List Counts) → Arrives held.wiring held.lines.who act heard rung memory loaded lines left counts new
    → (pieces : List Piece) → new ≡ printed_by (network_of held) held.lines.who (act_of pieces act) counts
printed_so held heard rung memory loaded lines left (told.Sent on bytes) counts new s pieces = s.2
printed_so held heard rung memory loaded lines left (told.Rang on) counts new s pieces = s.2
printed_so held heard rung memory loaded lines left (told.Start on entry load) counts new s pieces = s.2
printed_so held heard rung memory loaded lines left (told.Restart on) counts new s pieces = s.2
printed_so held heard rung memory loaded lines left (told.Stop on) counts new s pieces = s.2
printed_so held heard rung memory loaded lines left (told.CopyTo on total) counts new s pieces = s.2
printed_so held heard rung memory loaded lines left told.SelfRestart counts new s pieces = s.2
printed_so held heard rung memory loaded lines left told.SelfStop counts new s pieces = s.2
printed_so held heard rung memory loaded lines left told.Faulted counts new s pieces = s.2
printed_so held heard rung memory loaded lines left _ counts new s pieces = s.2

printed_long : (far : Option LinkEnd) (count : ℕ) (counts : List Counts) → length (count_printed far count counts) ≡ length counts
printed_long None count counts = refl
printed_long (Some (Part ref)) count counts = refl
printed_long (Some (Console console)) count counts = length-set counts console _

counts_long : (held : Held) (heard rung : List Member) (memory loaded : List (List ℕ)) (lines left : Lines) (act : Told) (counts new : List Counts) → Arrives held.wiring held.lines.who act heard rung memory loaded lines left counts new → length new ≡ length counts
counts_long held heard rung memory loaded lines left (told.Sent on bytes) counts new s = ap length s.2 ∙ printed_long (far_of (network_of held) held.lines.who on) (length bytes.items) counts
counts_long held heard rung memory loaded lines left (told.Rang on) counts new s = ap length s.2
counts_long held heard rung memory loaded lines left (told.Start on entry load) counts new s = ap length s.2
counts_long held heard rung memory loaded lines left (told.Restart on) counts new s = ap length s.2
counts_long held heard rung memory loaded lines left (told.Stop on) counts new s = ap length s.2
counts_long held heard rung memory loaded lines left (told.CopyTo on total) counts new s = ap length s.2
counts_long held heard rung memory loaded lines left told.SelfRestart counts new s = ap length s.2
counts_long held heard rung memory loaded lines left told.SelfStop counts new s = ap length s.2
counts_long held heard rung memory loaded lines left told.Faulted counts new s = ap length s.2
counts_long held heard rung memory loaded lines left _ counts new s = ap length s.2

-- ---- partitions

record KeepsDescs (heard rung : List Member) : Type 0 where
  count : length rung ≡ length heard
  each : (part : ℕ) → part < length heard → (part_at rung part).desc ≡ (part_at heard part).desc
  steps : (part : ℕ) → part < length heard → (part_at rung part).inner.steps ≡ (part_at heard part).inner.steps

same_descs : (heard rung : List Member) → rung ≡ heard → KeepsDescs heard rung
same_descs heard rung e = record { count = ap length e; each = λ part there. ap (λ (ps : List Member). (part_at ps part).desc) e; steps = λ part there. ap (λ (ps : List Member). (part_at ps part).inner.steps) e }

-- one partition has another state, or began anew
one_changed : (heard rung : List Member) (managed : ℕ) (own : Member) → rung ≡ slice_set heard managed own → own.desc ≡ (part_at heard managed).desc → own.inner.steps ≡ (part_at heard managed).inner.steps → KeepsDescs heard rung
one_changed heard rung managed own e desc steps = record {
  count = ap length e ∙ length-set heard managed own;
  each = λ part there. ap (λ (ps : List Member). (part_at ps part).desc) e ∙ desc_of part there (part == managed) refl;
  steps = λ part there. ap (λ (ps : List Member). (part_at ps part).inner.steps) e ∙ steps_of part there (part == managed) refl;
}
  where
    desc_of : (part : ℕ) → part < length heard → (b : Bool) → (part == managed) ≡ b → (part_at (slice_set heard managed own) part).desc ≡ (part_at heard part).desc
    desc_of part there false f = ap (λ (p : Member). p.desc) (get_or-set_other heard managed part own no_part (eqb-false part managed f))
    desc_of part there true f =
        subst (λ (n : ℕ). n < length heard → (part_at (slice_set heard managed own) n).desc ≡ (part_at heard n).desc) (sym (eqb-true part managed f))
        (λ here. ap (λ (p : Member). p.desc) (get_or-set_same heard managed own no_part here) ∙ desc) there

    steps_of : (part : ℕ) → part < length heard → (b : Bool) → (part == managed) ≡ b → (part_at (slice_set heard managed own) part).inner.steps ≡ (part_at heard part).inner.steps
    steps_of part there false f = ap (λ (p : Member). p.inner.steps) (get_or-set_other heard managed part own no_part (eqb-false part managed f))
    steps_of part there true f =
        subst (λ (n : ℕ). n < length heard → (part_at (slice_set heard managed own) n).inner.steps ≡ (part_at heard n).inner.steps) (sym (eqb-true part managed f))
        (λ here. ap (λ (p : Member). p.inner.steps) (get_or-set_same heard managed own no_part here) ∙ steps) there

descs_kept : (held : Held) (heard rung : List Member) (memory loaded : List (List ℕ)) (lines left : Lines) (act : Told) (counts new : List Counts) → Arrives held.wiring held.lines.who act heard rung memory loaded lines left counts new → KeepsDescs heard rung
descs_kept held heard rung memory loaded lines left (told.Sent on bytes) counts new s = same_descs heard rung s.0
descs_kept held heard rung memory loaded lines left (told.Rang on) counts new s =
    let rings = s.0 in
    record {
      count = rings.count;
      each = λ part there. ap (λ (p : Member). p.desc) (rings.each part there) ∙ keeps_desc held.wiring.bells (ref_to held.lines.who on) part (length (part_at heard part).desc.ports) (part_at heard part);
      steps = λ part there. ap (λ (p : Member). p.inner.steps) (rings.each part there) ∙ keeps_steps held.wiring.bells (ref_to held.lines.who on) part (length (part_at heard part).desc.ports) (part_at heard part);
    }
descs_kept held heard rung memory loaded lines left (told.Start on entry load) counts new s = let b = s.0 in one_changed heard rung (managed_by (own_wire lines on)) (part_at rung (managed_by (own_wire lines on))) b.parts b.desc b.steps
descs_kept held heard rung memory loaded lines left (told.Restart on) counts new s = let b = s.0 in one_changed heard rung (managed_by (own_wire lines on)) (part_at rung (managed_by (own_wire lines on))) b.parts b.desc b.steps
descs_kept held heard rung memory loaded lines left (told.Stop on) counts new s = one_changed heard rung (managed_by (own_wire lines on)) (stopped_part (part_at heard (managed_by (own_wire lines on)))) s.0 refl refl
descs_kept held heard rung memory loaded lines left (told.CopyTo on total) counts new s =
    one_changed heard rung (managed_by (own_wire lines on)) (copied_part lines.last.entries (part_at heard (managed_by (own_wire lines on)))) s.0 refl refl
descs_kept held heard rung memory loaded lines left told.SelfRestart counts new s = same_descs heard rung s.0
descs_kept held heard rung memory loaded lines left told.SelfStop counts new s = same_descs heard rung s.0
descs_kept held heard rung memory loaded lines left told.Faulted counts new s = same_descs heard rung s.0
descs_kept held heard rung memory loaded lines left _ counts new s = same_descs heard rung s.0

-- no extent's size changes
sizes_kept : (held : Held) (heard rung : List Member) (memory loaded : List (List ℕ)) (lines left : Lines) (act : Told) (counts new : List Counts) → Arrives held.wiring held.lines.who act heard rung memory loaded lines left counts new
    → sizes_of loaded ≡ sizes_of memory
sizes_kept held heard rung memory loaded lines left (told.Sent on bytes) counts new s = ap sizes_of s.3
sizes_kept held heard rung memory loaded lines left (told.Rang on) counts new s = ap sizes_of s.3
sizes_kept held heard rung memory loaded lines left (told.Start on entry load) counts new s = let b = s.0 in b.sizes
sizes_kept held heard rung memory loaded lines left (told.Restart on) counts new s = let b = s.0 in b.sizes
sizes_kept held heard rung memory loaded lines left (told.Stop on) counts new s = ap sizes_of s.3
sizes_kept held heard rung memory loaded lines left (told.CopyTo on total) counts new s =
    ap sizes_of s.3 ∙ written_sizes (told_by lines on) (part_at heard held.lines.who).desc.regions lines.last.entries memory
sizes_kept held heard rung memory loaded lines left told.SelfRestart counts new s = ap sizes_of s.3
sizes_kept held heard rung memory loaded lines left told.SelfStop counts new s = ap sizes_of s.3
sizes_kept held heard rung memory loaded lines left told.Faulted counts new s = ap sizes_of s.3
sizes_kept held heard rung memory loaded lines left _ counts new s = ap sizes_of s.3

-- one of them counts the step, if it is counted
pub counts_step : (held : Held) (stepped heard rung : List Member) (memory loaded : List (List ℕ)) (lines left : Lines) (core : ℕ) (act : Told) (ranges : List Wrote) (counts new : List Counts)
    → (h : IsHeard held stepped heard memory lines core act ranges) → Arrives held.wiring held.lines.who act heard rung memory loaded h.is.lent left counts new
    → CountsStep held.lines.who held.parts rung
counts_step held stepped heard rung memory loaded lines left core act ranges counts new h s =
    let who : ℕ = held.lines.who in
    let keeps = descs_kept held heard rung memory loaded h.is.lent left act counts new s in
    let long = heard_long held stepped heard memory lines core act ranges h in
    let here = h.is.who in
    record {
      count = keeps.count ∙ long;
      own = keeps.steps who (omega (arith, here, long))
          ∙ (ap (λ (p : Member). p.inner.steps) (heard_own held stepped heard memory lines core act ranges h) ∙ h.is.step.counted);
      others = λ part there ne. keeps.steps part (omega (arith, there, long)) ∙ ap (λ (p : Member). p.inner.steps) (heard_other held stepped heard memory lines core act ranges part h there (not_same part ne (part == who) refl));
    }
  where
    not_same : (part : ℕ) → part ≢ held.lines.who → (b : Bool) → (part == held.lines.who) ≡ b → (part == held.lines.who) ≡ false
    not_same part ne false e = e
    not_same part ne true e = absurd (ne (eqb-true part held.lines.who e))

-- ---- all of it

-- the descriptions stay
pub descs_stay : (held : Held) (stepped heard rung : List Member) (memory loaded : List (List ℕ)) (lines left : Lines) (core : ℕ) (act : Told) (ranges : List Wrote) (counts new : List Counts)
    → (h : IsHeard held stepped heard memory lines core act ranges) → Arrives held.wiring held.lines.who act heard rung memory loaded h.is.lent left counts new → descs_of rung ≡ descs_of held.parts
descs_stay held stepped heard rung memory loaded lines left core act ranges counts new h s =
    let keeps = descs_kept held heard rung memory loaded h.is.lent left act counts new s in
    let long = heard_long held stepped heard memory lines core act ranges h in
    let count = keeps.count in
    let news : length (descs_of rung) ≡ length rung = length-map rung (λ (p : Member). p.desc) in
    let olds : length (descs_of held.parts) ≡ length held.parts = length-map held.parts (λ (p : Member). p.desc) in
    same_lists (descs_of rung) (descs_of held.parts) no_desc no_desc (omega (arith, news, olds, long, count))
    (λ part there.
    let within : part < length held.parts = omega (arith, there, news, long, count) in
    get_or-map (λ (p : Member). p.desc) rung part no_part no_desc (omega (arith, there, news))
    ∙ (keeps.each part (omega (arith, within, long))
    ∙ (heard_desc held stepped heard memory lines core act ranges part h within ∙ sym (get_or-map (λ (p : Member). p.desc) held.parts part no_part no_desc within))))

pub turn_kept : (held : Held) (stepped heard rung : List Member) (memory loaded : List (List ℕ)) (lines left : Lines) (core : ℕ) (act : Told) (ranges : List Wrote) (new : List Counts)
    → (h : IsHeard held stepped heard memory lines core act ranges) → Arrives held.wiring held.lines.who act heard rung memory loaded h.is.lent left held.counts new
    → (part_at held.parts held.lines.who).inner.steps < most_steps → ((handle : ℕ) → HasConsole (length held.counts) (far_of (network_of held) held.lines.who handle))
    → IsSystem (left_by held rung loaded left new)
turn_kept held stepped heard rung memory loaded lines left core act ranges new h s few has =
    let kept = h.is.kept in
    let descs = descs_stay held stepped heard rung memory loaded lines left core act ranges held.counts new h s in
    let board = lines_kept held heard rung memory loaded h.is.lent left act held.counts new kept h.is.who (step_gives held.parts stepped held.memory memory held.lines h.is.lent core act ranges h.is.step) h.is.step.handle s in
    let keeps = descs_kept held heard rung memory loaded h.is.lent left act held.counts new s in
    let long = heard_long held stepped heard memory lines core act ranges h in
    let count = keeps.count in
    record {
      joined = subst (λ (l : List Desc). AreJoined l held.wiring) (sym descs) kept.joined;
      wires = board.wires ∙ (kept.wires ∙ ap (λ (l : List Desc). all_wires held.wiring 0 l) (sym descs));
      running = let r = board.running in let old = kept.running in omega (arith, r, old, count, long);
      channels = board.channels ∙ kept.channels;
      maps = board.maps ∙ (kept.maps ∙ ap (map regions_of) (sym descs));
      consoles = board.consoles ∙ kept.consoles;
      counts = counts_long held heard rung memory loaded h.is.lent left act held.counts new s ∙ kept.counts;
      placed = λ part there.
          let within : part < length held.parts = omega (arith, there, long, count) in
          subst (λ (d : Desc). ArePlaced loaded d.regions) (sym (keeps.each part (omega (arith, within, long)) ∙ heard_desc held stepped heard memory lines core act ranges part h within))
          (all_still_placed held.memory loaded (part_at held.parts part).desc.regions (sizes_kept held heard rung memory loaded h.is.lent left act held.counts new s ∙ h.is.step.sizes) (kept.placed part within));
      taken = board.taken;
      counted = turned_counted (network_of held) held.lines.who act held.parts rung held.lines left held.counts new kept.counted h.is.who few
          (counts_step held stepped heard rung memory loaded lines left core act ranges held.counts new h s) has h.is.step.bytes (printed_so held heard rung memory loaded h.is.lent left act held.counts new s []);
    }
