-- What is counted stays small.
use Rattle.std.proofs.Common.{◌≡◌, ◌≢◌, ℕ, zero, suc, ◌+◌, ◌*◌, ◌<◌, ◌≤◌, ◌==◌, Bool, true, false, List, [], ◌∷◌, length, map, replicate, slice_set, Option, Some, None, refl, sym, ap, subst, ◌∙◌, arith}
use Rattle.std.proofs.lemmas.Bool.{eqb-true, eqb-false}
use Rattle.std.proofs.lemmas.List.{length-append, length-map, get_or-map, get_or-set_same, get_or-set_other}
use Rattle.std.proofs.lemmas.List.Elements.{All-from_get_or}
use Rattle.std.proofs.lemmas.List.Sums.{sum_by-cons, sum_by-le}
use Rattle.byte_channel.specs.declared.side.Side.{Side}
use Rattle.byte_channel.specs.declared.side.Side.TheVariants.{A, B}
use Rattle.byte_channel.specs.Waiting.{Waiting, empty_channel, room_of, after_send}
use Rattle.machine_desc.specs.declared.act.Act.{Act as Told}
use Rattle.machine_desc.specs.declared.act.Act.TheVariants as told
use Rattle.machine_desc.specs.declared.desc.Desc.{Desc}
use Rattle.machine_desc.specs.declared.wiring.End.{End as LinkEnd}
use Rattle.machine_desc.specs.declared.wiring.End.TheVariants.{Part as PartEnd, Console}
use Rattle.partition.specs.Act.{act_of}
use Rattle.partition.specs.Machine.{most_steps}
use Rattle.partition.specs.Lending.{Part, HasBytes}
use Rattle.network.specs.Network.{Network, no_desc, far_of}
use Rattle.network.specs.World.{Counts, no_counts, counts_at}
use Rattle.network.specs.Entering.{count_entered}
use Rattle.network.specs.Effects.{count_printed, printed_by}
use Rattle.system.specs.declared.wire.ChannelEnd.{ChannelEnd}
use Rattle.system.specs.Board.{Lines, channel_at, console_at, console_room, sent_by}
use Rattle.system.specs.Wired.{channel_wire}
use Rattle.system.specs.System.{Held, fresh_part, no_part, part_at, total_steps, most_counted, IsCounted, IsSystem}
use Rattle.system.specs.Turning.{HasConsole}
use Rattle.system.proofs.Tied.{joined_parts}

-- ---- all steps

total_cons : (part : Part) (parts : List Part) → total_steps (part ∷ parts) ≡ part.inner.steps + total_steps parts
total_cons part parts = sum_by-cons (λ (p : Part). p.inner.steps) part parts

-- one list of partitions after another, by steps
pub record CountsStep (who : ℕ) (before after : List Part) : Type 0 where
  pub count : length after ≡ length before
  pub own : (part_at after who).inner.steps ≡ (part_at before who).inner.steps + 1
  pub others : (part : ℕ) → part < length before → part ≢ who → (part_at after part).inner.steps ≡ (part_at before part).inner.steps

same_total : (before after : List Part) → length after ≡ length before → ((part : ℕ) → part < length before → (part_at after part).inner.steps ≡ (part_at before part).inner.steps)
    → total_steps after ≡ total_steps before
same_total [] [] long same = refl
same_total [] (y ∷ ys) long same = absurd (omega (arith, long))
same_total (x ∷ xs) [] long same = absurd (omega (arith, long))
same_total (x ∷ xs) (y ∷ ys) long same =
    let head : y.inner.steps ≡ x.inner.steps = same 0 (omega arith) in
    let tail = same_total xs ys (omega (arith, long)) (λ part there. same (suc part) (omega (arith, there))) in
    let a = total_cons x xs in
    let b = total_cons y ys in
    omega (arith, head, tail, a, b)

pub total_rises : (before after : List Part) (who : ℕ) → length after ≡ length before → who < length before → (part_at after who).inner.steps ≡ (part_at before who).inner.steps + 1
    → ((part : ℕ) → part < length before → part ≢ who → (part_at after part).inner.steps ≡ (part_at before part).inner.steps)
    → total_steps after ≡ total_steps before + 1
total_rises [] ys who long here own others = absurd (omega (arith, here))
total_rises (x ∷ xs) [] who long here own others = absurd (omega (arith, long))
total_rises (x ∷ xs) (y ∷ ys) zero long here own others =
    let tail = same_total xs ys (omega (arith, long)) (λ part there. others (suc part) (omega (arith, there)) (λ e. omega (arith, e))) in
    let a = total_cons x xs in
    let b = total_cons y ys in
    omega (arith, own, tail, a, b)
total_rises (x ∷ xs) (y ∷ ys) (suc who) long here own others =
    let head : y.inner.steps ≡ x.inner.steps = others 0 (omega arith) (λ e. omega (arith, e)) in
    let tail = total_rises xs ys who (omega (arith, long)) (omega (arith, here)) own (λ part there ne. others (suc part) (omega (arith, there)) (λ e. ne (omega (arith, e)))) in
    let a = total_cons x xs in
    let b = total_cons y ys in
    omega (arith, head, tail, a, b)

total_small : (parts : List Part) → ((part : ℕ) → part < length parts → (part_at parts part).inner.steps ≤ most_steps) → total_steps parts ≤ length parts * most_steps
total_small parts each = sum_by-le (λ (p : Part). p.inner.steps) most_steps parts (All-from_get_or (λ (p : Part). p.inner.steps ≤ most_steps) parts no_part each)

-- ---- what is counted of one console

-- no count is near its end
pub record AreSmall (counts : List Counts) : Type 0 where
  pub printed : (console : ℕ) → (counts_at counts console).printed < most_counted
  pub entered : (console : ℕ) → (counts_at counts console).entered < most_counted

pub small_counts : (held : Held) → IsSystem held → AreSmall held.counts
small_counts held kept =
    let few = (joined_parts _ held.wiring kept.joined).few in
    let long = length-map held.parts (λ (p : Part). p.desc) in
    let total = total_small held.parts kept.counted.steps in
    record {
      printed = λ console. let p = kept.counted.printed console in omega (arith, few, long, total, p);
      entered = λ console. let e = kept.counted.entered console in omega (arith, few, long, total, e);
    }

-- nor is what all steps come to
pub few_steps : (held : Held) → IsSystem held → 16 * total_steps held.parts < most_counted
few_steps held kept =
    let few = (joined_parts _ held.wiring kept.joined).few in
    let long = length-map held.parts (λ (p : Part). p.desc) in
    let total = total_small held.parts kept.counted.steps in
    omega (arith, few, long, total)

-- ---- before the first turn

no_counts_at : (count console : ℕ) → counts_at (replicate count no_counts) console ≡ no_counts
no_counts_at zero console = refl
no_counts_at (suc count) zero = refl
no_counts_at (suc count) (suc console) = no_counts_at count console

pub opens_counted : (descs : List Desc) (lines : Lines) (count : ℕ) → IsCounted (map fresh_part descs) lines (replicate count no_counts)
opens_counted descs lines count = record {
  steps = λ part there.
      let long = length-map descs fresh_part in
      let none : (part_at (map fresh_part descs) part).inner.steps ≡ 0 = ap (λ (p : Part). p.inner.steps) (get_or-map fresh_part descs part no_desc no_part (omega (arith, long, there))) in
      omega (arith, none);
  printed = λ console. let none : (counts_at (replicate count no_counts) console).printed ≡ 0 = ap (λ (c : Counts). c.printed) (no_counts_at count console) in omega (arith, none);
  entered = λ console. let none : (counts_at (replicate count no_counts) console).entered ≡ 0 = ap (λ (c : Counts). c.entered) (no_counts_at count console) in omega (arith, none);
}

-- ---- what enters

sent_room : (side other : Side) (bytes : List ℕ) (channel : Waiting) → room_of other (after_send side bytes channel) ≤ room_of other channel
sent_room A A bytes channel = let long = length-append channel.at_b bytes in omega (arith, long)
sent_room B B bytes channel = let long = length-append channel.at_a bytes in omega (arith, long)
sent_room A B bytes channel = omega arith
sent_room B A bytes channel = omega arith

own_room : (side : Side) (bytes : List ℕ) (channel : Waiting) → length bytes ≤ room_of side channel → room_of side (after_send side bytes channel) + length bytes ≡ room_of side channel
own_room A bytes channel fits = let long = length-append channel.at_b bytes in omega (arith, long, fits)
own_room B bytes channel fits = let long = length-append channel.at_a bytes in omega (arith, long, fits)

-- the channels once bytes were sent at an end
abbrev after_sending : List Waiting → ChannelEnd → List ℕ → List Waiting
after_sending channels it bytes = slice_set channels it.link (after_send it.side bytes (channel_at channels it.link))

same_link : (channels : List Waiting) (it : ChannelEnd) (bytes : List ℕ) (link : ℕ) → it.link < length channels → link ≡ it.link
    → channel_at (after_sending channels it bytes) link ≡ after_send it.side bytes (channel_at channels it.link)
same_link channels it bytes link there e =
    ap (channel_at (after_sending channels it bytes)) e ∙ get_or-set_same channels it.link (after_send it.side bytes (channel_at channels it.link)) empty_channel there

room_falls : (channels : List Waiting) (it other : ChannelEnd) (bytes : List ℕ) → it.link < length channels
    → room_of other.side (channel_at (after_sending channels it bytes) other.link) ≤ room_of other.side (channel_at channels other.link)
room_falls channels it other bytes there = by_link (other.link == it.link) refl
  where
    by_link : (b : Bool) → (other.link == it.link) ≡ b → room_of other.side (channel_at (after_sending channels it bytes) other.link) ≤ room_of other.side (channel_at channels other.link)
    by_link false e =
        let room : room_of other.side (channel_at (after_sending channels it bytes) other.link) ≡ room_of other.side (channel_at channels other.link) =
        ap (room_of other.side) (get_or-set_other channels it.link other.link (after_send it.side bytes (channel_at channels it.link)) empty_channel (eqb-false other.link it.link e)) in
        omega (arith, room)
    by_link true e =
        let at = eqb-true other.link it.link e in
        let new : room_of other.side (channel_at (after_sending channels it bytes) other.link) ≡ room_of other.side (after_send it.side bytes (channel_at channels it.link)) =
        ap (room_of other.side) (same_link channels it bytes other.link there at) in
        let old : room_of other.side (channel_at channels other.link) ≡ room_of other.side (channel_at channels it.link) = ap (λ (n : ℕ). room_of other.side (channel_at channels n)) at in
        let falls = sent_room it.side other.side bytes (channel_at channels it.link) in
        omega (arith, new, old, falls)

room_filled : (channels : List Waiting) (it : ChannelEnd) (bytes : List ℕ) → it.link < length channels → length bytes ≤ room_of it.side (channel_at channels it.link)
    → room_of it.side (channel_at (after_sending channels it bytes) it.link) + length bytes ≡ room_of it.side (channel_at channels it.link)
room_filled channels it bytes there fits =
    ap (λ (c : Waiting). room_of it.side c + length bytes) (same_link channels it bytes it.link there refl) ∙ own_room it.side bytes (channel_at channels it.link) fits

-- the board once bytes of a console entered
abbrev pub after_entering : Lines → ℕ → List ℕ → Lines
after_entering lines console bytes = record lines { channels = sent_by lines.channels (channel_wire (console_at lines.consoles console)) bytes }

pub enters_counted : (parts : List Part) (lines : Lines) (counts : List Counts) (console : ℕ) (bytes : List ℕ) → IsCounted parts lines counts → console < length counts
    → (console_at lines.consoles console).link < length lines.channels → length bytes ≤ console_room lines console
    → IsCounted parts (after_entering lines console bytes) (count_entered console (length bytes) counts)
enters_counted parts lines counts console bytes kept here there fits = record {
  steps = kept.steps;
  printed = λ k. printed_of k (k == console) refl;
  entered = λ k. entered_of k (k == console) refl;
}
  where
    next : Counts
    next = record (counts_at counts console) { entered = (counts_at counts console).entered + length bytes }

    it : ChannelEnd
    it = console_at lines.consoles console

    printed_of : (k : ℕ) (b : Bool) → (k == console) ≡ b → (counts_at (slice_set counts console next) k).printed ≤ 16 * total_steps parts
    printed_of k false e =
        let same : (counts_at (slice_set counts console next) k).printed ≡ (counts_at counts k).printed = ap (λ (c : Counts). c.printed) (get_or-set_other counts console k next no_counts (eqb-false k console e)) in
        let old = kept.printed k in
        omega (arith, same, old)
    printed_of k true e =
        let same : (counts_at (slice_set counts console next) k).printed ≡ (counts_at counts console).printed =
        ap (λ (n : ℕ). (counts_at (slice_set counts console next) n).printed) (eqb-true k console e) ∙ ap (λ (c : Counts). c.printed) (get_or-set_same counts console next no_counts here) in
        let old = kept.printed console in
        omega (arith, same, old)

    entered_of : (k : ℕ) (b : Bool) → (k == console) ≡ b → (counts_at (slice_set counts console next) k).entered + console_room (after_entering lines console bytes) k ≤ 256 * (total_steps parts + 1)
    entered_of k false e =
        let same : (counts_at (slice_set counts console next) k).entered ≡ (counts_at counts k).entered = ap (λ (c : Counts). c.entered) (get_or-set_other counts console k next no_counts (eqb-false k console e)) in
        let room : console_room (after_entering lines console bytes) k ≤ console_room lines k = room_falls lines.channels it (console_at lines.consoles k) bytes there in
        let old = kept.entered k in
        omega (arith, same, room, old)
    entered_of k true e =
        let at = eqb-true k console e in
        let same : (counts_at (slice_set counts console next) k).entered ≡ (counts_at counts console).entered + length bytes =
        ap (λ (n : ℕ). (counts_at (slice_set counts console next) n).entered) at ∙ ap (λ (c : Counts). c.entered) (get_or-set_same counts console next no_counts here) in
        let room : console_room (after_entering lines console bytes) k ≡ console_room (after_entering lines console bytes) console = ap (console_room (after_entering lines console bytes)) at in
        let filled : console_room (after_entering lines console bytes) console + length bytes ≡ console_room lines console = room_filled lines.channels it bytes there fits in
        let old = kept.entered console in
        omega (arith, same, room, filled, old)

-- ---- what is printed

record PrintsFew (old new : List Counts) (console : ℕ) : Type 0 where
  printed : (counts_at new console).printed ≤ (counts_at old console).printed + 16
  entered : (counts_at new console).entered ≡ (counts_at old console).entered

none_printed : (counts : List Counts) (console : ℕ) → PrintsFew counts counts console
none_printed counts console = record { printed = omega arith; entered = refl }

prints_few : (far : Option LinkEnd) (count : ℕ) (counts : List Counts) (k : ℕ) → HasConsole (length counts) far → count ≤ 16 → PrintsFew counts (count_printed far count counts) k
prints_few None count counts k has few = none_printed counts k
prints_few (Some (PartEnd ref)) count counts k has few = none_printed counts k
prints_few (Some (Console console)) count counts k has few = by_place (k == console) refl
  where
    next : Counts
    next = record (counts_at counts console) { printed = (counts_at counts console).printed + count }

    by_place : (b : Bool) → (k == console) ≡ b → PrintsFew counts (slice_set counts console next) k
    by_place false e =
        let same = get_or-set_other counts console k next no_counts (eqb-false k console e) in
        let printed : (counts_at (slice_set counts console next) k).printed ≡ (counts_at counts k).printed = ap (λ (c : Counts). c.printed) same in
        record { printed = omega (arith, printed); entered = ap (λ (c : Counts). c.entered) same }
    by_place true e =
        let at = eqb-true k console e in
        let same : counts_at (slice_set counts console next) k ≡ next = ap (counts_at (slice_set counts console next)) at ∙ get_or-set_same counts console next no_counts has in
        let printed : (counts_at (slice_set counts console next) k).printed ≡ (counts_at counts console).printed + count = ap (λ (c : Counts). c.printed) same in
        let old : (counts_at counts k).printed ≡ (counts_at counts console).printed = ap (λ (n : ℕ). (counts_at counts n).printed) at in
        record { printed = omega (arith, printed, old, few); entered = ap (λ (c : Counts). c.entered) same ∙ ap (λ (n : ℕ). (counts_at counts n).entered) (sym at) }

act_prints_few : (network : Network) (who : ℕ) (act : Told) (counts : List Counts) (k : ℕ) → ((handle : ℕ) → HasConsole (length counts) (far_of network who handle)) → HasBytes act
    → PrintsFew counts (printed_by network who (act_of [] act) counts) k
act_prints_few network who (told.Sent handle bytes) counts k has b = prints_few (far_of network who handle) (length bytes.items) counts k (has handle) b.1
act_prints_few network who told.None counts k has b = none_printed counts k
act_prints_few network who _ counts k has b = none_printed counts k

-- ---- a step

pub turned_counted : (network : Network) (who : ℕ) (act : Told) (parts new : List Part) (lines left : Lines) (counts after : List Counts) → IsCounted parts lines counts → who < length parts
    → (part_at parts who).inner.steps < most_steps → CountsStep who parts new → ((handle : ℕ) → HasConsole (length counts) (far_of network who handle)) → HasBytes act
    → after ≡ printed_by network who (act_of [] act) counts → IsCounted new left after
turned_counted network who act parts new lines left counts after kept here few step has bytes e = record {
  steps = λ part there. let count = step.count in steps_of_one part (omega (arith, there, count)) (part == who) refl;
  printed = λ console.
      let p = (few_more console).printed in
      let old = kept.printed console in
      omega (arith, rises, p, old);
  entered = λ console.
      let p = (few_more console).entered in
      let old = kept.entered console in
      omega (arith, rises, p, old);
}
  where
    rises : total_steps new ≡ total_steps parts + 1
    rises = total_rises parts new who step.count here step.own step.others

    few_more : (console : ℕ) → PrintsFew counts after console
    few_more console = subst (λ (cs : List Counts). PrintsFew counts cs console) (sym e) (act_prints_few network who act counts console has bytes)

    steps_of_one : (part : ℕ) → part < length parts → (b : Bool) → (part == who) ≡ b → (part_at new part).inner.steps ≤ most_steps
    steps_of_one part there false q =
        let same = step.others part there (eqb-false part who q) in
        let old = kept.steps part there in
        omega (arith, same, old)
    steps_of_one part there true q =
        let at : (part_at new part).inner.steps ≡ (part_at new who).inner.steps = ap (λ (n : ℕ). (part_at new n).inner.steps) (eqb-true part who q) in
        let own = step.own in
        omega (arith, at, own, few)
