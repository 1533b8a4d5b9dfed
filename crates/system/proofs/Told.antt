-- The whole log of a step.
use Rattle.std.proofs.Common.{◌≡◌, ℕ, ◌<◌, ◌==◌, Bool, true, false, if◌then◌else◌, List, [], ◌∷◌, length, slice_set, refl, sym, ap, subst, ◌∙◌, arith, length-set}
use Rattle.std.proofs.lemmas.Bool.{eqb-true, eqb-false, eq-eqb}
use Rattle.std.proofs.lemmas.List.{get_or-set_other}
use Rattle.core_step.specs.declared.answer.Wrote.{Wrote}
use Rattle.machine_desc.specs.declared.act.Act.{Act as Told}
use Rattle.partition.specs.Machine.{Machine, fresh}
use Rattle.partition.specs.Lending.{Part}
use Rattle.network.specs.Network.{Network, no_desc}
use Rattle.network.specs.World.{Counts, Entry, entry_for, machine_at, after_entry, after_log}
use Rattle.network.specs.Effects.{shown}
use Rattle.network.specs.Turn.{done_by}
use Rattle.system.specs.Board.{Lines}
use Rattle.system.specs.System.{Held, no_part, part_at, network_of, machine_by, machine_in, machines_of}
use Rattle.system.specs.Turning.{Hears, kept_part}
use Rattle.system.proofs.Opened.{same_lists, machine_there, machines_length}
use Rattle.system.proofs.Shown.{IsStep, after_shown, stepping, first_long, own_shown, other_shown}

pub log_length : (network : Network) (log : List Entry) (machines : List Machine) → length (after_log network log machines) ≡ length machines
log_length network [] machines = refl
log_length network (entry ∷ log) machines = log_length network log (slice_set machines entry.part _) ∙ length-set machines entry.part _

-- a step, and all others heard of its stores
pub record IsHeard (held : Held) (stepped heard : List Part) (memory : List (List ℕ)) (lines : Lines) (core : ℕ) (act : Told) (ranges : List Wrote) : Type 0 where
  pub is : IsStep held stepped memory lines core act ranges
  pub hears : Hears held.lines.who ranges stepped heard

pub heard_long : (held : Held) (stepped heard : List Part) (memory : List (List ℕ)) (lines : Lines) (core : ℕ) (act : Told) (ranges : List Wrote) → IsHeard held stepped heard memory lines core act ranges
    → length heard ≡ length held.parts
heard_long held stepped heard memory lines core act ranges h =
    h.hears.count ∙ (ap length h.is.step.parts ∙ length-set held.parts held.lines.who _)

stepped_long : (held : Held) (stepped heard : List Part) (memory : List (List ℕ)) (lines : Lines) (core : ℕ) (act : Told) (ranges : List Wrote) → IsHeard held stepped heard memory lines core act ranges
    → length stepped ≡ length held.parts
stepped_long held stepped heard memory lines core act ranges h = ap length h.is.step.parts ∙ length-set held.parts held.lines.who _

pub heard_own : (held : Held) (stepped heard : List Part) (memory : List (List ℕ)) (lines : Lines) (core : ℕ) (act : Told) (ranges : List Wrote) → IsHeard held stepped heard memory lines core act ranges
    → part_at heard held.lines.who ≡ part_at stepped held.lines.who
heard_own held stepped heard memory lines core act ranges h =
    let who : ℕ = held.lines.who in
    let long = stepped_long held stepped heard memory lines core act ranges h in
    let below = h.is.who in
    h.hears.each who (omega (arith, long, below)) ∙ ap (λ (b : Bool). if b then part_at stepped who else kept_part ranges (part_at stepped who)) (eq-eqb who who refl)

pub heard_other : (held : Held) (stepped heard : List Part) (memory : List (List ℕ)) (lines : Lines) (core : ℕ) (act : Told) (ranges : List Wrote) (part : ℕ) → IsHeard held stepped heard memory lines core act ranges
    → part < length held.parts → (part == held.lines.who) ≡ false → part_at heard part ≡ kept_part ranges (part_at held.parts part)
heard_other held stepped heard memory lines core act ranges part h there e =
    let who : ℕ = held.lines.who in
    let long = stepped_long held stepped heard memory lines core act ranges h in
    h.hears.each part (omega (arith, long, there))
    ∙ (ap (λ (b : Bool). if b then part_at stepped part else kept_part ranges (part_at stepped part)) e
    ∙ ap (kept_part ranges) (ap (λ (l : List Part). part_at l part) h.is.step.parts ∙ get_or-set_other held.parts who part _ no_part (eqb-false part who e)))

-- the machine of each partition before the events of the act
pub own_told : (held : Held) (stepped heard : List Part) (memory : List (List ℕ)) (lines : Lines) (core : ℕ) (act : Told) (ranges : List Wrote) → IsHeard held stepped heard memory lines core act ranges
    → machine_at (after_shown (network_of held) (machines_of held) held.lines.who core) held.lines.who ≡ machine_by (part_at heard held.lines.who) lines memory held.lines.who
own_told held stepped heard memory lines core act ranges h =
    own_shown held stepped memory lines core act ranges h.is ∙ ap (λ (p : Part). machine_by p lines memory held.lines.who) (sym (heard_own held stepped heard memory lines core act ranges h))

pub other_told : (held : Held) (stepped heard : List Part) (memory : List (List ℕ)) (lines : Lines) (core : ℕ) (act : Told) (ranges : List Wrote) (part : ℕ) → IsHeard held stepped heard memory lines core act ranges
    → part < length held.parts → (part == held.lines.who) ≡ false
    → machine_at (after_shown (network_of held) (machines_of held) held.lines.who core) part ≡ machine_by (part_at heard part) held.lines memory part
other_told held stepped heard memory lines core act ranges part h there e =
    other_shown held stepped memory lines core act ranges part h.is there (eqb-false part held.lines.who e)
    ∙ ap (λ (p : Part). machine_by p held.lines memory part) (sym (heard_other held stepped heard memory lines core act ranges part h there e))

-- from each machine to all of them
pub all_machines : (new : Held) (network : Network) (log : List Entry) (machines : List Machine) → length new.parts ≡ length machines
    → ((part : ℕ) → part < length machines → machine_in new part ≡ machine_at (after_log network log machines) part)
    → machines_of new ≡ after_log network log machines
all_machines new network log machines long each =
    let news = machines_length new in
    let olds = log_length network log machines in
    same_lists (machines_of new) (after_log network log machines) (fresh no_desc) (fresh no_desc) (omega (arith, long, news, olds))
    (λ part there. machine_there new part (fresh no_desc) (omega (arith, there, news)) ∙ each part (omega (arith, there, news, long)))

pub shown_length : (held : Held) (part core : ℕ) → length (after_shown (network_of held) (machines_of held) part core) ≡ length held.parts
shown_length held part core =
    log_length (network_of held) (shown (network_of held) part (done_by (network_of held) (machines_of held) part core)) (after_entry (network_of held) (entry_for part (stepping held part core)) (machines_of held))
    ∙ first_long held part (stepping held part core)

-- an act that brings nothing
pub quiet_machines : (held : Held) (stepped heard : List Part) (memory : List (List ℕ)) (core : ℕ) (act : Told) (ranges : List Wrote) (counts : List Counts)
    → IsHeard held stepped heard memory held.lines core act ranges
    → machines_of (record { parts = heard; memory = memory; lines = held.lines; wiring = held.wiring; counts = counts })
    ≡ after_log (network_of held) [] (after_shown (network_of held) (machines_of held) held.lines.who core)
quiet_machines held stepped heard memory core act ranges counts h =
    let network : Network = network_of held in
    let who : ℕ = held.lines.who in
    let new : Held = record { parts = heard; memory = memory; lines = held.lines; wiring = held.wiring; counts = counts } in
    let machines : List Machine = after_shown network (machines_of held) who core in
    let long = heard_long held stepped heard memory held.lines core act ranges h in
    let shown_long = shown_length held who core in
    all_machines new network [] machines (omega (arith, long, shown_long)) (λ part there. by_place part (omega (arith, there, shown_long)) (part == who) refl)
  where
    by_place : (part : ℕ) → part < length held.parts → (b : Bool) → (part == held.lines.who) ≡ b
        → machine_by (part_at heard part) held.lines memory part ≡ machine_at (after_shown (network_of held) (machines_of held) held.lines.who core) part
    by_place part there false e = sym (other_told held stepped heard memory held.lines core act ranges part h there e)
    by_place part there true e =
        subst (λ (n : ℕ). machine_by (part_at heard n) held.lines memory n ≡ machine_at (after_shown (network_of held) (machines_of held) held.lines.who core) n) (sym (eqb-true part held.lines.who e))
        (sym (own_told held stepped heard memory held.lines core act ranges h))

-- no description changes
pub heard_desc : (held : Held) (stepped heard : List Part) (memory : List (List ℕ)) (lines : Lines) (core : ℕ) (act : Told) (ranges : List Wrote) (part : ℕ) → IsHeard held stepped heard memory lines core act ranges
    → part < length held.parts → (part_at heard part).desc ≡ (part_at held.parts part).desc
heard_desc held stepped heard memory lines core act ranges part h there = by_place (part == held.lines.who) refl
  where
    by_place : (b : Bool) → (part == held.lines.who) ≡ b → (part_at heard part).desc ≡ (part_at held.parts part).desc
    by_place false e = ap (λ (p : Part). p.desc) (heard_other held stepped heard memory lines core act ranges part h there e)
    by_place true e =
        subst (λ (n : ℕ). (part_at heard n).desc ≡ (part_at held.parts n).desc) (sym (eqb-true part held.lines.who e))
        (ap (λ (p : Part). p.desc) (heard_own held stepped heard memory lines core act ranges h) ∙ h.is.step.desc)
