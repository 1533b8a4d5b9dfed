-- Machines after deliveries, and after any log.
use Rattle.std.proofs.Common.{◌≡◌, ℕ, ◌<◌, ◌==◌, Bool, true, false, if◌then◌else◌, List, ◌∷◌, length, map, refl, sym, ap, subst, ◌∙◌, arith}
use Rattle.std.proofs.lemmas.Bool.{eqb-true, eqb-false}
use Rattle.core_step.specs.declared.answer.Wrote.{Wrote}
use Rattle.machine_desc.specs.declared.act.Act.{Act as Told}
use Rattle.machine_desc.specs.declared.desc.Desc.{Desc}
use Rattle.partition.specs.Event.{apply}
use Rattle.partition.specs.Machine.{Machine}
use Rattle.partition.specs.Reached.{Takes}
use Rattle.partition.specs.Lending.{Part as Member}
use Rattle.network.specs.Network.{Network, desc_at}
use Rattle.network.specs.Change.{Moves, changed, after_changes}
use Rattle.network.specs.World.{Counts, Entry, Delivery, delivered, machine_at, changes_of, after_log}
use Rattle.network.proofs.Logs.{follows_changes}
use Rattle.system.specs.Board.{Lines}
use Rattle.system.specs.System.{Held, part_at, network_of, machine_by, machines_of}
use Rattle.system.proofs.Shown.{after_shown}
use Rattle.system.proofs.Told.{IsHeard, own_told, other_told, all_machines, shown_length}
use Rattle.system.proofs.Acts.{left_by}

-- ---- one machine after deliveries

-- the machine of a partition once these were delivered
abbrev pub after_deliveries : Desc → ℕ → List Delivery → Machine → Machine
after_deliveries desc part deliveries machine = after_changes desc (changes_of part (map delivered deliveries)) machine

abbrev pub given_to : Desc → ℕ → Delivery → Machine → Machine
given_to desc part delivery machine = if delivery.part == part then apply desc machine delivery.event else machine

pub one_more : (desc : Desc) (part : ℕ) (delivery : Delivery) (rest : List Delivery) (machine : Machine)
    → after_deliveries desc part (delivery ∷ rest) machine ≡ after_deliveries desc part rest (given_to desc part delivery machine)
unfolding changed
one_more desc part delivery rest machine = by_part (delivery.part == part)
  where
    by_part : (b : Bool)
        → after_changes desc (if b then Moves (Takes delivery.event) ∷ changes_of part (map delivered rest) else changes_of part (map delivered rest)) machine
        ≡ after_changes desc (changes_of part (map delivered rest)) (if b then apply desc machine delivery.event else machine)
    by_part true = refl
    by_part false = refl

-- ---- all machines after a log

pub logged_machines : (held : Held) (stepped heard rung : List Member) (memory loaded : List (List ℕ)) (lines left : Lines) (core : ℕ) (act : Told) (ranges : List Wrote) (counts : List Counts) (log : List Entry)
    → IsHeard held stepped heard memory lines core act ranges → length rung ≡ length held.parts
    → machine_by (part_at rung held.lines.who) left loaded held.lines.who
    ≡ after_changes (desc_at (network_of held) held.lines.who) (changes_of held.lines.who log) (machine_by (part_at heard held.lines.who) lines memory held.lines.who)
    → ((part : ℕ) → part < length held.parts → (part ≡ held.lines.who → ⊥)
    → machine_by (part_at rung part) left loaded part ≡ after_changes (desc_at (network_of held) part) (changes_of part log) (machine_by (part_at heard part) held.lines memory part))
    → machines_of (left_by held rung loaded left counts) ≡ after_log (network_of held) log (after_shown (network_of held) (machines_of held) held.lines.who core)
logged_machines held stepped heard rung memory loaded lines left core act ranges counts log h long own_is others =
    let network : Network = network_of held in
    let machines : List Machine = after_shown network (machines_of held) held.lines.who core in
    let shown_long = shown_length held held.lines.who core in
    all_machines (left_by held rung loaded left counts) network log machines (omega (arith, long, shown_long))
    (λ part there. by_place part (omega (arith, there, shown_long)) (part == held.lines.who) refl ∙ sym (follows_changes network part log machines there).machine)
  where
    by_place : (part : ℕ) → part < length held.parts → (b : Bool) → (part == held.lines.who) ≡ b
        → machine_by (part_at rung part) left loaded part
        ≡ after_changes (desc_at (network_of held) part) (changes_of part log) (machine_at (after_shown (network_of held) (machines_of held) held.lines.who core) part)
    by_place part there false e =
        others part there (eqb-false part held.lines.who e)
        ∙ ap (after_changes (desc_at (network_of held) part) (changes_of part log)) (sym (other_told held stepped heard memory lines core act ranges part h there e))
    by_place part there true e =
        subst
        (λ (n : ℕ).
        machine_by (part_at rung n) left loaded n ≡ after_changes (desc_at (network_of held) n) (changes_of n log) (machine_at (after_shown (network_of held) (machines_of held) held.lines.who core) n))
        (sym (eqb-true part held.lines.who e))
        (own_is ∙ ap (after_changes (desc_at (network_of held) held.lines.who) (changes_of held.lines.who log)) (sym (own_told held stepped heard memory lines core act ranges h)))
