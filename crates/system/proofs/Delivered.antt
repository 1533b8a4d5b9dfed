-- What one event alone does to machines.
use Rattle.std.proofs.Common.{◌≡◌, ℕ, ◌<◌, ◌==◌, Bool, true, false, if◌then◌else◌, List, [], ◌∷◌, length, slice_set, refl, sym, subst, ◌∙◌}
use Rattle.std.proofs.lemmas.Bool.{eqb-true, eqb-false}
use Rattle.std.proofs.lemmas.List.{get_or-set_same, get_or-set_other}
use Rattle.machine_desc.specs.declared.desc.Desc.{Desc}
use Rattle.partition.specs.Port.{End, come_on, freed_on, told_on}
use Rattle.partition.specs.Event.{Event, Bytes, Room, Tells, apply}
use Rattle.partition.specs.Machine.{Machine, fresh}
use Rattle.network.specs.Network.{Network, no_desc, desc_at}
use Rattle.network.specs.Change.{changed}
use Rattle.network.specs.World.{machine_at, to_part, delivered, after_log}

abbrev pub with_ports : List End → Machine → Machine
with_ports ports machine = record machine { ports = ports }

-- the event changes the ports alone, and so
abbrev pub ChangesPorts : Event → (List End → List End) → Type 0
ChangesPorts event f = (desc : Desc) (machine : Machine) → apply desc machine event ≡ with_ports (f machine.ports) machine

pub bytes_come : (handle : ℕ) (bytes : List ℕ) → ChangesPorts (Bytes handle bytes) (λ ports. come_on ports handle bytes)
unfolding apply
bytes_come handle bytes desc machine = refl

pub room_comes : (handle count : ℕ) → ChangesPorts (Room handle count) (λ ports. freed_on ports handle count)
unfolding apply
room_comes handle count desc machine = refl

pub is_told : (handle : ℕ) (runs : Bool) → ChangesPorts (Tells handle runs) (λ ports. told_on ports handle runs)
unfolding apply
is_told handle runs desc machine = refl

abbrev pub given_if : Bool → (List End → List End) → Machine → Machine
given_if b f machine = if b then with_ports (f machine.ports) machine else machine

pub one_event : (network : Network) (machines : List Machine) (part other : ℕ) (event : Event) (f : List End → List End) → other < length machines → ChangesPorts event f
    → machine_at (after_log network (delivered (to_part part event) ∷ []) machines) other ≡ given_if (part == other) f (machine_at machines other)
unfolding changed
one_event network machines part other event f there h = by_part (part == other) refl
  where
    after : Machine
    after = apply (desc_at network part) (machine_at machines part) event

    by_part : (b : Bool) → (part == other) ≡ b → machine_at (slice_set machines part after) other ≡ given_if b f (machine_at machines other)
    by_part true e =
        let same : other ≡ part = sym (eqb-true part other e) in
        subst (λ (n : ℕ). machine_at (slice_set machines part after) n ≡ with_ports (f (machine_at machines n).ports) (machine_at machines n)) (sym same)
        (get_or-set_same machines part after (fresh no_desc) (subst (λ (n : ℕ). n < length machines) same there) ∙ h (desc_at network part) (machine_at machines part))
    by_part false e = get_or-set_other machines part other after (fresh no_desc) (λ q. eqb-false part other e (sym q))
