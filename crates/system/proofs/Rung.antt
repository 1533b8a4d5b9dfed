-- Handles that hear a doorbell, one after another.
use Rattle.std.proofs.Common.{◌≡◌, ℕ, zero, suc, ◌+◌, Bool, true, false, List, [], refl, sym, ap, ◌∙◌, add-one}
use Rattle.machine_desc.specs.declared.desc.Desc.{Desc}
use Rattle.machine_desc.specs.declared.wiring.Bell.{Bell}
use Rattle.machine_desc.specs.declared.wiring.PortRef.{PortRef}
use Rattle.partition.specs.Port.{End}
use Rattle.partition.specs.Event.{Ring, apply}
use Rattle.partition.specs.Machine.{Inner, Machine}
use Rattle.partition.specs.Lending.{Part, machine_of}
use Rattle.network.specs.Network.{ref_to, hears}
use Rattle.system.specs.Turning.{rung_at, rung_if, rung_upto}

pub rung_is : (old new : Part) (handle : ℕ) → new.desc ≡ old.desc → ((ends : List End) (memory : List (List ℕ)) → machine_of new ends memory ≡ apply old.desc (machine_of old ends memory) (Ring handle))
    → new ≡ rung_at handle old
unfolding apply
rung_is old new handle d h =
    ap (λ (desc : Desc). let it : Part = record { desc = desc; inner = new.inner } in it) d
    ∙ ap (λ (inner : Inner). let it : Part = record { desc = old.desc; inner = inner } in it) (ap (λ (m : Machine). m.inner) (h [] []))

pub one_more : (bells : List Bell) (sender : PortRef) (number count : ℕ) (part : Part)
    → rung_upto bells sender number (count + 1) part ≡ rung_if (hears bells sender (ref_to number (count + 1))) (count + 1) (rung_upto bells sender number count part)
one_more bells sender number count part =
    ap (λ (n : ℕ). rung_upto bells sender number n part) (add-one count)
    ∙ ap (λ (n : ℕ). rung_if (hears bells sender (ref_to number n)) n (rung_upto bells sender number count part)) (sym (add-one count))

if_keeps : (b : Bool) (handle : ℕ) (part : Part) → (rung_if b handle part).desc ≡ part.desc
if_keeps true handle part = refl
if_keeps false handle part = refl

if_counts : (b : Bool) (handle : ℕ) (part : Part) → (rung_if b handle part).inner.steps ≡ part.inner.steps
if_counts true handle part = refl
if_counts false handle part = refl

pub keeps_steps : (bells : List Bell) (sender : PortRef) (number count : ℕ) (part : Part) → (rung_upto bells sender number count part).inner.steps ≡ part.inner.steps
keeps_steps bells sender number zero part = refl
keeps_steps bells sender number (suc count) part = if_counts (hears bells sender (ref_to number (suc count))) (suc count) (rung_upto bells sender number count part) ∙ keeps_steps bells sender number count part

pub keeps_desc : (bells : List Bell) (sender : PortRef) (number count : ℕ) (part : Part) → (rung_upto bells sender number count part).desc ≡ part.desc
keeps_desc bells sender number zero part = refl
keeps_desc bells sender number (suc count) part = if_keeps (hears bells sender (ref_to number (suc count))) (suc count) (rung_upto bells sender number count part) ∙ keeps_desc bells sender number count part
