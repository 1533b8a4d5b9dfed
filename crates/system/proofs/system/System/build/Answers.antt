use Rattle.std.proofs.Common.{◌≡◌, ℕ, List, map, sym, ap, subst, ◌∙◌, length, replicate}
use Rattle.std.specs.List.{range_with_len}
use Rattle.machine_desc.specs.declared.desc.Desc.{Desc}
use Rattle.partition.specs.Lending.{Part}
use Rattle.network.specs.World.{no_counts}
use Rattle.system.specs.Seats.{owner_in}
use Rattle.system.specs.System.{AreLoaded, IsTallied, descs_of}
use Rattle.system.specs.Wired.{opening_lines}
use Rattle.system.proofs.Opened.{opens_from}
use Rattle.system.proofs.Owned.{all_owners}
use Rattle.system.proofs.Tallied.{none_tallied}
use Rattle.system.proofs.system.System.build.Goals as goal

-- src/system.rt:71:9
pub invariant_of-result : goal.invariant_of-result
invariant_of-result c = (
  opens_from c.args.descs.items c.args.wiring c.in_ok-parts.parts.items c.in_ok-memory.memory c.in_ok-board.board c.in_ok-counts.counts.items c.requires.joined
      (subst (λ (descs : List Desc). AreLoaded descs c.in_ok-memory.memory) c.as_slice-2.ensures.value c.in_ok-memory.ensures) c.in_ok-parts.ensures
      (c.in_ok-board.ensures.opening ∙ ap (λ (descs : List Desc). opening_lines descs c.args.wiring) c.as_slice.ensures.value)
      (c.in_ok-counts.ensures ∙ ap (λ (n : ℕ). replicate n no_counts) (ap length c.as_slice-3.ensures)),
  (
    all_owners c.in_ok-owners.owners.items (descs_of c.in_ok-parts.parts.items)
        (subst (λ (ps : List Part). c.in_ok-owners.owners.items ≡ map (owner_in (descs_of ps)) (range_with_len 0 32)) c.as_slice-4.ensures.value c.in_ok-owners.ensures),
    subst (IsTallied c.in_ok-parts.parts.items) (sym c.new-2.ensures) (none_tallied c.in_ok-parts.parts.items),
  ),
)
