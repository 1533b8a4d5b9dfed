use Rattle.std.proofs.Common.{arith}
use Rattle.std.proofs.lemmas.Grind.{common_steps}
use Rattle.guest_tlb.specs.Slots.{written_entry}
use Rattle.guest_tlb.proofs.Upkeep.{written_kept_as}
use Rattle.guest_tlb.proofs.slot.written_entry.Goals as goal

pub returns-else-is_in_tlb0-clause-kept : goal.returns-else-is_in_tlb0-clause-kept
unfolding written_entry
returns-else-is_in_tlb0-clause-kept c = written_kept_as c.args.slot c.args.mas.now _ c.requires (grind (arith, common_steps))
