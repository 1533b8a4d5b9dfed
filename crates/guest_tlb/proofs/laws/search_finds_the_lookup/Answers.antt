use Rattle.std.proofs.Common.{refl}
use Rattle.guest_tlb.specs.Slots.{blank}
use Rattle.guest_tlb.specs.Translation.{matches}
use Rattle.guest_tlb.proofs.Found.{find_follows}
use Rattle.guest_tlb.proofs.laws.search_finds_the_lookup.Goals as goal

pub returns : goal.returns
returns c = λ slots space pid ea. find_follows (matches space pid ea) slots blank _ refl
