use Rattle.std.proofs.Common.{sym, rules}
use Rattle.guest_tlb.proofs.Found.{match_found}
use Rattle.guest_tlb.proofs.Upkeep.{all_kept_of}
use Rattle.guest_tlb.proofs.tlb.GuestTlb.search.Goals as goal

pub returns-clause-found : goal.returns-clause-found
returns-clause-found c =
    match_found c.args.ts c.args.pid c.args.ea c.args.self.now c.in_ok-slot.slot (all_kept_of _ _ (sym c.self.view_is) c.self.invariant) (search rules)
