use Rattle.guest_tlb.proofs.Meeting.{meeting_shares_an_access}
use Rattle.guest_tlb.proofs.Apart.{one_matches}
use Rattle.guest_tlb.proofs.Windows.{matches_are_found}
use Rattle.guest_tlb.proofs.laws.one_translation_matches.Goals as goal

pub returns-clause-meeting : goal.returns-clause-meeting
returns-clause-meeting c = meeting_shares_an_access

pub returns-clause-one : goal.returns-clause-one
returns-clause-one c = one_matches

pub returns-clause-found : goal.returns-clause-found
returns-clause-found c = matches_are_found
