use Rattle.guest_tlb.proofs.Answered.{answers_rise, answers_are_ended, invalidations_answer_deaths, writes_answer_deaths}
use Rattle.guest_tlb.proofs.laws.answers_are_what_ended.Goals as goal

pub returns-clause-rise : goal.returns-clause-rise
returns-clause-rise c = answers_rise

pub returns-clause-ended : goal.returns-clause-ended
returns-clause-ended c = answers_are_ended

pub returns-clause-invalidations : goal.returns-clause-invalidations
returns-clause-invalidations c = invalidations_answer_deaths

pub returns-clause-writes : goal.returns-clause-writes
returns-clause-writes c = writes_answer_deaths
