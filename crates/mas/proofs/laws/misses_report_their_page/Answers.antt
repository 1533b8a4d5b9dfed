use Rattle.mas.proofs.Held.{miss_reports_page, miss_names_victim, miss_sets_search}
use Rattle.mas.proofs.laws.misses_report_their_page.Goals as goal

pub returns-clause-page : goal.returns-clause-page
returns-clause-page c = miss_reports_page

pub returns-clause-victim : goal.returns-clause-victim
returns-clause-victim c = miss_names_victim

pub returns-clause-search : goal.returns-clause-search
returns-clause-search c = miss_sets_search
