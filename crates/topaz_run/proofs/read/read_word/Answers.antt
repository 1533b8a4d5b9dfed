use Rattle.std.proofs.Common.{ℕ, List, IfErr, IfSome, subst}
use Rattle.topaz_run.specs.Plan.{Plan, Opens, outcome_of}
use Rattle.topaz_run.specs.Answers.{Stops}
use Rattle.topaz_run.proofs.read.read_word.Goals as goal

pub returns-clause-stopped : goal.returns-clause-stopped
returns-clause-stopped g c =
    let word = c.args.word.now in
    subst (λ (place : List ℕ). IfErr c.read_file.result (λ stop. IfSome (g.F.Files.content c.args.files.now) (λ content.
    (next : List ℕ → Plan) → Stops stop (outcome_of content (Opens word place next))))) c.as_bytes.ensures.value c.read_file.ensures.stopped
