-- What is gathered of a run is its report.
use Rattle.std.proofs.Common.{◌≡◌, ℕ, List, ◌++◌, Result, Ok, Err, IfOk, IfErr, sym, ap, subst, ◌∙◌}
use Rattle.network.specs.Network.{Network}
use Rattle.network.specs.World.{World, Line}
use Rattle.network.specs.Turn.{Script, given_at, run}
use Rattle.network.specs.Report.{end_lines, text_of}
use Rattle.network.specs.Tally.{Tally, tally_of}
use Rattle.system.specs.Shown.{shown}
use Rattle.topaz_run.specs.declared.telling.Telling.{Telling}
use Rattle.topaz_run.specs.declared.telling.Telling.TheVariants.{Report, Summary}
use Rattle.topaz_run.specs.Plan.{Done}
use Rattle.topaz_run.specs.declared.status.Stop.{Stop}
use Rattle.topaz_run.specs.declared.status.Stop.TheVariants.{NoMemory as no_memory}
use Rattle.topaz_run.specs.Answers.{Stops, Meets}
use Rattle.topaz_run.specs.Reported.{reported, summed, summary_of, summary_line, told, show_of, head_of, head_behind}

-- the text behind the last turn
pub told_done : (telling : Telling) (network : Network) (script : Script) (turns : ℕ) (world : World) (head text : List ℕ) → world ≡ (run network script turns).after
    → head ≡ head_of telling network turns (run network script turns).lines → text ≡ head ++ end_lines network (given_at script turns) world → told telling network script turns ≡ Done text
unfolding reported text_of summed summary_of
told_done Report network script turns world head text after lines is =
    let given = given_at script turns in
    ap Done ((λ i. sym lines i ++ end_lines network given (sym after i)) ∙ sym is)
told_done (Summary number) network script turns world head text after lines is =
    let given = given_at script turns in
    ap Done ((λ i. sym lines i ++ end_lines network given (sym after i)) ∙ sym is)

pub ends_done : (telling : Telling) (network : Network) (script : Script) (turns : ℕ) (world : World) (head : List ℕ) (r : Result (List ℕ) Stop) → world ≡ (run network script turns).after
    → head ≡ head_of telling network turns (run network script turns).lines
    → IfOk r (λ bytes. bytes ≡ head ++ end_lines network (given_at script turns) world) → IfErr r (λ stop. stop ≡ no_memory) → Meets r (told telling network script turns)
ends_done telling network script turns world head (Ok bytes) after lines is err = told_done telling network script turns world head bytes after lines is
ends_done telling network script turns world head (Err stop) after lines is err = subst (λ (stop : Stop). Stops stop (told telling network script turns)) (sym err) tt

-- before the lines of the end
pub head_is : (telling : Telling) (network : Network) (turns : ℕ) (lines : List Line) (tally : Tally) (written text : List ℕ) → tally ≡ tally_of lines → written ≡ shown (show_of telling) network lines
    → text ≡ head_behind telling turns tally written → text ≡ head_of telling network turns lines
head_is Report network turns lines tally written text counted shows is = is ∙ shows
head_is (Summary number) network turns lines tally written text counted shows is = is ∙ (λ i. shows i ++ summary_line number turns (counted i))

-- what is known for all that consoles may have been given is known for one
pub told_by : (r : Result (List ℕ) Stop) (P : (ℕ → List ℕ) → Type 0) (f : (ℕ → List ℕ) → List ℕ) (given : ℕ → List ℕ)
    → IfOk r (λ bytes. (given : ℕ → List ℕ) → P given → bytes ≡ f given) → P given → IfOk r (λ bytes. bytes ≡ f given)
told_by (Ok bytes) P f given each holds = each given holds
told_by (Err stop) P f given each holds = tt
