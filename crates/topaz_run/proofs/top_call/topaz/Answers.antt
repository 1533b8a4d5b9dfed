use Rattle.std.proofs.Common.{ℕ, List, subst}
use Rattle.std.specs.Io.KnownBytes.{Appends}
use Rattle.topaz_run.specs.Meant.{meant}
use Rattle.topaz_run.proofs.Ran.{writes_run, delivered}
use Rattle.topaz_run.proofs.top_call.topaz.Goals as goal

pub returns-in-Ok-clause-run : goal.returns-in-Ok-clause-run
returns-in-Ok-clause-run g c = λ done.
    let old = g.S.Sink.taken c.args.out.now in
    let new = g.S.Sink.taken c.deliver.new.out in
    let wrote : Appends old new c.in-Ok.text = subst (λ (text : List ℕ). Appends old new text) c.as_slice.ensures
    (delivered c.deliver.result c.status_of.result (Appends old new c.as_slice.result.now) c.status_of.ensures done c.deliver.ensures.whole) in
    writes_run c.done_runs_print_alone.ensures (meant c.in-Some.command) _ (g.F.Files.content c.args.files.now) c.in-Ok.text old new c.in-Some.ensures.meant c.in-Ok.ensures.answer c.in-Ok.ensures.plain wrote
