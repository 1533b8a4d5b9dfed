use Rattle.std.proofs.Common.{ℕ, List, IfOk, IfSome, subst}
use Rattle.std.specs.Prelude.{Contains}
use Rattle.std.proofs.lemmas.Result.{err_from_is_err_and}
use Rattle.hv_read.specs.Read.{config_flaw}
use Rattle.topaz_run.specs.declared.setup.Setup.{Setup}
use Rattle.topaz_run.specs.Plan.{Plan, needs_of}
use Rattle.topaz_run.specs.Outcome.{configured}
use Rattle.topaz_run.specs.Answers.{GoesOn}
use Rattle.topaz_run.proofs.GoingOn.{Next, ends_early_always, goes_through, needs_always}
use Rattle.topaz_run.proofs.accepting.read_accepted.Goals as goal

pub returns-in_err-bytes-clause-stopped : goal.returns-in_err-bytes-clause-stopped
returns-in_err-bytes-clause-stopped g c =
    let p = err_from_is_err_and c.from_residual.result c.from_residual.ensures.1 in
    let config = c.args.config.now in
    let rest : Next Setup → List ℕ → Plan = λ next bytes. configured config c.args.hw.now next bytes (config_flaw bytes) in
    rw (p.1, p.2) (ends_early_always (g.F.Files.content c.args.files.now) config config rest c.in_err-bytes.field-0.0 c.in_err-bytes.ensures.stopped)

pub returns-clause-goes_on : goal.returns-clause-goes_on
returns-clause-goes_on g c =
    let config = c.args.config.now in
    let rest : Next Setup → List ℕ → Plan = λ next bytes. configured config c.args.hw.now next bytes (config_flaw bytes) in
    let known = g.F.Files.content c.read_word.new.files in
    let goes = subst (λ (bytes : List ℕ). IfOk c.accept_bytes.result (λ said. IfSome known (λ content. (next : Next Setup) → GoesOn content (rest next bytes) (next said)))) c.as_slice.ensures c.accept_bytes.ensures.goes_on in
    goes_through (g.F.Files.content c.args.files.now) known config config c.in_ok-bytes.bytes rest c.accept_bytes.result c.in_ok-bytes.ensures.content c.in_ok-bytes.ensures.read goes

pub returns-clause-needed : goal.returns-clause-needed
returns-clause-needed g c = λ fault.
    let config = c.args.config.now in
    let rest : Next Setup → List ℕ → Plan = λ next bytes. configured config c.args.hw.now next bytes (config_flaw bytes) in
    let known = g.F.Files.content c.read_word.new.files in
    let blamed = g.F.Files.blamed c.accept_bytes.new.files in
    let needed = subst (λ (bytes : List ℕ). IfSome known (λ content. (next : Next Setup) → Contains (needs_of content (rest next bytes)) blamed)) c.as_slice.ensures (c.accept_bytes.ensures.needed fault) in
    needs_always (g.F.Files.content c.args.files.now) known config config c.in_ok-bytes.bytes rest blamed c.in_ok-bytes.ensures.content c.in_ok-bytes.ensures.read needed
