use Rattle.std.proofs.Common.{◌≡◌, ℕ, List, IfOk, subst}
use Rattle.std.proofs.lemmas.Result.{err_from_is_err_and}
use Rattle.hv_read.specs.Read.{hardware_flaw}
use Rattle.topaz_run.specs.declared.setup.Setup.{Setup}
use Rattle.topaz_run.specs.Plan.{Plan}
use Rattle.topaz_run.specs.Outcome.{equipped}
use Rattle.topaz_run.proofs.GoingOn.{Next, ends_early_always, goes_behind}
use Rattle.topaz_run.proofs.accepting.accept_config.Goals as goal

pub returns-in_err-bytes-clause-stopped : goal.returns-in_err-bytes-clause-stopped
returns-in_err-bytes-clause-stopped g c =
    let p = err_from_is_err_and c.from_residual.result c.from_residual.ensures.1 in
    let hw = c.args.hw.now in
    let rest : Next Setup → List ℕ → Plan = λ next bytes. equipped hw next c.args.config bytes (hardware_flaw bytes) in
    rw (p.1, p.2) (ends_early_always (g.F.Files.content c.args.files.now) hw hw rest c.in_err-bytes.field-0.0 c.in_err-bytes.ensures.stopped)

pub returns-clause-goes_on : goal.returns-clause-goes_on
returns-clause-goes_on g c =
    let hw = c.args.hw.now in
    let rest : Next Setup → List ℕ → Plan = λ next bytes. equipped hw next c.args.config bytes (hardware_flaw bytes) in
    let goes = subst (λ (bytes : List ℕ). IfOk c.accept_on.result (λ said. (next : Next Setup) → rest next bytes ≡ next said)) c.as_slice.ensures c.accept_on.ensures.goes_on in
    goes_behind (g.F.Files.content c.args.files.now) hw hw c.in_ok-bytes.bytes rest c.accept_on.result c.in_ok-bytes.ensures.read goes
