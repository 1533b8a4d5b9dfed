use Rattle.std.proofs.Common.{IfOk, IfErr, IfSome}
use Rattle.std.specs.Prelude.{Contains}
use Rattle.std.specs.Result.{IsErrOf}
use Rattle.hv_read.specs.Read.{config_flaw}
use Rattle.topaz_run.specs.declared.status.Stop.TheVariants as stop
use Rattle.topaz_run.specs.declared.setup.Setup.{Setup}
use Rattle.topaz_run.specs.Plan.{Plan, outcome_of, needs_of}
use Rattle.topaz_run.specs.Answers.{GoesOn, Stops}
use Rattle.topaz_run.proofs.GoingOn.{Next, right_bytes}
use Rattle.topaz_run.proofs.accepting.accept_bytes.Goals as goal

pub returns-in-Ok-clause-goes_on : goal.returns-in-Ok-clause-goes_on
returns-in-Ok-clause-goes_on g c =
    right_bytes (λ (whole : Next Setup → Plan). IfOk c.accept_config.result (λ said. IfSome (g.F.Files.content c.args.files.now) (λ content. (next : Next Setup) → GoesOn content (whole next) (next said))))
    c.args.config.now c.args.hw.now c.args.bytes.now (config_flaw c.args.bytes.now) c.in-Ok.said c.in-Ok.ensures.kept c.in-Ok.ensures.value c.accept_config.ensures.goes_on

pub returns-in-Ok-clause-stopped : goal.returns-in-Ok-clause-stopped
returns-in-Ok-clause-stopped g c =
    right_bytes (λ (whole : Next Setup → Plan). IfErr c.accept_config.result (λ stop. IfSome (g.F.Files.content c.args.files.now) (λ content. (next : Next Setup) → Stops stop (outcome_of content (whole next)))))
    c.args.config.now c.args.hw.now c.args.bytes.now (config_flaw c.args.bytes.now) c.in-Ok.said c.in-Ok.ensures.kept c.in-Ok.ensures.value c.accept_config.ensures.stopped

pub returns-in-Ok-clause-needed : goal.returns-in-Ok-clause-needed
returns-in-Ok-clause-needed g c =
    right_bytes (λ (whole : Next Setup → Plan). IsErrOf c.accept_config.result stop.ReadFault → IfSome (g.F.Files.content c.args.files.now) (λ content.
    (next : Next Setup) → Contains (needs_of content (whole next)) (g.F.Files.blamed c.accept_config.new.files)))
    c.args.config.now c.args.hw.now c.args.bytes.now (config_flaw c.args.bytes.now) c.in-Ok.said c.in-Ok.ensures.kept c.in-Ok.ensures.value c.accept_config.ensures.needed
