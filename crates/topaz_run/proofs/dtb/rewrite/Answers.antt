use Rattle.std.proofs.Common.{Some, subst}
use Rattle.dt_model.specs.Fault.{first_fault}
use Rattle.dt_read.specs.Given.{FailsBy}
use Rattle.dt_read.specs.declared.fault.BlobFault.{BlobFault}
use Rattle.topaz_run.proofs.Plans.{meets_alike, stops_alike}
use Rattle.topaz_run.proofs.Blobs.{by_fault, sound}
use Rattle.topaz_run.proofs.dtb.rewrite.Goals as goal

pub returns-in-Ok-clause-answer : goal.returns-in-Ok-clause-answer
returns-in-Ok-clause-answer c =
    meets_alike c.write_tree.result _ _ (sound c.args.name.now c.args.blob.now c.in-Ok.tree c.in-Ok.ensures.exact c.in-Ok.ensures.tree) c.write_tree.ensures.answer

pub returns-in-Err-Rule-clause-answer : goal.returns-in-Err-Rule-clause-answer
returns-in-Err-Rule-clause-answer c =
    let broken = subst (λ (fault : BlobFault). FailsBy fault (first_fault c.args.blob.now)) c.in-Err-Rule.field-0-is c.in-Err-Rule.ensures.exact in
    stops_alike c.refused_blob.result _ _ (by_fault c.args.name.now c.args.blob.now (Some _) broken) c.refused_blob.ensures.refusal
