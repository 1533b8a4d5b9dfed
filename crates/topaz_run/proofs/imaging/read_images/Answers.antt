use Rattle.std.proofs.Common.{◌≡◌, ◌<◌, ◌+◌, ◌++◌, List, [], ◌∷◌, length, take, Err, IfSome, sym, ap, subst, ◌∙◌, arith}
use Rattle.std.proofs.lemmas.Grind.{common_steps}
use Rattle.std.proofs.lemmas.Result.{err_from_is_err_and}
use Rattle.machine_desc.specs.declared.desc.Desc.{Desc}
use Rattle.topaz_run.specs.declared.status.Stop.TheVariants as stop
use Rattle.topaz_run.specs.Laws.{AreDescribed}
use Rattle.topaz_run.proofs.GoingOn.{one_fault}
use Rattle.topaz_run.proofs.Imaged.{GoesSo, described_next, goes_further, needs_further, stops_further}
use Rattle.topaz_run.proofs.Named.{element}
use Rattle.topaz_run.proofs.imaging.read_images.Goals as goal

pub returns-in_err-desc-clause-stopped : goal.returns-in_err-desc-clause-stopped
returns-in_err-desc-clause-stopped g c =
    let p = err_from_is_err_and c.from_residual.result c.from_residual.ensures.1 in
    let config = c.args.accepted.now in
    let i = c.loop-part.part in
    let count : length c.as_slice-count.result.now ≡ length config.parts = ap length (c.as_slice-count.ensures ∙ ap (λ config. config.parts) c.config.ensures.value) in
    let few : i < length config.parts = omega (arith, count) in
    let d = element config.parts i few in
    rw (p.1, p.2) (stops_further config i d c.loop-part.descs c.in_err-desc.field-0.0 (g.F.Files.content c.args.files.now) (g.F.Files.content c.loop-part.files) few
    c.loop-part.invariant.content c.loop-part.invariant.goes (c.in_err-desc.ensures.stopped d))

pub returns-in_err-desc-clause-needed : goal.returns-in_err-desc-clause-needed
returns-in_err-desc-clause-needed g c = λ fault.
    let p = err_from_is_err_and c.from_residual.result c.from_residual.ensures.1 in
    let same = sym p.2 ∙ one_fault c.from_residual.result p.0 stop.ReadFault p.1 fault in
    let config = c.args.accepted.now in
    let i = c.loop-part.part in
    let count : length c.as_slice-count.result.now ≡ length config.parts = ap length (c.as_slice-count.ensures ∙ ap (λ config. config.parts) c.config.ensures.value) in
    let few : i < length config.parts = omega (arith, count) in
    let d = element config.parts i few in
    needs_further config i d c.loop-part.descs (g.F.Files.blamed c.read_image.new.files) (g.F.Files.content c.args.files.now) (g.F.Files.content c.loop-part.files) few
    c.loop-part.invariant.content c.loop-part.invariant.goes (c.in_err-desc.ensures.needed d (ap Err same))

pub loop-part-preserved : goal.loop-part-preserved
loop-part-preserved g c =
    let config = c.args.accepted.now in
    let i = c.loop-part.part in
    let count : length c.as_slice-count.result.now ≡ length config.parts = ap length (c.as_slice-count.ensures ∙ ap (λ config. config.parts) c.config.ensures.value) in
    let few : i < length config.parts = omega (arith, count) in
    let d = element config.parts i few in
    let desc = c.in_ok-desc.desc in
    let before = g.F.Files.content c.args.files.now in
    let same : c.push.new.self ≡ c.loop-part.descs ++ desc ∷ [] = c.in_ok-push.ensures.ok in
    record {
      goes = subst (λ (descs : List Desc). IfSome before (GoesSo config (i + 1) descs)) (sym same)
          (goes_further config i d c.loop-part.descs desc before (g.F.Files.content c.loop-part.files) few c.loop-part.invariant.content c.loop-part.invariant.goes (c.in_ok-desc.ensures.goes_on d));
      described = subst (λ (descs : List Desc). AreDescribed config (take (i + 1) config.parts) descs) (sym same)
          (described_next config i d c.loop-part.descs desc few c.loop-part.invariant.described (c.in_ok-desc.ensures.described d));
      counted = grind (arith, common_steps, c.in_ok-desc.ensures.counted, c.loop-part.invariant.counted);
      content = c.in_ok-desc.ensures.content ∙ c.loop-part.invariant.content;
    }
