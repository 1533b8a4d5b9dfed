use Rattle.std.proofs.Common.{◌≡◌, ℕ, List, IfOk, IfErr, IfSome, OnOk, None, subst, ◌∙◌}
use Rattle.std.specs.Prelude.{slice_index_or}
use Rattle.std.proofs.lemmas.Result.{err_from_is_err_and}
use Rattle.machine_desc.specs.declared.desc.Desc.{Desc}
use Rattle.topaz_run.specs.Plan.{Plan}
use Rattle.topaz_run.specs.Imaging.{completed, completing, image_fault, part_place}
use Rattle.topaz_run.specs.Answers.{IsRead, StopsBy}
use Rattle.topaz_run.proofs.GoingOn.{Next, ends_early_always, goes_behind}
use Rattle.topaz_run.proofs.Imaged.{opens_alike, is_described, goes_read, stops_read}
use Rattle.topaz_run.proofs.imaging.read_image.Goals as goal

pub returns-in_err-bytes-clause-stopped : goal.returns-in_err-bytes-clause-stopped
returns-in_err-bytes-clause-stopped g c = λ d.
    let p = err_from_is_err_and c.from_residual-in_err-bytes.result c.from_residual-in_err-bytes.ensures.1 in
    let known = g.F.Files.content c.args.files.now in
    let config = c.args.accepted.now in
    let part = slice_index_or config.parts c.args.part d in
    let rest : Next Desc → List ℕ → Plan = λ next bytes. completing config part next bytes (image_fault config part bytes) in
    let s = c.in_err-bytes.field-0.0 in
    let stops = opens_alike known c.image_name.result.now part.image c.deref.result.now (part_place part) s
    (c.image_name.ensures d) (c.deref.ensures.value ∙ c.in_ok-place.ensures d) c.in_err-bytes.ensures.stopped in
    rw (p.1, p.2) (ends_early_always known part.image (part_place part) rest s stops)

pub returns-clause-described : goal.returns-clause-described
returns-clause-described g c =
    let config = c.args.accepted.now in
    let bytes = c.in_ok-bytes.bytes in
    let same = c.as_slice.ensures in
    is_described config c.args.part bytes c.complete.result
    (λ d. subst (λ (bytes : List ℕ). OnOk c.complete.result (image_fault config (slice_index_or config.parts c.args.part d) bytes ≡ None)) same (c.complete.ensures.kept d))
    (λ d. subst (λ (bytes : List ℕ). IfOk c.complete.result (λ desc. desc ≡ completed config (slice_index_or config.parts c.args.part d) bytes)) same (c.complete.ensures.value d))

pub returns-clause-goes_on : goal.returns-clause-goes_on
returns-clause-goes_on g c = λ d.
    let known = g.F.Files.content c.args.files.now in
    let config = c.args.accepted.now in
    let part = slice_index_or config.parts c.args.part d in
    let rest : Next Desc → List ℕ → Plan = λ next bytes. completing config part next bytes (image_fault config part bytes) in
    let bytes = c.in_ok-bytes.bytes in
    let same = c.as_slice.ensures in
    let read = subst (λ (name : List ℕ). IfSome known (λ content. IsRead content name bytes)) (c.image_name.ensures d) c.in_ok-bytes.ensures.read in
    goes_behind known part.image (part_place part) bytes rest c.complete.result read
    (goes_read config part bytes c.complete.result
    (subst (λ (bytes : List ℕ). OnOk c.complete.result (image_fault config part bytes ≡ None)) same (c.complete.ensures.kept d))
    (subst (λ (bytes : List ℕ). IfOk c.complete.result (λ desc. desc ≡ completed config part bytes)) same (c.complete.ensures.value d)))

pub returns-clause-stopped : goal.returns-clause-stopped
returns-clause-stopped g c = λ d.
    let known = g.F.Files.content c.args.files.now in
    let config = c.args.accepted.now in
    let part = slice_index_or config.parts c.args.part d in
    let bytes = c.in_ok-bytes.bytes in
    let place = c.deref-2.result.now in
    let read = subst (λ (name : List ℕ). IfSome known (λ content. IsRead content name bytes)) (c.image_name.ensures d) c.in_ok-bytes.ensures.read in
    let stops = subst (λ (bytes : List ℕ). IfErr c.complete.result (λ s. StopsBy place s (image_fault config part bytes))) c.as_slice.ensures (c.complete.ensures.broken d) in
    stops_read config part known bytes place c.complete.result read (c.deref-2.ensures.value ∙ c.in_ok-place.ensures d) stops
