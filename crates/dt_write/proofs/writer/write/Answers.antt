use Rattle.std.proofs.Common.{◌<◌, List, ℕ, Vec, Global, length, sym, ap, subst, ◌∙◌, arith}
use Rattle.std.proofs.lemmas.Result.{err_from_is_err_and, IfOk-weaker}
use Rattle.dt_model.specs.declared.tree.Reserve.{Reserve}
use Rattle.dt_model.specs.Canonical.{strings_of, reserve_map_of, blob_of, most_bytes}
use Rattle.dt_write.proofs.Faults.{same_fault}
use Rattle.dt_write.proofs.Whole.{canonical-laid, length-canonical}
use Rattle.dt_write.proofs.writer.write.Goals as goal

pub returns-in_err-layout-clause-too_large : goal.returns-in_err-layout-clause-too_large
returns-in_err-layout-clause-too_large c =
    let p = err_from_is_err_and c.from_residual.result c.from_residual.ensures.1 in
    rw (p.1, p.2) (λ is. let large = c.in_err-layout.ensures.too_large (same_fault _ _ is) in omega (arith, length-canonical c.args.tree.now))

pub returns-clause-blob : goal.returns-clause-blob
returns-clause-blob c =
    let whole = ap (λ (es : List Reserve). blob_of c.args.tree.now.boot_cpu (reserve_map_of es) c.in_ok-layout.layout.structure (strings_of c.in_ok-layout.layout.names)) c.deref.ensures.value
    ∙ sym (canonical-laid c.args.tree.now c.in_ok-layout.layout c.in_ok-layout.ensures.laid) in
    IfOk-weaker c.assemble.result _ _ (λ (blob : Vec ℕ Global) is. is ∙ whole) c.assemble.ensures.blob

pub returns-clause-too_large : goal.returns-clause-too_large
returns-clause-too_large c = λ is.
    let whole = ap (λ (es : List Reserve). blob_of c.args.tree.now.boot_cpu (reserve_map_of es) c.in_ok-layout.layout.structure (strings_of c.in_ok-layout.layout.names)) c.deref.ensures.value
    ∙ sym (canonical-laid c.args.tree.now c.in_ok-layout.layout c.in_ok-layout.ensures.laid) in
    subst (λ (l : List ℕ). most_bytes < length l) whole (c.assemble.ensures.too_large is)
