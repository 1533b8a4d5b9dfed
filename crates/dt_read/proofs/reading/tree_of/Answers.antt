use Rattle.std.proofs.Common.{sym, ap}
use Rattle.std.proofs.lemmas.Result.{err_from_is_err_and}
use Rattle.dt_read.proofs.Whole.{fails_in_header, fails_in_reserve, fails_in_structure, reads_whole}
use Rattle.dt_read.proofs.reading.tree_of.Goals as goal

pub returns-in_err-header : goal.returns-in_err-header
returns-in_err-header c =
    let p = err_from_is_err_and c.from_residual.result c.from_residual.ensures.1 in
    rw (p.1, p.2) (fails_in_header c.in_err-header.field-0.0 c.args.blob.now c.in_err-header.ensures.value)

pub returns-in_err-reserve : goal.returns-in_err-reserve
returns-in_err-reserve c =
    let p = err_from_is_err_and c.from_residual-in_err-reserve.result c.from_residual-in_err-reserve.ensures.1 in
    rw (p.1, p.2) (fails_in_reserve c.in_err-reserve.field-0.0 c.args.blob.now _ c.in_ok-header.ensures.value.0 c.reserve_bytes.ensures c.in_err-reserve.ensures)

pub returns-in_err-root : goal.returns-in_err-root
returns-in_err-root c =
    let p = err_from_is_err_and c.from_residual-in_err-root.result c.from_residual-in_err-root.ensures.1 in
    rw (p.1, p.2) (fails_in_structure c.in_err-root.field-0.0 c.args.blob.now _ _ _ c.in_ok-header.ensures.value.0 c.reserve_bytes.ensures c.in_ok-reserve.ensures.0 c.strings_bytes.ensures c.structure_bytes.ensures c.in_err-root.ensures)

pub returns : goal.returns
returns c =
    reads_whole c.args.blob.now c.reserve_bytes.result.now c.strings_bytes.result.now c.structure_bytes.result.now
    (record { reserve = c.in_ok-reserve.reserve; boot_cpu = c.in_ok-header.header.boot_cpu; root = c.in_ok-root.root })
    c.in_ok-header.ensures.value.0 (ap (λ header. header.boot_cpu) (sym c.in_ok-header.ensures.value.1)) c.reserve_bytes.ensures c.in_ok-reserve.ensures.1
    c.strings_bytes.ensures c.structure_bytes.ensures c.in_ok-root.ensures.0 c.in_ok-root.ensures.1
