use Rattle.std.proofs.Common.{◌≡◌, ℕ, ◌-◌, ◌≤◌, List, [], ◌∷◌, ◌++◌, length, map, ap, sym, ◌∙◌, append_assoc, arith}
use Rattle.std.specs.List.{range_with_len}
use Rattle.machine_desc.specs.declared.desc.Piece.{Piece}
use Rattle.fresh_load.specs.Described.{spin_piece, spin_pieces}
use Rattle.fresh_load.proofs.Starting.{spins_more, some_core}
use Rattle.fresh_load.proofs.pieces.add_spin_pieces.Goals as goal

pub loop-core-preserved : goal.loop-core-preserved
loop-core-preserved c =
    let base = c.args.base.now in
    let before : List Piece = map (spin_piece base) (range_with_len 1 (c.loop-core.core - 1)) in
    c.in_ok-push.ensures.ok
    ∙ (ap (λ (pieces : List Piece). pieces ++ c.in_ok-spin_piece.field-0 ∷ []) c.loop-core.invariant
    ∙ (append_assoc c.args.pieces.now before _
    ∙ ap (λ (more : List Piece). c.args.pieces.now ++ more)
    (ap (λ (piece : Piece). before ++ piece ∷ []) c.in_ok-spin_piece.ensures ∙ sym (spins_more base c.loop-core.core (omega arith)))))

pub returns : goal.returns
unfolding spin_pieces
returns c =
    let base = c.args.base.now in
    let some : 1 ≤ length base.cores = some_core base c.requires in
    let count : length c.as_slice-count.result.now ≡ length base.cores = ap length c.as_slice-count.ensures in
    let all : c.loop-core.core - 1 ≡ length base.cores - 1 = omega arith in
    c.loop-core.invariant ∙ ap (λ (n : ℕ). c.args.pieces.now ++ map (spin_piece base) (range_with_len 1 n)) all
