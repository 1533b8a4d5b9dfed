use Rattle.std.proofs.Common.{◌≡◌, true, false, ◌∙◌, sym, arith}
use Rattle.machine_desc.specs.Ranges.{ranges_meet}
use Rattle.fresh_load.proofs.Covering.{part_put, nothing_put}
use Rattle.fresh_load.proofs.Places.{there}
use Rattle.fresh_load.proofs.putting.put_piece.Goals as goal

pub returns-then-ranges_meet : goal.returns-then-ranges_meet
returns-then-ranges_meet c =
    let piece = c.args.piece.now in
    let region = c.args.region.now in
    let meet : ranges_meet piece.at piece.len region.logical region.size ≡ true =
    rw (← c.from-len.ensures, ← c.from-size.ensures) (sym c.ranges_meet.ensures ∙ c.if-ranges_meet.true) in
    c.put_part.ensures
    ∙ part_put c.args.memory.now piece region c.as_slice.result.now c.max-from.result c.min-end.result c.as_slice.ensures (omega arith) (omega arith) meet
    (there c.args.memory.now region c.requires.placed).size

pub returns-else-ranges_meet : goal.returns-else-ranges_meet
returns-else-ranges_meet c =
    let piece = c.args.piece.now in
    let region = c.args.region.now in
    let apart : ranges_meet piece.at piece.len region.logical region.size ≡ false =
    rw (← c.from-len.ensures, ← c.from-size.ensures) (sym c.ranges_meet.ensures ∙ c.if-ranges_meet.false) in
    nothing_put c.args.memory.now piece region apart (there c.args.memory.now region c.requires.placed).size
