use Rattle.std.proofs.Common.{arith}
use Rattle.std.proofs.lemmas.List.FromFn.{map-range_with_len_more}
use Rattle.elf_image.specs.Segment.{segment_at}
use Rattle.elf_image.proofs.segment.segments_in.Goals as goal

pub loop-number-preserved : goal.loop-number-preserved
loop-number-preserved c =
    let more = map-range_with_len_more (segment_at c.args.file.now c.args.header.now.table_at) 0 c.loop-number.number c.loop-number.number (omega arith) in
    rw (more, ← c.loop-number.invariant, ← c.segment_at.ensures) c.in_ok-push.ensures.items
