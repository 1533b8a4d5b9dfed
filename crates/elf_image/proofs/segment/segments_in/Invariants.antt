use Rattle.std.proofs.Common.{◌≡◌, map}
use Rattle.std.specs.List.{range_with_len}
use Rattle.elf_image.specs.Segment.{segment_at}
use Rattle.elf_image.proofs.segment.segments_in.Given as goal

abbrev pub invariant-loop-number : goal.invariant-loop-number
invariant-loop-number l = l.segments.items ≡ map (segment_at l.file l.table_at) (range_with_len 0 l.number)
