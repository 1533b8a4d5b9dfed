use Rattle.std.proofs.Common.{◌≡◌, take}
use Rattle.elf_image.specs.Image.{pieces_in}
use Rattle.elf_image.specs.Piece.{AreOf}
use Rattle.elf_image.proofs.planning.pieces_in.Given as goal

abbrev pub invariant-loop-segment : goal.invariant-loop-segment
invariant-loop-segment l = (l.pieces ≡ pieces_in (take l.segment-index l.segments)) × AreOf l.size l.pieces
