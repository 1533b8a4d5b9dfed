use Rattle.std.proofs.Common.{◌<◌, arith}
use Rattle.elf_image.specs.Piece.{piece_limit}
use Rattle.elf_image.proofs.Fits.{piece-fits}
use Rattle.elf_image.proofs.planning.piece_of.Goals as goal

pub returns-clause-fits : goal.returns-clause-fits
returns-clause-fits c =
    let small : c.args.segment.now.total < piece_limit = omega arith in
    rw c.from-total.ensures (piece-fits c.args.size c.from.result c.args.segment.now c.requires.load c.requires.placed small)
