use Rattle.copy_lists.proofs.Pieces.{copied_pieces, pieces_total, fed_pieces}
use Rattle.copy_lists.proofs.laws.copies_are_pieces.Goals as goal

pub returns-clause-copied : goal.returns-clause-copied
returns-clause-copied c from to memory entries fit h = copied_pieces from to memory entries fit.from_sound fit.apart h

pub returns-clause-pieces : goal.returns-clause-pieces
returns-clause-pieces c from memory entries = (pieces_total from memory entries, fed_pieces from memory entries)
