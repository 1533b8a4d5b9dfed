use Rattle.std.proofs.Common.{arith}
use Rattle.fresh_load.proofs.Starting.{spin_room_there, few_cores}
use Rattle.fresh_load.proofs.pieces.spin_piece.Goals as goal

pub overflow_sub-result : goal.overflow_sub-result
overflow_sub-result c = omega (arith, spin_room_there c.args.base.now c.args.core c.requires.sound c.requires.first c.requires.last)

pub overflow_cast-result : goal.overflow_cast-result
overflow_cast-result c = omega (arith, spin_room_there c.args.base.now c.args.core c.requires.sound c.requires.first c.requires.last)

pub overflow_cast-core : goal.overflow_cast-core
overflow_cast-core c = omega (arith, few_cores c.args.base.now c.requires.sound)
