use Rattle.std.proofs.Common.{arith}
use Rattle.config_descs.proofs.Sizes.{size_of-small}
use Rattle.config_descs.proofs.numbered.small_size.Goals as goal

pub overflow_cast-result : goal.overflow_cast-result
overflow_cast-result c =
    let small = size_of-small c.args.areas.now c.args.name.now in
    grind (arith, small)
