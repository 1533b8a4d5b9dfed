use Rattle.std.proofs.Common.{ℕ, List}
use Rattle.fresh_load.proofs.Bytes.{put_padded}
use Rattle.fresh_load.proofs.putting.put_part.Goals as goal

pub returns : goal.returns
returns c =
    let own : List ℕ = c.part_of-own.result.now in
    let put = put_padded c.args.memory.now c.args.extent c.args.at c.args.bytes.now own c.args.from c.args.count c.requires.range.0 c.requires.range.1 c.part_of-own.ensures in
    cc
