use Rattle.std.proofs.Common.{arith}
use Rattle.copy_lists.proofs.Brought.{first_private}
use Rattle.copy_lists.proofs.bringing.put_entry.Goals as goal

pub put_bytes-requires-clause-private : goal.put_bytes-requires-clause-private
put_bytes-requires-clause-private c =
    first_private c.args.map.now c.args.entry.now.target c.args.entry.now.size c.min-count.result c.args.bytes.now c.requires.private (omega (arith, c.min-count.ensures))
