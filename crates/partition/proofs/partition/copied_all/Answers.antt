use Rattle.std.proofs.Common.{ap, ◌∙◌, arith}
use Rattle.copy_lists.specs.Pieces.{targets_of}
use Rattle.partition.specs.Reservations.{with_copied}
use Rattle.partition.proofs.Written.{one_more}
use Rattle.partition.proofs.partition.copied_all.Goals as goal

pub loop-core-preserved : goal.loop-core-preserved
loop-core-preserved c =
    one_more (with_copied (targets_of c.args.entries.now)) c.args.cores.now.items c.loop-core.cores.items c.loop-core.core c.copied.new.self c.index_mut.result.now (omega arith) c.loop-core.invariant
    (c.copied.ensures ∙ ap (with_copied (targets_of c.args.entries.now)) c.index_mut.ensures.value)
