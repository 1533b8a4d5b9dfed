use Rattle.std.proofs.Common.{ap, ◌∙◌, arith}
use Rattle.partition.specs.Reservations.{with_kept}
use Rattle.partition.proofs.Written.{one_more}
use Rattle.partition.proofs.partition.written_all.Goals as goal

-- src/partition.rt:239:5
pub loop-core-preserved : goal.loop-core-preserved
loop-core-preserved c =
    one_more (with_kept c.args.regions.now c.args.stored.now) c.args.cores.now.items c.loop-core.cores.items c.loop-core.core c.written.new.self c.index_mut.result.now (omega arith) c.loop-core.invariant
    (c.written.ensures ∙ ap (with_kept c.args.regions.now c.args.stored.now) c.index_mut.ensures.value)
