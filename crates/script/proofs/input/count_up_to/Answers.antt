use Rattle.std.proofs.Common.{rules, nat_le}
use Rattle.std.proofs.lemmas.List.Sorted.{IsPartitionPoint-from_clause, IsPartitionedBy-leb}
use Rattle.script.specs.declared.input.Mark.{Mark}
use Rattle.script.proofs.input.count_up_to.Goals as goal

pub returns : goal.returns
returns c =
    let parted = IsPartitionedBy-leb (λ (mark : Mark). mark.turn) c.args.marks.now c.args.turn c.requires in
    IsPartitionPoint-from_clause (λ (mark : Mark). nat_le mark.turn c.args.turn) _ _ c.partition_point.ensures.partitioned parted (λ a r q k. search rules)
