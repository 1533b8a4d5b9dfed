use Rattle.std.proofs.Common.{map, ◌∙◌}
use Rattle.partition.specs.Machine.{Cpu}
use Rattle.partition.proofs.Copies.{one_target}
use Rattle.partition.proofs.partition.copied_at.Goals as goal

pub returns : goal.returns
returns c = c.copied_all.ensures ∙ (λ i. map (λ (cpu : Cpu). one_target c.args.at c.args.size 0 cpu i) c.args.cores.now.items)
