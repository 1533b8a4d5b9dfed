use Rattle.std.proofs.Common.{◌∷◌, length-set, inl, inr, arith}
use Rattle.hcall_abi.specs.Reply.{replied}
use Rattle.guest_regs.specs.Registers.{with_gpr}
use Rattle.hcall_abi.proofs.Registers.{below, behind, first, each, rest}
use Rattle.hcall_abi.proofs.laws.replies_are_read.Goals as goal

pub returns-clause-status : goal.returns-clause-status
unfolding replied
returns-clause-status c reply registers all = first 3 reply.status reply.outs registers (omega (arith, all))

pub returns-clause-values : goal.returns-clause-values
unfolding replied
returns-clause-values c reply registers n all few small =
    each 4 n reply.outs (with_gpr registers 3 reply.status) (omega (arith, all, few, length-set registers.gpr 3 reply.status)) small

pub returns-clause-others : goal.returns-clause-others
unfolding replied
returns-clause-others c reply registers n (inl small) = below 3 n (reply.status ∷ reply.outs) registers small
returns-clause-others c reply registers n (inr far) = behind 3 n (reply.status ∷ reply.outs) registers (omega (arith, far))

pub returns-clause-rest : goal.returns-clause-rest
unfolding replied
returns-clause-rest c reply registers = rest 3 (reply.status ∷ reply.outs) registers
