use Rattle.std.proofs.Common.{◌≡◌, ◌+◌, drop}
use Rattle.guest_regs.specs.Registers.{with_gpr}
use Rattle.hcall_abi.specs.Reply.{with_gprs}
use Rattle.hcall_abi.proofs.reply.set_reply.Given as goal

-- what is still to be written leaves what all the values leave
abbrev pub invariant-loop-value : goal.invariant-loop-value
invariant-loop-value l = record {
  register : l.register ≡ 3 + l.value-index;
  written : with_gprs (l.register + 1) (drop l.value-index l.reply.outs.items) l.regs ≡ with_gprs 4 l.reply.outs.items (with_gpr l.fn.regs 3 l.reply.status);
}
