use Rattle.std.proofs.Common.{◌≡◌, take}
use Rattle.arrayvec.specs.ArrayVec.{array_vec_len}
use Rattle.hcall_abi.specs.Status.{code_of}
use Rattle.hcall_abi.proofs.reply.Reply.with.Given as goal

-- the values so far
abbrev pub invariant-loop-value : goal.invariant-loop-value
invariant-loop-value l = record {
  status : l.reply.status ≡ code_of l.fn.status;
  outs : l.reply.outs.items ≡ take l.value-index l.values;
  count : array_vec_len l.reply.outs ≡ l.value-index;
}
