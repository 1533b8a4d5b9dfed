use Rattle.hcall_abi.specs.Payload.{payload}
use Rattle.hcall_abi.proofs.payload.sent_bytes.Goals as goal

pub returns-clause-bytes : goal.returns-clause-bytes
unfolding payload
returns-clause-bytes c =
    rw (c.truncate.ensures.items, c.push_word-4.ensures.bytes, c.push_word-3.ensures.bytes, c.push_word-2.ensures.bytes, c.push_word.ensures.bytes, c.new-bytes.ensures, c.gpr.ensures.value, c.gpr-2.ensures.value, c.gpr-3.ensures.value, c.gpr-4.ensures.value)
