-- What a reply leaves in the caller's registers (ePAPR 1.1, chapter 7).
use Rattle.std.specs.Prelude.{ℕ, ◌+◌, List, [], ◌∷◌}
use Rattle.guest_regs.specs.Registers.{Registers, with_gpr}
use Rattle.hcall_abi.specs.declared.reply.Reply as code

-- the number of the status, and the values that go with it
pub record Reply : Type 0 where
  pub status : ℕ
  pub outs : List ℕ

-- what the code's Reply holds
abbrev pub reply_of : code.Reply → Reply
reply_of reply = record { status = reply.status; outs = reply.outs.items }

-- the first value stands in general register n, and each further one in the register behind
abbrev pub with_gprs : ℕ → List ℕ → Registers → Registers
with_gprs n [] registers = registers
with_gprs n (value ∷ values) registers = with_gprs (n + 1) values (with_gpr registers n value)

-- the status in r3, and the values in r4 and on
unfoldable pub replied : Reply → Registers → Registers
replied reply registers = with_gprs 3 (reply.status ∷ reply.outs) registers
