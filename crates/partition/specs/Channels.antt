-- The hypercalls of byte channels (ePAPR 1.1, chapter 7, byte channels): from registers and ends to a reply and an act.
use Rattle.std.specs.Prelude.{ℕ, Bool, true, false, not, ◌||◌, nat_lt, List, [], ◌∷◌, length, take, Option, Some, if◌then◌else◌}
use Rattle.guest_regs.specs.Registers.{Registers, gpr_of}
use Rattle.hcall_abi.specs.declared.status.Status.{Status}
use Rattle.hcall_abi.specs.declared.status.Status.TheVariants.{Success, TryAgain, InvalidArgument}
use Rattle.hcall_abi.specs.Payload.{sent_bytes, words_of}
use Rattle.hcall_abi.specs.Reply.{Reply}
use Rattle.hcall_abi.specs.Status.{code_of}
use Rattle.partition.specs.declared.kind.Kind.{Kind}
use Rattle.partition.specs.declared.kind.Kind.TheVariants.{Channel}
use Rattle.partition.specs.Port.{End, kind_at, end_at, room_at}
use Rattle.partition.specs.Act.{Act, Nothing, sent, took}

-- what a hypercall answers, and what others see of it
pub record Served : Type 0 where
  pub reply : Reply
  pub act : Act

-- an answer by a status alone
abbrev pub refusal : Status → Served
refusal status = record { reply = record { status = code_of status; outs = [] }; act = Nothing }

abbrev pub is_channel : Option Kind → Bool
is_channel (Some Channel) = true
is_channel _ = false

-- r3 is no channel's handle, or r4 is more than the registers hold
abbrev pub is_bad_transfer : List Kind → Registers → Bool
is_bad_transfer kinds registers = not (is_channel (kind_at kinds (gpr_of registers 3))) || nat_lt 16 (gpr_of registers 4)

-- So many bytes of r5 to r8 go out, which r4 tells. They wait at the other end until it takes them.
abbrev pub sending : Status → ℕ → ℕ → Registers → Served
sending status handle count registers = record {
  reply = record { status = code_of status; outs = count ∷ [] };
  act = sent handle (sent_bytes count registers);
}

-- Send r4 bytes on the channel r3. Where the channel has less room, as many go as it takes and the caller is told to try again.
unfoldable pub send : List Kind → Registers → List End → Served
send kinds registers ends =
    let handle = gpr_of registers 3 in
    let count = gpr_of registers 4 in
    if is_bad_transfer kinds registers then refusal InvalidArgument
    else if nat_lt (room_at ends handle) count then sending TryAgain handle (room_at ends handle) registers
    else sending Success handle count registers

-- these bytes are taken: r4 tells how many, and r5 to r8 have them, with zeros behind
abbrev pub receiving : ℕ → List ℕ → Served
receiving handle bytes = record {
  reply = record { status = code_of Success; outs = length bytes ∷ words_of bytes };
  act = took handle (length bytes);
}

-- Receive at most r4 bytes from the channel r3: the first of those that wait.
unfoldable pub receive : List Kind → Registers → List End → Served
receive kinds registers ends =
    let handle = gpr_of registers 3 in
    if is_bad_transfer kinds registers then refusal InvalidArgument
    else receiving handle (take (gpr_of registers 4) (end_at ends handle).received)

-- of a channel: how many bytes wait, and how many it takes
abbrev pub polling : List End → ℕ → Served
polling ends handle = record {
  reply = record { status = code_of Success; outs = length (end_at ends handle).received ∷ room_at ends handle ∷ [] };
  act = Nothing;
}

-- Of the channel r3: r4 tells how many bytes wait, and r5 how many it takes.
unfoldable pub poll : List Kind → Registers → List End → Served
poll kinds registers ends =
    let handle = gpr_of registers 3 in if is_channel (kind_at kinds handle) then polling ends handle else refusal InvalidArgument
