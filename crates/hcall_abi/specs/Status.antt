-- The numbers of the statuses (ePAPR 1.1, chapter 7, return codes).
use Rattle.std.specs.Prelude.{ℕ}
use Rattle.hcall_abi.specs.declared.status.Status.{Status}
use Rattle.hcall_abi.specs.declared.status.Status.TheVariants.{Success, TryAgain, Fault, InvalidArgument, InvalidState, Unimplemented}

-- what r3 tells of a status
abbrev pub code_of : Status → ℕ
code_of Success = 0
code_of TryAgain = 4
code_of Fault = 6
code_of InvalidArgument = 8
code_of InvalidState = 11
code_of Unimplemented = 12

-- SELF: in place of a handle it names the calling partition, a word of our own.
abbrev pub own_handle : ℕ
own_handle = 0xFFFFFFFF
