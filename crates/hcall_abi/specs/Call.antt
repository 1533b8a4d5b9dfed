-- Which service a token asks for (ePAPR 1.1, chapter 7).
use Rattle.std.specs.Prelude.{ℕ, List, [], ◌∷◌, ◌==◌, if◌then◌else◌}
use Rattle.hcall_abi.specs.declared.call.Call.{Call}
use Rattle.hcall_abi.specs.declared.call.Call.TheVariants.{Send, Receive, Poll, SetConfig, GetConfig, SetMask, GetMask, Iack, Eoi, SetTaskPriority, GetTaskPriority, DoorbellSend, Idle, Restart, GetStatus, Start, Stop, Memcpy, Unlisted}

-- a token and its service
pub record Service : Type 0 where
  pub token : ℕ
  pub call : Call

abbrev pub service : ℕ → Call → Service
service token call = record { token = token; call = call }

-- The services. The upper half of a token is its vendor's: 1 is ePAPR's own, whose numbers these are; 2 is Freescale's, with the numbers
-- of its hypercalls for partitions. What such a call reads, checks and answers here is ours, and says nothing of Freescale's own.
unfoldable pub services : List Service
services =
    service 0x10001 Send
    ∷ service 0x10002 Receive
    ∷ service 0x10003 Poll
    ∷ service 0x10004 SetConfig
    ∷ service 0x10005 GetConfig
    ∷ service 0x10006 SetMask
    ∷ service 0x10007 GetMask
    ∷ service 0x10009 Iack
    ∷ service 0x1000A Eoi
    ∷ service 0x1000C SetTaskPriority
    ∷ service 0x1000D GetTaskPriority
    ∷ service 0x1000E DoorbellSend
    ∷ service 0x10010 Idle
    ∷ service 0x20004 Restart
    ∷ service 0x20005 GetStatus
    ∷ service 0x20006 Start
    ∷ service 0x20007 Stop
    ∷ service 0x20008 Memcpy
    ∷ []

abbrev pub call_among : List Service → ℕ → Call
call_among [] token = Unlisted
call_among (one ∷ others) token = if token == one.token then one.call else call_among others token

-- the service that a token asks for
unfoldable pub call_of : ℕ → Call
call_of token = call_among services token
