-- What a step did that others see, and what it does to the partition's own ends and state.
use Rattle.std.specs.Prelude.{◌≡◌, ℕ, ◌==◌, Bool, true, false, List, [], ◌∷◌, length, if◌then◌else◌}
use Rattle.machine_desc.specs.declared.act.Act.{Act as Told}
use Rattle.machine_desc.specs.declared.act.Act.TheVariants as told
use Rattle.machine_desc.specs.declared.act.State.{State}
use Rattle.machine_desc.specs.declared.act.State.TheVariants as state
use Rattle.copy_lists.specs.Pieces.{Piece, size_of}
use Rattle.partition.specs.Port.{End, sent_on, taken_on, told_on, emptied}

pub data Act : Type 0 where
  Nothing : Act
  -- on this handle, these bytes
  Sent : ℕ → List ℕ → Act
  -- on this handle, so many bytes
  Took : ℕ → ℕ → Act
  Rang : ℕ → Act
  -- of the partition that the handle manages: where it starts, and whether its memory is loaded anew
  Start : ℕ → ℕ → Bool → Act
  Stop : ℕ → Act
  Restart : ℕ → Act
  -- into the partition that the handle manages, these pieces, one after the other
  CopyTo : ℕ → List Piece → Act
  -- out of the partition that the handle manages, so many bytes
  CopyFrom : ℕ → ℕ → Act
  SelfStop : Act
  SelfRestart : Act
  -- the partition met a machine check that it couldn't take
  Faulted : Act

-- The program's act as it is defined here. It tells of a copy how many bytes it has, and its lender what they are: so these are the
-- pieces of what was copied last.
abbrev pub act_of : List Piece → Told → Act
act_of pieces told.None = Nothing
act_of pieces (told.Sent handle bytes) = Sent handle bytes.items
act_of pieces (told.Took handle count) = Took handle count
act_of pieces (told.Rang handle) = Rang handle
act_of pieces (told.Start handle entry load) = Start handle entry load
act_of pieces (told.Stop handle) = Stop handle
act_of pieces (told.Restart handle) = Restart handle
act_of pieces (told.CopyTo handle count) = CopyTo handle pieces
act_of pieces (told.CopyFrom handle count) = CopyFrom handle count
act_of pieces told.SelfStop = SelfStop
act_of pieces told.SelfRestart = SelfRestart
act_of pieces told.Faulted = Faulted

-- it tells how many bytes the pieces have
abbrev pub HasTotal : List Piece → Told → Type 0
HasTotal pieces (told.CopyTo handle count) = count ≡ size_of pieces
HasTotal pieces _ = Unit {0}

-- to send no bytes is to do nothing
abbrev pub sent : ℕ → List ℕ → Act
sent handle [] = Nothing
sent handle (byte ∷ bytes) = Sent handle (byte ∷ bytes)

-- and so it is to take none,
abbrev pub took : ℕ → ℕ → Act
took handle count = if count == 0 then Nothing else Took handle count

-- to copy no pieces into a partition,
abbrev pub copied_to : ℕ → List Piece → Act
copied_to handle [] = Nothing
copied_to handle (piece ∷ pieces) = CopyTo handle (piece ∷ pieces)

-- and no bytes out of one
abbrev pub copied_from : ℕ → ℕ → Act
copied_from handle count = if count == 0 then Nothing else CopyFrom handle count

-- ---- the partition's ends

-- what a step does to them by itself: it sends, and it takes
abbrev pub called : Act → List End → List End
called (Sent handle bytes) ends = sent_on ends handle (length bytes)
called (Took handle count) ends = taken_on ends handle count
called _ ends = ends

-- What becomes of them then: a manager knows whether a partition runs that it commanded, and what a partition received is gone where
-- it restarts itself.
abbrev pub settled : Act → List End → List End
settled (Start handle entry load) ends = told_on ends handle true
settled (Stop handle) ends = told_on ends handle false
settled (Restart handle) ends = told_on ends handle true
settled SelfRestart ends = emptied ends
settled _ ends = ends

-- after the act
abbrev pub ports_after : Act → List End → List End
ports_after act ends = settled act (called act ends)

-- ---- its state and its steps

-- by this act the caller ends its own run, and hears no reply
abbrev pub ends_caller : Act → Bool
ends_caller SelfStop = true
ends_caller SelfRestart = true
ends_caller _ = false

-- whether it runs on
abbrev pub state_after : Act → State
state_after SelfStop = state.Stopped
state_after Faulted = state.Faulted
state_after _ = state.Running
