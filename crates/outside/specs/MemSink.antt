-- A sink in memory: which calls fail, and what each call leaves.
use Rattle.std.specs.Prelude.{◌≡◌, ℕ, ◌+◌, ◌≤◌, Bool, true, ◌||◌, ◌&&◌, List, [], ◌++◌, length, nat_lt, if◌then◌else◌}
use Rattle.outside.specs.Fault.{raised}
use Rattle.outside.specs.MemFiles.{is_listed}

-- the room in all, the numbers of the calls that are to fail, and what came so far
pub record SinkInMemory : Type 0 where
  pub room : ℕ
  pub fail : List ℕ
  pub calls : ℕ
  pub faults : ℕ
  pub taken : List ℕ
  pub is_flushed : Bool

-- no call is listed, and so many more bytes fit
pub record TakesMore (s : SinkInMemory) (count : ℕ) : Type 0 where
  pub listed : s.fail ≡ []
  pub room : length s.taken + count ≤ s.room

abbrev pub fails_to_write : SinkInMemory → List ℕ → Bool
fails_to_write s piece = is_listed s.fail s.calls || nat_lt s.room (length s.taken + length piece)

abbrev pub fails_to_flush : SinkInMemory → Bool
fails_to_flush s = is_listed s.fail s.calls

abbrev pub after_fault : SinkInMemory → SinkInMemory
after_fault s = record s { calls = raised s.calls; faults = raised s.faults }

-- a write takes the piece whole, and what it takes is not flushed yet
abbrev pub after_write : SinkInMemory → List ℕ → SinkInMemory
after_write s piece =
    if fails_to_write s piece
    then after_fault s
    else record s { calls = raised s.calls; taken = s.taken ++ piece; is_flushed = s.is_flushed && nat_lt (length piece) 1 }

abbrev pub after_flush : SinkInMemory → SinkInMemory
after_flush s = if fails_to_flush s then after_fault s else record s { calls = raised s.calls; is_flushed = true }
