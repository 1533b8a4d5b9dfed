-- The bytes that wait in a byte channel (ePAPR 1.1, chapter 7, "Byte-Channel Services"): a full duplex pipe of bytes between two ends.
use Rattle.std.specs.Prelude.{ℕ, ◌-◌, List, [], ◌++◌, length, drop}
use Rattle.byte_channel.specs.declared.side.Side.{Side}
use Rattle.byte_channel.specs.declared.side.Side.TheVariants.{A, B}

-- the bytes that each end has not yet received, the oldest first
pub record Waiting : Type 0 where
  pub at_a : List ℕ
  pub at_b : List ℕ

-- how many bytes can wait at an end
abbrev pub most_waiting : ℕ
most_waiting = 256

abbrev pub other_side : Side → Side
other_side A = B
other_side B = A

abbrev pub waiting_at : Side → Waiting → List ℕ
waiting_at A channel = channel.at_a
waiting_at B channel = channel.at_b

-- these bytes wait at the end, and nothing changes at the other
abbrev pub replaced_at : Side → List ℕ → Waiting → Waiting
replaced_at A bytes channel = record { at_a = bytes; at_b = channel.at_b }
replaced_at B bytes channel = record { at_a = channel.at_a; at_b = bytes }

-- nothing waits
abbrev pub empty_channel : Waiting
empty_channel = record { at_a = []; at_b = [] }

-- how many bytes an end can send before the other receives
abbrev pub room_of : Side → Waiting → ℕ
room_of side channel = most_waiting - length (waiting_at (other_side side) channel)

-- the piece joins what waits at the other end, behind it
abbrev pub after_send : Side → List ℕ → Waiting → Waiting
after_send side piece channel = replaced_at (other_side side) (waiting_at (other_side side) channel ++ piece) channel

-- so many of the oldest bytes are taken out
abbrev pub after_receive : Side → ℕ → Waiting → Waiting
after_receive side count channel = replaced_at side (drop count (waiting_at side channel)) channel

-- what waits at the end is dropped
abbrev pub after_clear : Side → Waiting → Waiting
after_clear side channel = replaced_at side [] channel
