-- What a partition without shared areas does in the network is what its own moves come to.
use Rattle.std.specs.Prelude.{◌≡◌, ℕ, ◌+◌, ◌<◌, ◌==◌, Bool, true, ◌&&◌, ◌||◌, not, List, [], length, codes, bytes_eq}
use Rattle.std.specs.List.{list_all}
use Rattle.core_step.specs.declared.answer.Wrote.{Wrote}
use Rattle.machine_desc.specs.declared.act.Act.{Act as Told}
use Rattle.machine_desc.specs.declared.desc.Desc.{Desc}
use Rattle.machine_desc.specs.declared.desc.Region.{Region}
use Rattle.machine_desc.specs.Ranges.{none_meets}
use Rattle.trace_text.specs.Acts.{act_text}
use Rattle.copy_lists.specs.Pieces.{Piece}
use Rattle.partition.specs.Act.{HasTotal, act_of}
use Rattle.partition.specs.Machine.{Machine, fresh}
use Rattle.partition.specs.Reached.{after_moves}
use Rattle.network.specs.Network.{Network, desc_at}
use Rattle.network.specs.Change.{Shared, changed, trace_of, are_private}
use Rattle.network.specs.World.{World, Passage, passed, machine_at, moves_of, trace_in}
use Rattle.network.specs.Entering.{waiting}
use Rattle.network.specs.Turn.{Script, given_at, is_running, turns_from, run}
use Rattle.network.specs.Report.{act_line, report, own_text}
use Rattle.network.specs.Lines.{lines_of}

-- ---- the machine and the trace

-- They are those of its own moves from its fresh machine.
pub record FollowsMoves (network : Network) (part : ℕ) (done : Passage) : Type 0 where
  pub machine : machine_at done.after.machines part ≡ after_moves (desc_at network part) (moves_of part done.log) (fresh (desc_at network part))
  pub trace : trace_in part done.lines ≡ trace_of (desc_at network part) (moves_of part done.log) (fresh (desc_at network part))

-- So it is on every wiring, with every schedule and all input.
abbrev pub PartitionsFollowMoves : Type 0
PartitionsFollowMoves =
    (network : Network) (script : Script) (turns part : ℕ) → part < length network.descs → are_private (desc_at network part).regions ≡ true
    → FollowsMoves network part (run network script turns)

-- Moves are all that change its machine.
abbrev pub OthersLeaveAlone : Type 0
OthersLeaveAlone =
    (desc : Desc) (regions : List Region) (memory : List (List ℕ)) (stored : List Wrote) (machine : Machine) → are_private desc.regions ≡ true
    → changed desc (Shared regions memory stored) machine ≡ machine

-- ---- the text

-- a byte that ends no word
abbrev pub is_plain : ℕ → Bool
is_plain byte = not (byte == 10 || byte == 32)

-- one word of a line
abbrev pub is_word : List ℕ → Bool
is_word name = not (bytes_eq name []) && list_all is_plain name

-- what lines begin with that are no act's
abbrev pub is_taken : List ℕ → Bool
is_taken name = bytes_eq name (codes "end") || (bytes_eq name (codes "console") || bytes_eq name (codes "refused"))

abbrev pub is_name : Desc → Bool
is_name desc = is_word desc.name && not (is_taken desc.name)

abbrev pub have_name : Desc → Desc → Bool
have_name desc other = bytes_eq desc.name other.name

-- The names of partitions and of consoles are words, and a partition's is no other's and none that other lines begin with.
pub record IsNamed (network : Network) : Type 0 where
  pub names : list_all is_name network.descs ≡ true
  pub apart : none_meets have_name [] network.descs ≡ true
  pub consoles : list_all is_word network.wiring.consoles ≡ true

-- The lines of its name in the report are the text of its own moves.
abbrev pub LinesAreOwn : Type 0
LinesAreOwn =
    (network : Network) (script : Script) (turns part : ℕ) → IsNamed network → part < length network.descs → are_private (desc_at network part).regions ≡ true
    → lines_of (desc_at network part).name (report network script turns)
    ≡ own_text (desc_at network part) (moves_of part (run network script turns).log)

-- ---- lines of the program

-- They are those that are defined here, where the program's act tells how many bytes these pieces have.
abbrev pub ActLinesAgree : Type 0
ActLinesAgree =
    (name : List ℕ) (step : ℕ) (pieces : List Piece) (act : Told) → HasTotal pieces act → act_text name step act ≡ act_line name step (act_of pieces act)

-- ---- rest

abbrev pub is_at_rest : Machine → Bool
is_at_rest machine = not (is_running machine.inner.state)

-- no partition runs
abbrev pub are_at_rest : List Machine → Bool
are_at_rest machines = list_all is_at_rest machines

-- Where no partition runs and no console is given anything up to the last of these turns that doesn't enter, each of them passes.
abbrev pub RestingNetworksStay : Type 0
RestingNetworksStay =
    (network : Network) (script : Script) (number more : ℕ) (world : World) → are_at_rest world.machines ≡ true
    → ((later console : ℕ) → later < number + more → waiting (given_at script later console) world.consoles console ≡ []) → turns_from network script number more world ≡ passed world
