-- What others need to know of a step, and no more: what it leaves of the ends, and which acts there can be.
use Rattle.std.specs.Prelude.{◌≡◌, ℕ, ◌+◌, ◌≤◌, true, false, ◌&&◌, nat_lt, List, length, Some}
use Rattle.std.specs.List.{list_all}
use Rattle.machine_desc.specs.declared.desc.Desc.{Desc}
use Rattle.machine_desc.specs.declared.desc.Port.{Port}
use Rattle.machine_desc.specs.declared.desc.Span.{Span}
use Rattle.copy_lists.specs.Lists.{managed_spans}
use Rattle.copy_lists.specs.Spans.{is_in_spans}
use Rattle.copy_lists.specs.Pieces.{Piece}
use Rattle.partition.specs.declared.kind.Kind.TheVariants as kind
use Rattle.partition.specs.Port.{End, kinds_of, kind_at, end_at, channel_size}
use Rattle.partition.specs.Act.{Act, Sent, Took, Rang, Start, Stop, Restart, CopyTo, CopyFrom, ports_after, state_after}
use Rattle.partition.specs.Machine.{Machine}
use Rattle.partition.specs.Step.{Stepped, step}

-- each has bytes, all of them for addresses in these spans
abbrev pub LieIn : List Span → List Piece → Type 0
LieIn spans pieces = list_all (λ (piece : Piece). nat_lt 0 (length piece.bytes) && is_in_spans spans piece.at (length piece.bytes)) pieces ≡ true

-- With these ends of these handles an act can be: bytes are sent that there is room for and taken that came, a manager starts a
-- partition that it knows not to run, and stops and restarts one that does, and what it copies goes into what its handle tells of the
-- other's private memory.
abbrev pub MayAct : List Port → List End → Act → Type 0
MayAct ports ends (Sent handle bytes) = (kind_at (kinds_of ports) handle ≡ Some kind.Channel) × ((end_at ends handle).outstanding + length bytes ≤ channel_size)
MayAct ports ends (Took handle count) = (kind_at (kinds_of ports) handle ≡ Some kind.Channel) × (count ≤ length (end_at ends handle).received)
MayAct ports ends (Rang handle) = kind_at (kinds_of ports) handle ≡ Some kind.Send
MayAct ports ends (Start handle entry load) = (kind_at (kinds_of ports) handle ≡ Some kind.Manage) × ((end_at ends handle).runs ≡ false)
MayAct ports ends (Stop handle) = (kind_at (kinds_of ports) handle ≡ Some kind.Manage) × ((end_at ends handle).runs ≡ true)
MayAct ports ends (Restart handle) = (kind_at (kinds_of ports) handle ≡ Some kind.Manage) × ((end_at ends handle).runs ≡ true)
MayAct ports ends (CopyTo handle pieces) = (kind_at (kinds_of ports) handle ≡ Some kind.Manage) × LieIn (managed_spans ports handle) pieces
MayAct ports ends (CopyFrom handle count) = kind_at (kinds_of ports) handle ≡ Some kind.Manage
MayAct ports ends _ = Unit {0}

pub record Acts (desc : Desc) (machine : Machine) (done : Stepped) : Type 0 where
  pub ports : done.after.ports ≡ ports_after done.act machine.ports
  pub state : done.after.inner.state ≡ state_after done.act
  pub counted : done.after.inner.steps ≡ machine.inner.steps + 1
  pub may : MayAct desc.ports machine.ports done.act

abbrev pub StepsAct : Type 0
StepsAct = (desc : Desc) (machine : Machine) (core : ℕ) (feed : List ℕ) → Acts desc machine (step desc machine core feed)
