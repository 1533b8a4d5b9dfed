-- What a partition stands for with the ports and the memory that it is lent, and what a step owes to their lender.
use Rattle.std.specs.Prelude.{◌≡◌, ℕ, ◌+◌, ◌%◌, ◌<◌, ◌≤◌, Bool, true, false, not, ◌&&◌, ◌||◌, ◌==◌, List, [], length, map, Option, Some, None, if◌then◌else◌}
use Rattle.std.specs.List.{list_any, list_all}
use Rattle.std.specs.Option.{unwrap_or}
use Rattle.core_step.specs.declared.answer.Wrote.{Wrote}
use Rattle.core_step.specs.Laws.{range_in}
use Rattle.ground.specs.Extents.{extent_at}
use Rattle.ground.specs.Own.{own_of, IsForeign, KeepsForeign}
use Rattle.machine_desc.specs.declared.act.Act.{Act as Told}
use Rattle.machine_desc.specs.declared.act.Act.TheVariants as told
use Rattle.machine_desc.specs.declared.act.Event.{Event as Heard}
use Rattle.machine_desc.specs.declared.act.Event.TheVariants as heard
use Rattle.machine_desc.specs.declared.desc.Desc.{Desc}
use Rattle.machine_desc.specs.declared.desc.Region.{Region}
use Rattle.fresh_load.specs.Fresh.{reloaded}
use Rattle.fresh_load.specs.Placed.{ArePlaced, extents_of, is_private_extent, sizes_of}
use Rattle.partition.specs.declared.kind.Kind.{Kind}
use Rattle.partition.specs.declared.kind.Kind.TheVariants.{Channel, Send, Manage}
use Rattle.partition.specs.Port.{End, kind_at, end_at}
use Rattle.machine_desc.specs.declared.desc.Span.{Span}
use Rattle.machine_desc.specs.Private.{is_private_range}
use Rattle.machine_desc.specs.Sound.{are_regions_sound}
use Rattle.copy_lists.specs.declared.list.SgEntry.{SgEntry}
use Rattle.copy_lists.specs.Lists.{managed_spans, are_entries_private}
use Rattle.copy_lists.specs.Spans.{is_in_spans}
use Rattle.copy_lists.specs.Moving.{AreasFit, copied}
use Rattle.copy_lists.specs.Pieces.{Piece, pieces_out, all_put}
use Rattle.partition.specs.Act.{Act, SelfRestart, HasTotal, act_of, called, state_after}
use Rattle.partition.specs.Copying.{Copy, copy_act, copied_in}
use Rattle.partition.specs.Asking.{with_total}
use Rattle.vpic.specs.Controller.{Controller}
use Rattle.partition.specs.Machine.{Cpu, Inner, Machine}
use Rattle.partition.specs.Anew.{started_inner}
use Rattle.partition.specs.Event.{Event}
use Rattle.partition.specs.Event as event
use Rattle.partition.specs.Step.{CoreStepped, Stepped}

-- a partition by itself
pub record Part : Type 0 where
  pub desc : Desc
  pub inner : Inner

-- with these ends, over this real memory
abbrev pub machine_of : Part → List End → List (List ℕ) → Machine
machine_of part ends memory = record { inner = part.inner; ports = ends; memory = own_of (extents_of part.desc.regions) memory }

-- ---- copies

-- what a partition keeps to copy by: its regions, and the list of its last copy
pub record Kit : Type 0 where
  pub map : List Region
  pub list : List SgEntry

-- what a copy by a list brings a managed partition, out of these regions of real memory
abbrev pub pieces_of : List Region → List (List ℕ) → Copy → List Piece
pieces_of regions memory it = if it.to_managed then pieces_out regions memory it.entries else []

-- the caller's regions are sound and in memory
abbrev pub OwnFits : List Region → List (List ℕ) → Type 0
OwnFits own memory = (are_regions_sound own ≡ true) × ArePlaced memory own

-- each entry reads or writes private bytes of the caller
abbrev pub are_own_private : List Region → Bool → List SgEntry → Bool
are_own_private own to_managed entries =
    list_all (λ (entry : SgEntry). entry.size == 0 || is_private_range own (if to_managed then entry.source else entry.target) entry.size) entries

-- no private extent of the told regions is one of the caller's, be it private or shared
abbrev pub AreForeign : List Region → List Region → Type 0
AreForeign regions own = (extent : ℕ) → is_private_extent regions extent ≡ true → IsForeign (extents_of own) extent

-- The private regions of a managed partition, where a lender tells them: their extents are none of the caller's, and they have all that
-- its handle tells.
pub record AreManaged (regions own : List Region) (spans : List Span) (memory : List (List ℕ)) : Type 0 where
  pub fit : AreasFit own regions memory
  pub foreign : AreForeign regions own
  pub spanned : (at size : ℕ) → is_in_spans spans at size ≡ true → is_private_range regions at size ≡ true

abbrev pub Tells : Option (List Region) → List Region → List Span → List (List ℕ) → Type 0
Tells None own spans memory = Unit {0}
Tells (Some regions) own spans memory = AreManaged regions own spans memory

-- so it is of each handle
abbrev pub AreTold : (ℕ → Option (List Region)) → Desc → List (List ℕ) → Type 0
AreTold tells desc memory = (handle : ℕ) → Tells (tells handle) desc.regions (managed_spans desc.ports handle) memory

-- each entry copies private bytes of the caller, and private bytes of the regions that are told, where they are
abbrev pub CopyFits : Option (List Region) → List Region → List (List ℕ) → Bool → List SgEntry → Type 0
CopyFits None own memory to_managed entries = OwnFits own memory × (are_own_private own to_managed entries ≡ true)
CopyFits (Some regions) own memory to_managed entries =
    AreasFit own regions memory × AreForeign regions own × (are_entries_private to_managed (is_private_range own) (is_private_range regions) entries ≡ true)

-- the memory after a copy into regions that were told
abbrev pub written_into : Option (List Region) → List Region → List SgEntry → List (List ℕ) → List (List ℕ)
written_into None own entries memory = memory
written_into (Some regions) own entries memory = copied own regions entries memory

-- A copy into a managed partition writes there, and no byte elsewhere; by another act no byte changes outside the partition's own
-- extents.
abbrev pub KeepsOthers : (ℕ → Option (List Region)) → List Region → Copy → Told → List (List ℕ) → List (List ℕ) → Type 0
KeepsOthers tells own last (told.CopyTo handle count) before after = after ≡ written_into (tells handle) own last.entries before
KeepsOthers tells own last _ before after = KeepsForeign (extents_of own) before after

-- ---- steps

-- The program did the defined step of a core; what it tells of shared regions names their extents, and what it tells of a copy is about
-- these pieces.
pub record IsCoreStepped (names : List ℕ) (pieces : List Piece) (done : CoreStepped) (left : Cpu) (controller : Controller) (real : List (List ℕ)) (tells : Told) (ranges : List Wrote) : Type 0 where
  pub cpu : done.cpu ≡ left
  pub interrupts : done.interrupts ≡ controller
  pub memory : done.memory ≡ own_of names real
  pub act : done.act ≡ act_of pieces tells
  pub total : HasTotal pieces tells
  pub shared : ranges ≡ map (range_in names) done.stored

-- the program did the defined step of a machine
pub record IsStepped (names : List ℕ) (pieces : List Piece) (done : Stepped) (left : Machine) (tells : Told) (ranges : List Wrote) : Type 0 where
  pub after : done.after ≡ left
  pub act : done.act ≡ act_of pieces tells
  pub total : HasTotal pieces tells
  pub shared : ranges ≡ map (range_in names) done.stored

-- The one call on the ports that an act is, with the memory before it. An act copies where the step does this copy.
abbrev pub Did : {S : Type 0} → (S → ℕ → List ℕ → S → Type 0) → (S → ℕ → ℕ → S → Type 0) → (S → List (List ℕ) → Copy → S → Type 0) → (S → Copy) → Option Copy → List (List ℕ) → Told → S → S → Type 0
Did sends takes copies latest copy memory (told.Sent handle bytes) old new = sends old handle bytes.items new
Did sends takes copies latest copy memory (told.Took handle count) old new = takes old handle count new
Did sends takes copies latest copy memory (told.CopyTo handle count) old new = (copy ≡ Some (latest new)) × copies old memory (latest new) new
Did sends takes copies latest copy memory (told.CopyFrom handle count) old new = (copy ≡ Some (latest new)) × copies old memory (latest new) new
Did sends takes copies latest copy memory _ old new = new ≡ old

-- the handle of an act is of the act's kind
abbrev pub HasHandle : List Kind → Told → Type 0
HasHandle kinds (told.Sent handle bytes) = kind_at kinds handle ≡ Some Channel
HasHandle kinds (told.Took handle count) = kind_at kinds handle ≡ Some Channel
HasHandle kinds (told.Rang handle) = kind_at kinds handle ≡ Some Send
HasHandle kinds (told.Start handle entry load) = kind_at kinds handle ≡ Some Manage
HasHandle kinds (told.Stop handle) = kind_at kinds handle ≡ Some Manage
HasHandle kinds (told.Restart handle) = kind_at kinds handle ≡ Some Manage
HasHandle kinds (told.CopyTo handle count) = kind_at kinds handle ≡ Some Manage
HasHandle kinds (told.CopyFrom handle count) = kind_at kinds handle ≡ Some Manage
HasHandle kinds _ = Unit {0}

-- a Sent has bytes, and no more than a hypercall takes
abbrev pub HasBytes : Told → Type 0
HasBytes (told.Sent handle bytes) = (0 < length bytes.items) × (length bytes.items ≤ 16)
HasBytes _ = Unit {0}

-- a Start has the address of an instruction
abbrev pub HasEntry : Told → Type 0
HasEntry (told.Start handle entry load) = entry % 4 ≡ 0
HasEntry _ = Unit {0}

-- an act that makes no call on the ports: all but what is sent, taken and copied
abbrev pub IsQuiet : Told → Type 0
IsQuiet (told.Sent handle bytes) = ⊥
IsQuiet (told.Took handle count) = ⊥
IsQuiet (told.CopyTo handle count) = ⊥
IsQuiet (told.CopyFrom handle count) = ⊥
IsQuiet _ = Unit {0}

-- What a step owes to the lender of its ports, whose members these are: the one call that its act is, on a handle of the act's kind.
-- Beside a step that copies, the last copy stays.
pub record IsLent {S : Type 0} (kinds : S → List Kind) (ends : S → List End) (sends : S → ℕ → List ℕ → S → Type 0) (takes : S → ℕ → ℕ → S → Type 0) (copies : S → List (List ℕ) → Copy → S → Type 0) (tells : S → ℕ → Option (List Region)) (latest : S → Copy) (copy : Option Copy) (memory : List (List ℕ)) (act : Told) (old new : S) : Type 0 where
  pub bytes : HasBytes act
  pub entry : HasEntry act
  pub handle : HasHandle (kinds old) act
  pub seen : ends new ≡ called (act_of [] act) (ends old)
  pub same : kinds new ≡ kinds old
  pub told : tells new ≡ tells old
  pub last : latest new ≡ unwrap_or copy (latest old)
  pub did : Did sends takes copies latest copy memory act old new

-- What comes of a copy that is allowed: between a memory of the caller's regions and the partition of its handle, whose bytes are fed
-- where it copies out of it.
pub record IsCopied {S : Type 0} (kinds : S → List Kind) (ends : S → List End) (sends : S → ℕ → List ℕ → S → Type 0) (takes : S → ℕ → ℕ → S → Type 0) (copies : S → List (List ℕ) → Copy → S → Type 0) (tells : S → ℕ → Option (List Region)) (latest : S → Copy) (it : Copy) (own : List Region) (feed : List ℕ) (before after : List (List ℕ)) (told_act : Told) (old new : S) : Type 0 where
  pub act : copy_act own before it ≡ act_of (pieces_of own after (latest new)) told_act
  pub total : HasTotal (pieces_of own after (latest new)) told_act
  pub into : it.to_managed ≡ true → own_of (extents_of own) after ≡ own_of (extents_of own) before
  pub from : it.to_managed ≡ false → after ≡ all_put own (copied_in it feed) before
  pub others : KeepsOthers (tells old) own (latest new) told_act before after
  pub sizes : sizes_of after ≡ sizes_of before
  pub lent : IsLent kinds ends sends takes copies tells latest (with_total it) before told_act old new

-- ---- starts and restarts

-- The private bytes of a partition became their first ones, where it is loaded anew; no byte outside them changed.
pub record Reloads (load : Bool) (desc : Desc) (before after : List (List ℕ)) : Type 0 where
  pub own : own_of (extents_of desc.regions) after ≡ (if load then reloaded desc.pieces desc.regions (own_of (extents_of desc.regions) before) else own_of (extents_of desc.regions) before)
  pub others : (extent : ℕ) → is_private_extent desc.regions extent ≡ false → extent_at after extent ≡ extent_at before extent
  pub kept : load ≡ false → after ≡ before
  pub sizes : sizes_of after ≡ sizes_of before
  pub placed : ArePlaced after desc.regions

-- by this act a partition restarts itself
abbrev pub restarts : Act → Bool
restarts SelfRestart = true
restarts _ = false

-- what a partition holds by itself after the act, but for what its core did
abbrev pub inner_after : Desc → Act → Inner → Inner
inner_after desc SelfRestart inner = started_inner desc desc.entry (record inner { steps = inner.steps + 1 })
inner_after desc act inner = record inner { state = state_after act; steps = inner.steps + 1 }

-- ---- events

-- the program's event as it is defined
abbrev pub event_of : Heard → Event
event_of (heard.Bytes handle bytes) = event.Bytes handle bytes.now
event_of (heard.Room handle count) = event.Room handle count
event_of (heard.Ring handle) = event.Ring handle
event_of (heard.Start entry load) = event.Start entry load
event_of heard.Stop = event.Stop
event_of heard.Restart = event.Restart
event_of (heard.CopyIn at bytes) = event.CopyIn (record { at = at; bytes = bytes.now })
event_of (heard.State handle runs) = event.Tells handle runs

-- it starts at the address of an instruction, and writes private bytes
abbrev pub EventFits : Desc → Heard → Type 0
EventFits desc (heard.Start entry load) = entry % 4 ≡ 0
EventFits desc (heard.CopyIn at bytes) = is_private_range desc.regions at (length bytes.now) ≡ true
EventFits desc _ = Unit {0}

-- ---- sent bytes

-- the bytes of a Sent are outstanding
abbrev pub IsOutstanding : Told → List End → Type 0
IsOutstanding (told.Sent handle bytes) ends = length bytes.items ≤ (end_at ends handle).outstanding
IsOutstanding _ ends = Unit {0}

-- a shared region has the extent
abbrev pub is_shared_extent : List Region → ℕ → Bool
is_shared_extent regions extent = list_any (λ (region : Region). not region.private && region.extent == extent) regions
