-- What a step does to the board.
use Rattle.std.proofs.Common.{◌≡◌, ℕ, List, [], ◌∷◌, slice_set, Option, Some, None, refl, sym, ap, subst, ◌∙◌}
use Rattle.core_step.specs.declared.answer.Wrote.{Wrote}
use Rattle.machine_desc.specs.declared.act.Act.{Act as Told}
use Rattle.machine_desc.specs.declared.act.Act.TheVariants as told
use Rattle.machine_desc.specs.declared.desc.Region.{Region}
use Rattle.machine_desc.specs.declared.wiring.Wiring.{Wiring}
use Rattle.fresh_load.specs.Placed.{sizes_of}
use Rattle.copy_lists.specs.declared.list.SgEntry.{SgEntry}
use Rattle.copy_lists.specs.Moving.{bytes_in, copied}
use Rattle.copy_lists.proofs.Putting.{put_sizes}
use Rattle.partition.specs.Copying.{Copy}
use Rattle.partition.specs.Lending.{Part as Member, Did, written_into}
use Rattle.network.specs.World.{Counts}
use Rattle.system.specs.Board.{Lines, Copies, Sends, Takes, last_of, managed_by, own_wire, told_by}
use Rattle.system.specs.System.{part_at}
use Rattle.system.specs.Turning.{AfterStep, Settles, copied_part, with_copy}

-- it sends, takes or notes a copy
abbrev pub Gives : Told → Lines → Lines → Type 0
Gives (told.Sent handle bytes) old new = Sends old handle bytes.items new
Gives (told.Took handle count) old new = Takes old handle count new
Gives (told.CopyTo handle count) old new = new ≡ record old { last = new.last }
Gives (told.CopyFrom handle count) old new = new ≡ record old { last = new.last }
Gives _ old new = new ≡ old

pub gives : (act : Told) (copy : Option Copy) (memory : List (List ℕ)) (old new : Lines) → Did Sends Takes Copies last_of copy memory act old new → Gives act old new
gives (told.Sent handle bytes) copy memory old new did = did
gives (told.Took handle count) copy memory old new did = did
gives (told.CopyTo handle count) copy memory old new did = did.1
gives (told.CopyFrom handle count) copy memory old new did = did.1
gives _ copy memory old new did = did

pub step_gives : (before after : List Member) (old_memory new_memory : List (List ℕ)) (old new : Lines) (core : ℕ) (act : Told) (ranges : List Wrote) → AfterStep before after old_memory new_memory old new core act ranges → Gives act old new
step_gives before after old_memory new_memory old new core act ranges step = gives act _ old_memory old new step.did

-- What settling an act leaves, by the memory before what was copied into another partition.
abbrev pub Arrives : Wiring → ℕ → Told → List Member → List Member → List (List ℕ) → List (List ℕ) → Lines → Lines → List Counts → List Counts → Type 0
Arrives wiring who (told.CopyTo handle count) parts rung memory loaded lines left counts new =
    (rung ≡ slice_set parts (managed_by (own_wire lines handle)) (copied_part lines.last.entries (part_at parts (managed_by (own_wire lines handle)))))
    × (left ≡ lines) × (new ≡ counts) × (loaded ≡ written_into (told_by lines handle) (part_at parts who).desc.regions lines.last.entries memory)
Arrives wiring who act parts rung memory loaded lines left counts new = Settles wiring who act parts rung memory loaded lines left counts new

pub arrives : (wiring : Wiring) (who : ℕ) (act : Told) (parts rung : List Member) (memory copied loaded : List (List ℕ)) (old lines left : Lines) (own : List Region) (counts new : List Counts) → Gives act old lines
    → own ≡ (part_at parts who).desc.regions → copied ≡ with_copy old own lines.last act memory → Settles wiring who act parts rung copied loaded lines left counts new
    → Arrives wiring who act parts rung memory loaded lines left counts new
arrives wiring who (told.CopyTo handle count) parts rung memory copied loaded old lines left own counts new did same e s = (
  s.0,
  s.1,
  s.2,
  s.3 ∙ (e ∙ (ap (λ (tells : Option (List Region)). written_into tells own lines.last.entries memory) (sym (ap (λ (ls : Lines). told_by ls handle) did)) ∙ ap (λ (regions : List Region). written_into (told_by lines handle) regions lines.last.entries memory) same)),
)
arrives wiring who act parts rung memory copied loaded old lines left own counts new did same e s = subst (λ (m : List (List ℕ)). Settles wiring who act parts rung m loaded lines left counts new) e s

-- no extent's size changes by a copy
copied_sizes : (from to : List Region) (entries : List SgEntry) (memory : List (List ℕ)) → sizes_of (copied from to entries memory) ≡ sizes_of memory
copied_sizes from to [] memory = refl
copied_sizes from to (entry ∷ entries) memory = copied_sizes from to entries _ ∙ put_sizes to memory entry.target (bytes_in from memory entry.source entry.size)

pub written_sizes : (tells : Option (List Region)) (own : List Region) (entries : List SgEntry) (memory : List (List ℕ)) → sizes_of (written_into tells own entries memory) ≡ sizes_of memory
written_sizes None own entries memory = refl
written_sizes (Some regions) own entries memory = copied_sizes own regions entries memory

pub with_copy_sizes : (lines : Lines) (own : List Region) (last : Copy) (act : Told) (memory : List (List ℕ)) → sizes_of (with_copy lines own last act memory) ≡ sizes_of memory
with_copy_sizes lines own last (told.CopyTo handle count) memory = written_sizes (told_by lines handle) own last.entries memory
with_copy_sizes lines own last _ memory = refl
