-- The machines where a manager copied into the memory of a partition.
use Rattle.std.proofs.Common.{◌≡◌, ℕ, ◌-◌, ◌<◌, ◌==◌, Bool, true, false, not, cond, List, [], ◌∷◌, length, length-set, map, slice_set, Some, None, refl, sym, ap, subst, ◌∙◌, arith}
use Rattle.std.specs.Prelude.{slice_get}
use Rattle.std.specs.List.{list_any}
use Rattle.std.proofs.lemmas.Bool.{eqb-true, eqb-false}
use Rattle.std.proofs.lemmas.List.{get_or-set_same, get_or-set_other}
use Rattle.core_step.specs.declared.answer.Wrote.{Wrote}
use Rattle.ground.specs.Extents.{extent_at}
use Rattle.ground.specs.Own.{own_of}
use Rattle.machine_desc.specs.declared.act.Act.{Act as Told}
use Rattle.machine_desc.specs.declared.desc.Desc.{Desc}
use Rattle.machine_desc.specs.declared.desc.Region.{Region}
use Rattle.machine_desc.specs.Sound.{is_sound, are_regions_sound}
use Rattle.machine_desc.proofs.Parts.{sound_regions}
use Rattle.fresh_load.specs.Placed.{extents_of, is_private_extent}
use Rattle.copy_lists.specs.declared.list.SgEntry.{SgEntry}
use Rattle.copy_lists.specs.Moving.{bytes_in, put, copied}
use Rattle.copy_lists.specs.Pieces.{Piece, span_of, with_bytes, targets_of, pieces_out, all_put}
use Rattle.copy_lists.proofs.Putting.{put_none, put_others}
use Rattle.copy_lists.proofs.Pieces.{all_put_others}
use Rattle.partition.specs.declared.kind.Kind.TheVariants as kind
use Rattle.partition.specs.Port.{kind_at, kinds_of as described_kinds}
use Rattle.partition.specs.Regions.{areas_of}
use Rattle.partition.specs.Copying.{Copy, own_regions}
use Rattle.partition.specs.Event.{CopyIn}
use Rattle.partition.specs.Machine.{Machine}
use Rattle.partition.specs.Reservations.{with_copied}
use Rattle.partition.specs.Lending.{Part as Member}
use Rattle.partition.proofs.OwnBytes.{pieces_stay}
use Rattle.partition.proofs.OwnPut.{put_so}
use Rattle.partition.proofs.CopiesIn.{all_copied, none_copied, first_copied}
use Rattle.network.specs.Network.{desc_at}
use Rattle.network.specs.World.{Counts, delivered, after_log}
use Rattle.network.specs.Effects.{copied_into}
use Rattle.system.specs.Board.{Lines, ends_of, no_wire, own_wire, regions_by, told_by, wires_at}
use Rattle.system.specs.System.{Held, no_part, part_at, descs_of, network_of, machine_by, machines_of, IsSystem}
use Rattle.system.specs.Turning.{copied_part}
use Rattle.system.proofs.Tied.{joined_parts, all_at}
use Rattle.system.proofs.Loaded.{own_same}
use Rattle.system.proofs.Fed.{desc_there, descs_long, regions_so}
use Rattle.system.proofs.Shown.{after_shown}
use Rattle.system.proofs.Told.{IsHeard, heard_long, heard_desc}
use Rattle.system.proofs.Acts.{left_by}
use Rattle.system.proofs.Commanded.{IsCommand}
use Rattle.system.proofs.Logged.{after_deliveries, one_more, logged_machines}
use Rattle.system.proofs.Begun.{given_own, given_other, memory_stays, unnamed_private}

-- ---- memory

-- no extent that the one names is private to the other
abbrev pub NamesNone : List Region → List Region → Type 0
NamesNone own regions = (extent : ℕ) → list_any (λ (region : Region). region.extent == extent) own ≡ true → is_private_extent regions extent ≡ false

put_own : (own regions : List Region) (memory : List (List ℕ)) (at : ℕ) (bytes : List ℕ) → NamesNone own regions → own_of (extents_of own) (put regions memory at bytes) ≡ own_of (extents_of own) memory
put_own own regions memory at bytes none = own_same own memory (put regions memory at bytes) (λ extent named. put_others regions memory at bytes extent (none extent named))

abbrev piece_out : List Region → List (List ℕ) → SgEntry → Piece
piece_out own memory entry = record { at = entry.target; bytes = bytes_in own memory entry.source entry.size }

-- a copy is what goes out, put there
pub copied_put : (own regions : List Region) (memory : List (List ℕ)) (entries : List SgEntry) → NamesNone own regions → copied own regions entries memory ≡ all_put regions (pieces_out own memory entries) memory
copied_put own regions memory [] none = refl
copied_put own regions memory (entry ∷ entries) none =
    let bytes : List ℕ = bytes_in own memory entry.source entry.size in
    let after : List (List ℕ) = put regions memory entry.target bytes in
    copied_put own regions after entries none
    ∙ (ap (λ (pieces : List Piece). all_put regions pieces after) (pieces_stay own after memory entries (put_own own regions memory entry.target bytes none)) ∙ by_size (entry.size == 0) refl)
  where
    by_size : (b : Bool) → (entry.size == 0) ≡ b
        → all_put regions (pieces_out own memory entries) (put regions memory entry.target (bytes_in own memory entry.source entry.size))
        ≡ all_put regions (map (piece_out own memory) (cond (not b) (entry ∷ with_bytes entries) (with_bytes entries))) memory
    by_size true none_there =
        ap (λ (n : ℕ). all_put regions (pieces_out own memory entries) (put regions memory entry.target (bytes_in own memory entry.source n))) (eqb-true entry.size 0 none_there)
        ∙ ap (all_put regions (pieces_out own memory entries)) (put_none regions memory entry.target)
    by_size false some = refl

-- and the caller's own stays
pub copied_own : (own regions : List Region) (memory : List (List ℕ)) (entries : List SgEntry) → NamesNone own regions → own_of (extents_of own) (copied own regions entries memory) ≡ own_of (extents_of own) memory
copied_own own regions memory entries none =
    own_same own memory (copied own regions entries memory)
    (λ extent named. ap (λ (m : List (List ℕ)). extent_at m extent) (copied_put own regions memory entries none) ∙ all_put_others regions (pieces_out own memory entries) memory extent (none extent named))

-- so it is of two partitions
pub names_none : (held : Held) (part other : ℕ) → IsSystem held → part < length held.parts → other < length held.parts → (other ≡ part → ⊥)
    → NamesNone (part_at held.parts other).desc.regions (part_at held.parts part).desc.regions
names_none held part other kept here there ne extent named = unnamed_private held part other extent kept here there ne named

-- what the board tells of a handle that manages
pub told_managed : (held : Held) (handle : ℕ) → IsSystem held → held.lines.who < length held.parts → kind_at (described_kinds (part_at held.parts held.lines.who).desc.ports) handle ≡ Some kind.Manage → (it : IsCommand held handle)
    → told_by held.lines handle ≡ Some (part_at held.parts it.managed).desc.regions
told_managed held handle kept here sort it = by_zero (handle == 0) refl
  where
    by_zero : (b : Bool) → (handle == 0) ≡ b → told_by held.lines handle ≡ Some (part_at held.parts it.managed).desc.regions
    by_zero true e =
        absurd (let none : None ≡ Some kind.Manage = sym (ap (λ (b : Bool). cond b None (slice_get (described_kinds (part_at held.parts held.lines.who).desc.ports) (handle - 1))) e) ∙ sort in cc)
    by_zero false e =
        ap (λ (b : Bool). regions_by held.lines.maps (cond b no_wire (own_wire held.lines handle))) e
        ∙ (ap (regions_by held.lines.maps) it.wire ∙ ap (λ (regions : List Region). Some regions) (regions_so held it.managed kept it.below))

-- ---- events

copies_given : (desc : Desc) (part : ℕ) (pieces : List Piece) (machine : Machine) → after_deliveries desc part (map (copied_into part) pieces) machine ≡ all_copied desc pieces machine
copies_given desc part [] machine = sym (none_copied desc machine)
copies_given desc part (piece ∷ pieces) machine =
    one_more desc part (copied_into part piece) (map (copied_into part) pieces) machine
    ∙ (ap (after_deliveries desc part (map (copied_into part) pieces)) (given_own desc part (CopyIn piece) machine)
    ∙ (copies_given desc part pieces _ ∙ first_copied desc piece pieces machine))

copies_elsewhere : (desc : Desc) (target part : ℕ) (pieces : List Piece) (machine : Machine) → (target ≡ part → ⊥) → after_deliveries desc part (map (copied_into target) pieces) machine ≡ machine
copies_elsewhere desc target part [] machine ne = refl
copies_elsewhere desc target part (piece ∷ pieces) machine ne =
    one_more desc part (copied_into target piece) (map (copied_into target) pieces) machine
    ∙ (ap (after_deliveries desc part (map (copied_into target) pieces)) (given_other desc target part (CopyIn piece) machine ne)
    ∙ copies_elsewhere desc target part pieces machine ne)

-- ---- machines

-- the managed partition, once the memory was written and its reservations are lost
managed_copied : (desc : Desc) (own : Member) (entries : List SgEntry) (pieces : List Piece) (lines : Lines) (memory : List (List ℕ)) (part : ℕ) → desc ≡ own.desc → are_regions_sound own.desc.regions ≡ true → map span_of pieces ≡ targets_of entries
    → machine_by (copied_part entries own) lines (all_put own.desc.regions pieces memory) part ≡ all_copied desc pieces (machine_by own lines memory part)
managed_copied desc own entries pieces lines memory part same sound spans =
    ap (λ (m : List (List ℕ)). let it : Machine = record { inner = (copied_part entries own).inner; ports = ends_of lines.channels lines.running (wires_at lines.wires part); memory = m } in it) (put_so own.desc.regions pieces memory sound)
    ∙ (ap
    (λ (ranges : List _).
    let it : Machine = record {
      inner = record own.inner { cores = map (with_copied ranges) own.inner.cores };
      ports = ends_of lines.channels lines.running (wires_at lines.wires part);
      memory = all_put (own_regions (areas_of own.desc.regions)) pieces (own_of (extents_of own.desc.regions) memory);
    } in
    it) (sym spans)
    ∙ ap (λ (d : Desc). all_copied d pieces (machine_by own lines memory part)) (sym same))

pub copied_machines : (held : Held) (stepped heard rung : List Member) (memory loaded : List (List ℕ)) (lines left : Lines) (core : ℕ) (act : Told) (ranges : List Wrote) (counts : List Counts) (handle : ℕ) (last : Copy) (pieces : List Piece)
    → IsHeard held stepped heard memory lines core act ranges → (it : IsCommand held handle) → lines ≡ record held.lines { last = last } → left ≡ lines
    → rung ≡ slice_set heard it.managed (copied_part last.entries (part_at heard it.managed))
    → loaded ≡ all_put (part_at held.parts it.managed).desc.regions pieces memory → map span_of pieces ≡ targets_of last.entries
    → machines_of (left_by held rung loaded left counts)
    ≡ after_log (network_of held) (map delivered (map (copied_into it.managed) pieces)) (after_shown (network_of held) (machines_of held) held.lines.who core)
copied_machines held stepped heard rung memory loaded lines left core act ranges counts handle last pieces h it same l r put_there spans =
    logged_machines held stepped heard rung memory loaded lines left core act ranges counts (map delivered (map (copied_into managed) pieces)) h
    (ap length r ∙ (length-set heard managed (copied_part last.entries (part_at heard managed)) ∙ heard_long held stepped heard memory lines core act ranges h))
    (ap (λ (ls : Lines). machine_by (part_at rung who) ls loaded who) l ∙ away lines who h.is.who (λ e. it.apart (sym e)))
    (λ part there ne. ap (λ (ls : Lines). machine_by (part_at rung part) ls loaded part) (l ∙ same) ∙ by_part part there (part == managed) refl)
  where
    who : ℕ
    who = held.lines.who

    managed : ℕ
    managed = it.managed

    regions : List Region
    regions = (part_at held.parts it.managed).desc.regions

    desc_of : (part : ℕ) → part < length held.parts → (part_at heard part).desc ≡ (part_at held.parts part).desc
    desc_of part there = heard_desc held stepped heard memory lines core act ranges part h there

    others : (extent : ℕ) → is_private_extent regions extent ≡ false → extent_at loaded extent ≡ extent_at memory extent
    others extent e = ap (λ (m : List (List ℕ)). extent_at m extent) put_there ∙ all_put_others regions pieces memory extent e

    bytes : (part : ℕ) → part < length held.parts → (part ≡ it.managed → ⊥) → own_of (extents_of (part_at heard part).desc.regions) loaded ≡ own_of (extents_of (part_at heard part).desc.regions) memory
    bytes part there ne =
        subst (λ (d : Desc). own_of (extents_of d.regions) loaded ≡ own_of (extents_of d.regions) memory) (sym (desc_of part there)) (memory_stays held memory loaded it.managed part h.is.kept it.below there ne others)

    away : (ls : Lines) (part : ℕ) → part < length held.parts → (part ≡ it.managed → ⊥)
        → machine_by (part_at rung part) ls loaded part ≡ after_deliveries (desc_at (network_of held) part) part (map (copied_into it.managed) pieces) (machine_by (part_at heard part) ls memory part)
    away ls part there ne =
        ap (λ (p : Member). machine_by p ls loaded part) (ap (λ (ps : List Member). part_at ps part) r ∙ get_or-set_other heard it.managed part (copied_part last.entries (part_at heard it.managed)) no_part ne)
        ∙ (ap (λ (m : List (List ℕ)). let machine : Machine = record { inner = (part_at heard part).inner; ports = ends_of ls.channels ls.running (wires_at ls.wires part); memory = m } in machine) (bytes part there ne)
        ∙ sym (copies_elsewhere (desc_at (network_of held) part) it.managed part pieces (machine_by (part_at heard part) ls memory part) (λ e. ne (sym e))))

    sound : are_regions_sound (part_at heard it.managed).desc.regions ≡ true
    sound =
        let long = descs_long held in
        let below = it.below in
        let joins = joined_parts (descs_of held.parts) held.wiring h.is.kept.joined in
        let all = all_at is_sound (descs_of held.parts) it.managed _ joins.sound (omega (arith, below, long)) in
        subst (λ (d : Desc). are_regions_sound d.regions ≡ true) (sym (desc_of it.managed it.below)) (subst (λ (d : Desc). are_regions_sound d.regions ≡ true) (desc_there held it.managed it.below) (sound_regions _ all))

    at_managed : machine_by (part_at rung it.managed) held.lines loaded it.managed
        ≡ after_deliveries (desc_at (network_of held) it.managed) it.managed (map (copied_into it.managed) pieces) (machine_by (part_at heard it.managed) held.lines memory it.managed)
    at_managed =
        let long = heard_long held stepped heard memory lines core act ranges h in
        let below = it.below in
        let own : Member = part_at heard it.managed in
        ap (λ (p : Member). machine_by p held.lines loaded it.managed)
        (ap (λ (ps : List Member). part_at ps it.managed) r ∙ get_or-set_same heard it.managed (copied_part last.entries own) no_part (omega (arith, below, long)))
        ∙ (ap (λ (m : List (List ℕ)). machine_by (copied_part last.entries own) held.lines m it.managed) (put_there ∙ ap (λ (d : Desc). all_put d.regions pieces memory) (sym (desc_of it.managed it.below)))
        ∙ (managed_copied (desc_at (network_of held) it.managed) own last.entries pieces held.lines memory it.managed (desc_there held it.managed it.below ∙ sym (desc_of it.managed it.below)) sound spans
        ∙ sym (copies_given (desc_at (network_of held) it.managed) it.managed pieces (machine_by own held.lines memory it.managed))))

    by_part : (part : ℕ) → part < length held.parts → (b : Bool) → (part == it.managed) ≡ b
        → machine_by (part_at rung part) held.lines loaded part ≡ after_deliveries (desc_at (network_of held) part) part (map (copied_into it.managed) pieces) (machine_by (part_at heard part) held.lines memory part)
    by_part part there false e = away held.lines part there (eqb-false part it.managed e)
    by_part part there true e =
        subst
        (λ (n : ℕ). machine_by (part_at rung n) held.lines loaded n ≡ after_deliveries (desc_at (network_of held) n) n (map (copied_into it.managed) pieces) (machine_by (part_at heard n) held.lines memory n))
        (sym (eqb-true part it.managed e)) at_managed
