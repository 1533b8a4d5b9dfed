-- Machines once one of them did a step and the others saw what it stored.
use Rattle.std.proofs.Common.{◌≡◌, ℕ, ◌+◌, ◌<◌, ◌≤◌, ◌==◌, Bool, true, false, ◌&&◌, ◌||◌, if◌then◌else◌, List, [], ◌∷◌, ◌++◌, length, map, refl, sym, ap, subst, ◌∙◌, arith, length-set}
use Rattle.std.specs.List.{list_any}
use Rattle.std.proofs.lemmas.Bool.{or_left, or_right, eqb-true, eqb-false, eq-eqb}
use Rattle.std.proofs.lemmas.List.{length-map, get_or-set_same, get_or-set_other}
use Rattle.core_step.specs.declared.answer.Wrote.{Wrote}
use Rattle.core_step.specs.Laws.{range_in}
use Rattle.ground.specs.Extents.{extent_at}
use Rattle.ground.specs.Own.{own_of, KeepsForeign}
use Rattle.machine_desc.specs.declared.act.Act.{Act as Told}
use Rattle.machine_desc.specs.declared.desc.Desc.{Desc}
use Rattle.machine_desc.specs.declared.desc.Region.{Region}
use Rattle.machine_desc.specs.Joined.{names_extent}
use Rattle.copy_lists.specs.Pieces.{Piece}
use Rattle.fresh_load.specs.Placed.{extents_of, is_private_extent}
use Rattle.partition.specs.Port.{End}
use Rattle.partition.specs.Act.{act_of, settled}
use Rattle.partition.specs.Machine.{Machine, fresh}
use Rattle.partition.specs.Asking.{Asked, asks}
use Rattle.partition.specs.Step.{Stepped, step}
use Rattle.partition.specs.Reached.{Steps}
use Rattle.partition.specs.Lending.{Part, IsStepped, machine_of, pieces_of}
use Rattle.network.specs.Network.{Network, no_desc, desc_at}
use Rattle.network.specs.Change.{Change, Moves, Shared, bytes_of, seen, changed, after_changes}
use Rattle.network.specs.World.{Entry, entry_for, machine_at, after_entry, after_log, changes_of}
use Rattle.network.specs.Effects.{shown_from, shown}
use Rattle.network.specs.Turn.{fed, feed_for, done_by}
use Rattle.network.proofs.Logs.{follows_changes}
use Rattle.system.specs.Board.{Lines, fed_by, own_ends, ends_of, wires_at}
use Rattle.system.specs.System.{Held, part_at, descs_of, network_of, machine_by, machine_in, machines_of, IsSystem}
use Rattle.system.specs.Turning.{AfterStep, kept_part}
use Rattle.system.proofs.Opened.{machine_there, machines_length}
use Rattle.system.proofs.Loaded.{private_apart}
use Rattle.system.proofs.Fed.{desc_there, fed_so, unnamed_foreign}

-- ---- who sees it

seen_by_if : (part : ℕ) (b : Bool) (entry : Entry) (log : List Entry) → (entry.part == part) ≡ false → changes_of part ((if b then [] else entry ∷ []) ++ log) ≡ changes_of part log
seen_by_if part true entry log e = refl
seen_by_if part false entry log e = rw e refl

shown_before : (part first stepping : ℕ) (descs : List Desc) (regions : List Region) (memory : List (List ℕ)) (stored : List Wrote) → part < first → changes_of part (shown_from first descs stepping regions memory stored) ≡ []
shown_before part first stepping [] regions memory stored h = refl
shown_before part first stepping (desc ∷ descs) regions memory stored h =
    seen_by_if part (first == stepping) (entry_for first (Shared regions memory stored)) (shown_from (first + 1) descs stepping regions memory stored) (not_same (first == part) refl)
    ∙ shown_before part (first + 1) stepping descs regions memory stored (omega (arith, h))
  where
    not_same : (b : Bool) → (first == part) ≡ b → (first == part) ≡ false
    not_same false e = e
    not_same true e = let q = eqb-true first part e in absurd (omega (arith, q, h))

-- it sees nothing of its own
shown_own : (part first : ℕ) (descs : List Desc) (regions : List Region) (memory : List (List ℕ)) (stored : List Wrote) → changes_of part (shown_from first descs part regions memory stored) ≡ []
shown_own part first [] regions memory stored = refl
shown_own part first (desc ∷ descs) regions memory stored = by_place (first == part) refl ∙ shown_own part (first + 1) descs regions memory stored
  where
    by_place : (b : Bool) → (first == part) ≡ b
        → changes_of part ((if (first == part) then [] else entry_for first (Shared regions memory stored) ∷ []) ++ shown_from (first + 1) descs part regions memory stored)
        ≡ changes_of part (shown_from (first + 1) descs part regions memory stored)
    by_place true e = rw e refl
    by_place false e = rw (e, e) refl

-- each other sees it once
shown_other : (part first stepping : ℕ) (descs : List Desc) (regions : List Region) (memory : List (List ℕ)) (stored : List Wrote) → first ≤ part → part < first + length descs → (part ≡ stepping → ⊥)
    → changes_of part (shown_from first descs stepping regions memory stored) ≡ Shared regions memory stored ∷ []
shown_other part first stepping [] regions memory stored low high ne = absurd (omega (arith, low, high))
shown_other part first stepping (desc ∷ descs) regions memory stored low high ne = by_place (first == part) refl (shown_other part (first + 1) stepping descs regions memory stored)
  where
    here : Change
    here = Shared regions memory stored

    log : List Entry
    log = shown_from (first + 1) descs stepping regions memory stored

    not_it : (b : Bool) → (first == stepping) ≡ b → first ≡ part → (first == stepping) ≡ false
    not_it false e same = e
    not_it true e same = absurd (ne (sym same ∙ eqb-true first stepping e))

    by_place : (b : Bool) → (first == part) ≡ b → (first + 1 ≤ part → part < (first + 1) + length descs → (part ≡ stepping → ⊥) → changes_of part log ≡ here ∷ [])
        → changes_of part ((if (first == stepping) then [] else entry_for first here ∷ []) ++ log) ≡ here ∷ []
    by_place true e rest =
        let same = eqb-true first part e in
        ap (λ (b : Bool). changes_of part ((if b then [] else entry_for first here ∷ []) ++ log)) (not_it (first == stepping) refl same)
        ∙ (ap (λ (b : Bool). if b then here ∷ changes_of part log else changes_of part log) e
        ∙ ap (λ (l : List Change). here ∷ l) (shown_before part (first + 1) stepping descs regions memory stored (omega (arith, same))))
    by_place false e rest =
        let apart = eqb-false first part e in
        seen_by_if part (first == stepping) (entry_for first here) log e ∙ rest (omega (arith, low, apart)) (omega (arith, high)) ne

-- ---- what it sees

bytes_are : (regions : List Region) (memory : List (List ℕ)) (extent : ℕ) (old : List ℕ) → (list_any (λ (region : Region). region.extent == extent) regions ≡ false → extent_at memory extent ≡ old)
    → bytes_of regions (own_of (extents_of regions) memory) extent old ≡ extent_at memory extent
bytes_are [] memory extent old h = sym (h refl)
bytes_are (region ∷ regions) memory extent old h = by_place (region.extent == extent) refl (bytes_are regions memory extent old)
  where
    by_place : (b : Bool) → (region.extent == extent) ≡ b
        → ((list_any (λ (it : Region). it.extent == extent) regions ≡ false → extent_at memory extent ≡ old) → bytes_of regions (own_of (extents_of regions) memory) extent old ≡ extent_at memory extent)
        → (if region.extent == extent then extent_at memory region.extent else bytes_of regions (own_of (extents_of regions) memory) extent old) ≡ extent_at memory extent
    by_place true e rest =
        ap (λ (b : Bool). if b then extent_at memory region.extent else bytes_of regions (own_of (extents_of regions) memory) extent old) e ∙ ap (extent_at memory) (eqb-true region.extent extent e)
    by_place false e rest =
        ap (λ (b : Bool). if b then extent_at memory region.extent else bytes_of regions (own_of (extents_of regions) memory) extent old) e
        ∙ rest (λ k. h (ap (λ (b : Bool). b || list_any (λ (it : Region). it.extent == extent) regions) e ∙ k))

-- another partition's memory afterwards
seen_is : (regions : List Region) (before after : List (List ℕ)) (owns : List Region) → ((extent : ℕ) → list_any (λ (region : Region). region.extent == extent) regions ≡ false → extent_at after extent ≡ extent_at before extent)
    → ((extent : ℕ) → is_private_extent owns extent ≡ true → extent_at after extent ≡ extent_at before extent)
    → seen regions (own_of (extents_of regions) after) owns (own_of (extents_of owns) before) ≡ own_of (extents_of owns) after
seen_is regions before after [] foreign private = refl
seen_is regions before after (own ∷ owns) foreign private =
    let head = by_private own.private refl in
    let tail : seen regions (own_of (extents_of regions) after) owns (own_of (extents_of owns) before) ≡ own_of (extents_of owns) after =
    seen_is regions before after owns foreign (λ extent k. private extent (or_right (own.private && own.extent == extent) (is_private_extent owns extent) k)) in
    ap (λ (bytes : List ℕ). bytes ∷ seen regions (own_of (extents_of regions) after) owns (own_of (extents_of owns) before)) head ∙ ap (λ (l : List (List ℕ)). extent_at after own.extent ∷ l) tail
  where
    by_private : (b : Bool) → own.private ≡ b
        → (if own.private then extent_at before own.extent else bytes_of regions (own_of (extents_of regions) after) own.extent (extent_at before own.extent)) ≡ extent_at after own.extent
    by_private true e =
        ap (λ (b : Bool). if b then extent_at before own.extent else bytes_of regions (own_of (extents_of regions) after) own.extent (extent_at before own.extent)) e
        ∙ sym (private own.extent
        (or_left (own.private && own.extent == own.extent) (is_private_extent owns own.extent) (rw (e, eq-eqb own.extent own.extent refl) refl)))
    by_private false e =
        ap (λ (b : Bool). if b then extent_at before own.extent else bytes_of regions (own_of (extents_of regions) after) own.extent (extent_at before own.extent)) e
        ∙ bytes_are regions after own.extent (extent_at before own.extent) (foreign own.extent)

-- ---- machines

beside_is : (own : Part) (ends : List End) (regions : List Region) (before after memory : List (List ℕ)) (stored : List Wrote)
    → seen regions memory own.desc.regions (own_of (extents_of own.desc.regions) before) ≡ own_of (extents_of own.desc.regions) after
    → changed own.desc (Shared regions memory stored) (machine_of own ends before) ≡ machine_of (kept_part stored own) ends after
unfolding changed
beside_is own ends regions before after memory stored h =
    ap (λ (l : List (List ℕ)). let it : Machine = record { inner = (kept_part stored own).inner; ports = ends; memory = l } in it) h

-- ---- the step, and what others saw of it

-- the machines afterwards
abbrev pub after_shown : Network → List Machine → ℕ → ℕ → List Machine
after_shown network machines part core =
    after_log network (shown network part (done_by network machines part core))
    (after_entry network (entry_for part (Moves (Steps core (feed_for network machines part core)))) machines)

-- a step of a core, with what it copies out of another partition
abbrev pub stepping : Held → ℕ → ℕ → Change
stepping held part core = Moves (Steps core (feed_for (network_of held) (machines_of held) part core))

-- the system before a step, its parts afterwards, and the board that shows the stepping one its ends as the act leaves them
pub record IsStep (held : Held) (parts : List Part) (memory : List (List ℕ)) (lines : Lines) (core : ℕ) (act : Told) (ranges : List Wrote) : Type 0 where
  pub kept : IsSystem held
  pub who : held.lines.who < length held.parts
  -- the board as the step gave it back
  pub lent : Lines
  pub step : AfterStep held.parts parts held.memory memory held.lines lent core act ranges
  pub shows : machine_of (part_at parts held.lines.who) (settled (act_of [] act) (own_ends lent)) memory ≡ machine_by (part_at parts held.lines.who) lines memory held.lines.who

-- the step's pieces, if it copies into another partition
abbrev pub pieces_by : Held → List (List ℕ) → Lines → List Piece
pieces_by held memory lent = pieces_of (part_at held.parts held.lines.who).desc.regions memory lent.last

-- what the board feeds to a step
abbrev fed_in : Held → Asked → List ℕ
fed_in held asked = fed_by held.lines held.memory asked.handle asked.ranges

done_is : (held : Held) (core : ℕ) → IsSystem held → held.lines.who < length held.parts
    → done_by (network_of held) (machines_of held) held.lines.who core
    ≡ step (part_at held.parts held.lines.who).desc (machine_in held held.lines.who) core (fed_in held (asks (part_at held.parts held.lines.who).desc (machine_in held held.lines.who) core))
done_is held core kept there =
    let who : ℕ = held.lines.who in
    let desc : Desc = (part_at held.parts who).desc in
    ap (λ (d : Desc). step d (machine_at (machines_of held) who) core (fed (network_of held) (machines_of held) (asks d (machine_at (machines_of held) who) core))) (desc_there held who there)
    ∙ (ap (λ (m : Machine). step desc m core (fed (network_of held) (machines_of held) (asks desc m core))) (machine_there held who (fresh no_desc) there)
    ∙ ap (step desc (machine_in held who) core) (fed_so held (machine_in held who) core kept there))

pub stepped_so : (held : Held) (parts : List Part) (memory : List (List ℕ)) (lines : Lines) (core : ℕ) (act : Told) (ranges : List Wrote)
    → (is : IsStep held parts memory lines core act ranges)
    → IsStepped (extents_of (part_at held.parts held.lines.who).desc.regions) (pieces_by held memory is.lent) (done_by (network_of held) (machines_of held) held.lines.who core) (machine_by (part_at parts held.lines.who) lines memory held.lines.who) act ranges
stepped_so held parts memory lines core act ranges is =
    let who : ℕ = held.lines.who in
    subst (λ (done : Stepped). IsStepped (extents_of (part_at held.parts who).desc.regions) (pieces_by held memory is.lent) done (machine_by (part_at parts who) lines memory who) act ranges) (sym (done_is held core is.kept is.who))
    (
    subst
    (λ (left : Machine).
    IsStepped (extents_of (part_at held.parts who).desc.regions) (pieces_by held memory is.lent)
    (step (part_at held.parts who).desc (machine_in held who) core (fed_in held (asks (part_at held.parts who).desc (machine_in held who) core))) left act ranges) is.shows
    is.step.stepped
    )

shown_is : (held : Held) (parts : List Part) (memory : List (List ℕ)) (lines : Lines) (core : ℕ) (act : Told) (ranges : List Wrote) → IsStep held parts memory lines core act ranges
    → shown (network_of held) held.lines.who (done_by (network_of held) (machines_of held) held.lines.who core)
    ≡ shown_from 0 (descs_of held.parts) held.lines.who (part_at held.parts held.lines.who).desc.regions (own_of (extents_of (part_at held.parts held.lines.who).desc.regions) memory) ranges
unfolding shown
shown_is held parts memory lines core act ranges is =
    let who : ℕ = held.lines.who in
    let descs : List Desc = descs_of held.parts in
    let done : Stepped = done_by (network_of held) (machines_of held) who core in
    let so = stepped_so held parts memory lines core act ranges is in
    let regions : List Region = (part_at held.parts who).desc.regions in
    ap (λ (d : Desc). shown_from 0 descs who d.regions done.after.memory (map (range_in (extents_of d.regions)) done.stored)) (desc_there held who is.who)
    ∙ (ap (λ (m : List (List ℕ)). shown_from 0 descs who regions m (map (range_in (extents_of regions)) done.stored))
    (ap (λ (m : Machine). m.memory) so.after ∙ ap (λ (d : Desc). own_of (extents_of d.regions) memory) is.step.desc)
    ∙ ap (λ (l : List Wrote). shown_from 0 descs who regions (own_of (extents_of regions) memory) l) (sym so.shared))

pub first_long : (held : Held) (part : ℕ) (change : Change) → length (after_entry (network_of held) (entry_for part change) (machines_of held)) ≡ length held.parts
first_long held part change = length-set (machines_of held) part _ ∙ machines_length held

own_first : (held : Held) (part core : ℕ) → part < length held.parts
    → machine_at (after_entry (network_of held) (entry_for part (stepping held part core)) (machines_of held)) part ≡ (done_by (network_of held) (machines_of held) part core).after
unfolding changed
own_first held part core there = get_or-set_same (machines_of held) part _ (fresh no_desc) (let long = machines_length held in omega (arith, long, there))

-- the stepping partition's machine
pub own_shown : (held : Held) (parts : List Part) (memory : List (List ℕ)) (lines : Lines) (core : ℕ) (act : Told) (ranges : List Wrote) → IsStep held parts memory lines core act ranges
    → machine_at (after_shown (network_of held) (machines_of held) held.lines.who core) held.lines.who ≡ machine_by (part_at parts held.lines.who) lines memory held.lines.who
own_shown held parts memory lines core act ranges is =
    let who : ℕ = held.lines.who in
    let network : Network = network_of held in
    let regions : List Region = (part_at held.parts who).desc.regions in
    let first : List Machine = after_entry network (entry_for who (stepping held who core)) (machines_of held) in
    let log : List Entry = shown network who (done_by network (machines_of held) who core) in
    let long = first_long held who (stepping held who core) in
    let below = is.who in
    let each = follows_changes network who log first (omega (arith, long, below)) in
    let none : changes_of who log ≡ [] = ap (changes_of who) (shown_is held parts memory lines core act ranges is) ∙ shown_own who 0 (descs_of held.parts) regions (own_of (extents_of regions) memory) ranges in
    each.machine
    ∙ (ap (λ (changes : List Change). after_changes (desc_at network who) changes (machine_at first who)) none
    ∙ (own_first held who core is.who ∙ (stepped_so held parts memory lines core act ranges is).after))

-- an extent that another partition has for itself stays
private_stays : (held : Held) (memory : List (List ℕ)) (part who extent : ℕ) → IsSystem held → part < length held.parts → who < length held.parts → (part ≡ who → ⊥)
    → KeepsForeign (extents_of (part_at held.parts who).desc.regions) held.memory memory → is_private_extent (part_at held.parts part).desc.regions extent ≡ true
    → extent_at memory extent ≡ extent_at held.memory extent
private_stays held memory part who extent kept there who_there ne others h =
    others extent (unnamed_foreign (part_at held.parts who).desc.regions extent (by_case (list_any (λ (region : Region). region.extent == extent) (part_at held.parts who).desc.regions) refl))
  where
    by_case : (b : Bool) → list_any (λ (region : Region). region.extent == extent) (part_at held.parts who).desc.regions ≡ b
        → list_any (λ (region : Region). region.extent == extent) (part_at held.parts who).desc.regions ≡ false
    by_case false e = e
    by_case true e =
        let long : length (descs_of held.parts) ≡ length held.parts = length-map held.parts (λ (p : Part). p.desc) in
        absurd
        (ne
        (private_apart (descs_of held.parts) held.wiring part who extent kept.joined (omega (arith, long, there)) (omega (arith, long, who_there))
        (subst (λ (d : Desc). is_private_extent d.regions extent ≡ true) (sym (desc_there held part there)) h)
        (subst (λ (d : Desc). names_extent extent d ≡ true) (sym (desc_there held who who_there)) e)))

-- and each other one's
pub other_shown : (held : Held) (parts : List Part) (memory : List (List ℕ)) (lines : Lines) (core : ℕ) (act : Told) (ranges : List Wrote) (part : ℕ) → IsStep held parts memory lines core act ranges
    → part < length held.parts → (part ≡ held.lines.who → ⊥)
    → machine_at (after_shown (network_of held) (machines_of held) held.lines.who core) part ≡ machine_by (kept_part ranges (part_at held.parts part)) held.lines memory part
other_shown held parts memory lines core act ranges part is there ne =
    let who : ℕ = held.lines.who in
    let network : Network = network_of held in
    let regions : List Region = (part_at held.parts who).desc.regions in
    let left : List (List ℕ) = own_of (extents_of regions) memory in
    let own : Part = part_at held.parts part in
    let ends : List End = ends_of held.lines.channels held.lines.running (wires_at held.lines.wires part) in
    let first : List Machine = after_entry network (entry_for who (stepping held who core)) (machines_of held) in
    let log : List Entry = shown network who (done_by network (machines_of held) who core) in
    let long = first_long held who (stepping held who core) in
    let descs : length (descs_of held.parts) ≡ length held.parts = length-map held.parts (λ (p : Part). p.desc) in
    let each = follows_changes network part log first (omega (arith, long, there)) in
    let once : changes_of part log ≡ Shared regions left ranges ∷ [] =
    ap (changes_of part) (shown_is held parts memory lines core act ranges is) ∙ shown_other part 0 who (descs_of held.parts) regions left ranges (omega arith) (omega (arith, there, descs)) ne in
    let old : machine_at first part ≡ machine_in held part = get_or-set_other (machines_of held) who part _ (fresh no_desc) ne ∙ machine_there held part (fresh no_desc) there in
    each.machine
    ∙ (ap (λ (changes : List Change). after_changes (desc_at network part) changes (machine_at first part)) once
    ∙ (ap (λ (m : Machine). changed (desc_at network part) (Shared regions left ranges) m) old
    ∙ (ap (λ (d : Desc). changed d (Shared regions left ranges) (machine_in held part)) (desc_there held part there)
    ∙ beside_is own ends regions held.memory memory left ranges
    (seen_is regions held.memory memory own.desc.regions (λ extent h. is.step.others extent (unnamed_foreign regions extent h))
    (λ extent h. private_stays held memory part who extent is.kept there is.who ne is.step.others h)))))
