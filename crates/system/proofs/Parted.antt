-- What a partition does to its own machine in a step, and what it copied into another one.
use Rattle.std.proofs.Common.{◌≡◌, ℕ, suc, ◌+◌, ◌<◌, ◌==◌, Bool, true, false, ◌||◌, cond, List, [], ◌∷◌, length, slice_set, Option, Some, None, refl, sym, ap, subst, ◌∙◌, arith}
use Rattle.std.specs.List.{list_any}
use Rattle.std.proofs.lemmas.Bool.{false≢true, eqb-true}
use Rattle.std.proofs.lemmas.List.{get_or-set_same}
use Rattle.core_step.specs.declared.answer.Wrote.{Wrote}
use Rattle.core_step.specs.Access.{SameSizes}
use Rattle.ground.specs.Own.{own_of, IsForeign}
use Rattle.machine_desc.specs.declared.act.Act.{Act as Told}
use Rattle.machine_desc.specs.declared.act.Act.TheVariants as told
use Rattle.machine_desc.specs.declared.desc.Desc.{Desc}
use Rattle.machine_desc.specs.declared.desc.Region.{Region}
use Rattle.machine_desc.specs.declared.desc.Span.{Span}
use Rattle.fresh_load.specs.Placed.{extents_of, is_private_extent}
use Rattle.copy_lists.specs.declared.list.SgEntry.{SgEntry}
use Rattle.copy_lists.specs.Lists.{managed_spans}
use Rattle.copy_lists.specs.Pieces.{Piece}
use Rattle.partition.specs.declared.kind.Kind.{Kind}
use Rattle.partition.specs.Port.{End, kinds_of}
use Rattle.partition.specs.Act.{act_of, settled}
use Rattle.partition.specs.Machine.{Machine}
use Rattle.partition.specs.Copying.{Copy}
use Rattle.partition.specs.Asking.{Asked, asks, next_copy}
use Rattle.partition.specs.Step.{Stepped, step}
use Rattle.partition.specs.Lending.{Part as Member, AreForeign, AreTold, HasHandle, IsLent, IsStepped, KeepsOthers, Tells, machine_of, pieces_of, written_into}
use Rattle.partition.proofs.OwnBytes.{pieces_stay}
use Rattle.system.specs.Board.{Lines, Copies, Sends, Takes, fed_by, last_of, own_ends, own_kinds, told_by}
use Rattle.system.specs.System.{no_part, part_at, machine_by}
use Rattle.system.specs.Turning.{AfterCopy}
use Rattle.system.proofs.Copies.{NamesNone, copied_own}

-- ---- the caller's own memory

foreign_unnamed : (regions : List Region) (extent : ℕ) → IsForeign (extents_of regions) extent → list_any (λ (region : Region). region.extent == extent) regions ≡ false
foreign_unnamed [] extent h = refl
foreign_unnamed (region ∷ regions) extent h = by_test (region.extent == extent) refl (foreign_unnamed regions extent (λ place there q. h (suc place) (omega (arith, there)) q))
  where
    by_test : (b : Bool) → (region.extent == extent) ≡ b → list_any (λ (it : Region). it.extent == extent) regions ≡ false → (b || list_any (λ (it : Region). it.extent == extent) regions) ≡ false
    by_test true e rest = absurd (h 0 (omega arith) (eqb-true region.extent extent e))
    by_test false e rest = rest

names_apart : (own regions : List Region) → AreForeign regions own → NamesNone own regions
names_apart own regions foreign extent named = by_test (is_private_extent regions extent) refl
  where
    by_test : (b : Bool) → is_private_extent regions extent ≡ b → is_private_extent regions extent ≡ false
    by_test false e = e
    by_test true e = absurd (false≢true (sym (foreign_unnamed own extent (foreign extent e)) ∙ named))

stays : (tells : Option (List Region)) (own : List Region) (spans : List Span) (memory : List (List ℕ)) (entries : List SgEntry) → Tells tells own spans memory
    → own_of (extents_of own) (written_into tells own entries memory) ≡ own_of (extents_of own) memory
stays None own spans memory entries told_of = refl
stays (Some regions) own spans memory entries told_of = copied_own own regions memory entries (names_apart own regions told_of.foreign)

-- ---- a step

-- with the other memory, of which the partition has the same
stepped_same : (desc : Desc) (after : Member) (one other : List (List ℕ)) (ends : List End) (done : Stepped) (last : Copy) (act : Told) (ranges : List Wrote) → after.desc ≡ desc
    → own_of (extents_of desc.regions) one ≡ own_of (extents_of desc.regions) other
    → IsStepped (extents_of desc.regions) (pieces_of desc.regions one last) done (machine_of after ends one) act ranges
    → IsStepped (extents_of desc.regions) (pieces_of desc.regions other last) done (machine_of after ends other) act ranges
stepped_same desc after one other ends done last act ranges same e s =
    let memory : own_of (extents_of after.desc.regions) one ≡ own_of (extents_of after.desc.regions) other =
    subst (λ (d : Desc). own_of (extents_of d.regions) one ≡ own_of (extents_of d.regions) other) (sym same) e in
    let pieces : pieces_of desc.regions one last ≡ pieces_of desc.regions other last = ap (λ (ps : List Piece). cond last.to_managed ps []) (pieces_stay desc.regions one other last.entries e) in
    subst (λ (ps : List Piece). IsStepped (extents_of desc.regions) ps done (machine_of after ends other) act ranges) pieces
    (subst (λ (m : List (List ℕ)). IsStepped (extents_of desc.regions) (pieces_of desc.regions one last) done (record { inner = after.inner; ports = ends; memory = m }) act ranges) memory s)

-- what its partition's contract says of it
pub record IsParted (before after : List Member) (old_memory new_memory : List (List ℕ)) (old new : Lines) (core : ℕ) (act : Told) (ranges : List Wrote) : Type 0 where
  pub parts : after ≡ slice_set before old.who (part_at after old.who)
  pub stepped : let machine : Machine = machine_by (part_at before old.who) old old_memory old.who in
      let asked : Asked = asks (part_at before old.who).desc machine core in
      IsStepped (extents_of (part_at before old.who).desc.regions) (pieces_of (part_at before old.who).desc.regions new_memory new.last)
      (step (part_at before old.who).desc machine core (fed_by old old_memory asked.handle asked.ranges))
      (machine_of (part_at after old.who) (settled (act_of [] act) (own_ends new)) new_memory) act ranges
  pub desc : (part_at after old.who).desc ≡ (part_at before old.who).desc
  pub counted : (part_at after old.who).inner.steps ≡ (part_at before old.who).inner.steps + 1
  pub others : KeepsOthers (told_by old) (part_at before old.who).desc.regions new.last act old_memory new_memory
  pub sizes : SameSizes old_memory new_memory
  pub lent : IsLent own_kinds own_ends Sends Takes Copies told_by last_of (next_copy (part_at before old.who).desc (machine_by (part_at before old.who) old old_memory old.who) core) old_memory act old new

-- by what is copied
pub parted : (before after : List Member) (old_memory new_memory : List (List ℕ)) (old new : Lines) (core : ℕ) (act : Told) (ranges : List Wrote) → own_kinds old ≡ kinds_of (part_at before old.who).desc.ports
    → AreTold (told_by old) (part_at before old.who).desc old_memory → IsParted before after old_memory new_memory old new core act ranges → AfterCopy before after old_memory new_memory old new core act ranges
parted before after old_memory new_memory old new core (told.CopyTo handle count) ranges kinds tells p =
    let own : Member = part_at before old.who in
    record {
      memory = old_memory;
      step = record {
        parts = p.parts;
        stepped = stepped_same own.desc (part_at after old.who) new_memory old_memory (settled (act_of [] (told.CopyTo handle count)) (own_ends new)) _ new.last (told.CopyTo handle count) ranges p.desc
            (ap (own_of (extents_of own.desc.regions)) p.others ∙ stays (told_by old handle) own.desc.regions (managed_spans own.desc.ports handle) old_memory new.last.entries (tells handle)) p.stepped;
        desc = p.desc;
        counted = p.counted;
        others = λ extent foreign. refl;
        sizes = refl;
        bytes = p.lent.bytes;
        entry = p.lent.entry;
        handle = subst (λ (ks : List Kind). HasHandle ks (told.CopyTo handle count)) kinds p.lent.handle;
        did = p.lent.did;
      };
      copied = p.others;
    }
parted before after old_memory new_memory old new core act ranges kinds tells p = record {
  memory = new_memory;
  step = record {
    parts = p.parts;
    stepped = p.stepped;
    desc = p.desc;
    counted = p.counted;
    others = p.others;
    sizes = p.sizes;
    bytes = p.lent.bytes;
    entry = p.lent.entry;
    handle = subst (λ (ks : List Kind). HasHandle ks act) kinds p.lent.handle;
    did = p.lent.did;
  };
  copied = refl;
}

-- the same of the partition and of what the step leaves of it
pub record IsLeft (part left : Member) (old_memory new_memory : List (List ℕ)) (old new : Lines) (core : ℕ) (act : Told) (ranges : List Wrote) : Type 0 where
  pub stepped : let machine : Machine = machine_of part (own_ends old) old_memory in
      let asked : Asked = asks part.desc machine core in
      IsStepped (extents_of part.desc.regions) (pieces_of part.desc.regions new_memory new.last) (step part.desc machine core (fed_by old old_memory asked.handle asked.ranges))
      (machine_of left (settled (act_of [] act) (own_ends new)) new_memory) act ranges
  pub desc : left.desc ≡ part.desc
  pub counted : left.inner.steps ≡ part.inner.steps + 1
  pub others : KeepsOthers (told_by old) part.desc.regions new.last act old_memory new_memory
  pub sizes : SameSizes old_memory new_memory
  pub lent : IsLent own_kinds own_ends Sends Takes Copies told_by last_of (next_copy part.desc (machine_of part (own_ends old) old_memory) core) old_memory act old new

pub parted_at : (before : List Member) (left : Member) (old_memory new_memory : List (List ℕ)) (old new : Lines) (core : ℕ) (act : Told) (ranges : List Wrote) → old.who < length before → own_kinds old ≡ kinds_of (part_at before old.who).desc.ports
    → AreTold (told_by old) (part_at before old.who).desc old_memory → IsLeft (part_at before old.who) left old_memory new_memory old new core act ranges
    → AfterCopy before (slice_set before old.who left) old_memory new_memory old new core act ranges
parted_at before left old_memory new_memory old new core act ranges here kinds told_of l =
    let after : List Member = slice_set before old.who left in
    let own : Member = part_at before old.who in
    let same : part_at after old.who ≡ left = get_or-set_same before old.who left no_part here in
    let machine : Machine = machine_of own (own_ends old) old_memory in
    let asked : Asked = asks own.desc machine core in
    parted before after old_memory new_memory old new core act ranges kinds told_of (record {
      parts = ap (slice_set before old.who) (sym same);
      stepped = subst
          (λ (m : Member).
          IsStepped (extents_of own.desc.regions) (pieces_of own.desc.regions new_memory new.last) (step own.desc machine core (fed_by old old_memory asked.handle asked.ranges))
          (machine_of m (settled (act_of [] act) (own_ends new)) new_memory) act ranges) (sym same) l.stepped;
      desc = ap (λ (m : Member). m.desc) same ∙ l.desc;
      counted = ap (λ (m : Member). m.inner.steps) same ∙ l.counted;
      others = l.others;
      sizes = l.sizes;
      lent = l.lent;
    })
