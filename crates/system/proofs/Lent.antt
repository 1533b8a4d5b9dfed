-- What the board copies between the partition that it is lent to and one that it manages.
use Rattle.std.proofs.Common.{◌≡◌, ℕ, ◌<◌, ◌==◌, Bool, true, false, cond, List, flat_map, Some, refl, sym, ap, subst, ◌∙◌, arith}
use Rattle.std.proofs.lemmas.Bool.{false≢true, eqb-true}
use Rattle.machine_desc.specs.declared.desc.Region.{Region}
use Rattle.machine_desc.specs.declared.desc.Span.{Span}
use Rattle.machine_desc.specs.Sound.{are_regions_sound}
use Rattle.fresh_load.specs.Placed.{ArePlaced, is_private_extent}
use Rattle.copy_lists.specs.declared.list.SgEntry.{SgEntry}
use Rattle.copy_lists.specs.Moving.{AreApart, AreCopiable, bytes_in, copied}
use Rattle.copy_lists.specs.Pieces.{Piece, sources_of, pieces_in, all_put}
use Rattle.copy_lists.proofs.Going.{checked_is_copiable}
use Rattle.copy_lists.proofs.Pieces.{copied_pieces, fed_pieces}
use Rattle.machine_desc.specs.Private.{is_private_range}
use Rattle.partition.specs.declared.kind.Kind.{Kind}
use Rattle.partition.specs.declared.kind.Kind.TheVariants as kind
use Rattle.partition.specs.Port.{kind_at}
use Rattle.partition.specs.Lending.{CopyFits, written_into}
use Rattle.system.specs.declared.wire.Wire.{Wire}
use Rattle.system.specs.declared.wire.Wire.TheVariants.{Manage}
use Rattle.system.specs.Board.{Lines, fed_by, handle_wire, managed_by, no_wire, own_kinds, own_wire, own_wires, regions_at, regions_by, told_by}
use Rattle.system.proofs.Handles.{is_there}

-- a handle of some kind has its own wire
own_handle : (lines : Lines) (handle : ℕ) (sort : Kind) → kind_at (own_kinds lines) handle ≡ Some sort → handle_wire lines handle ≡ own_wire lines handle
own_handle lines handle sort e =
    let some = (is_there (own_wires lines) handle sort e).some in by_zero (handle == 0) refl some
  where
    by_zero : (b : Bool) → (handle == 0) ≡ b → 0 < handle → cond b no_wire (own_wire lines handle) ≡ own_wire lines handle
    by_zero true z some = let none : handle ≡ 0 = eqb-true handle 0 z in absurd (omega (arith, none, some))
    by_zero false z some = refl

managed_wire : (lines : Lines) (handle part : ℕ) → kind_at (own_kinds lines) handle ≡ Some kind.Manage → own_wire lines handle ≡ Manage part → handle_wire lines handle ≡ Manage part
managed_wire lines handle part sort e = own_handle lines handle kind.Manage sort ∙ e

tells : (lines : Lines) (handle part : ℕ) → kind_at (own_kinds lines) handle ≡ Some kind.Manage → own_wire lines handle ≡ Manage part → told_by lines handle ≡ Some (regions_at lines.maps part)
tells lines handle part sort e = ap (regions_by lines.maps) (managed_wire lines handle part sort e)

-- ---- what the moving of bytes asks for

pub record Moves (from to : List Region) (memory : List (List ℕ)) (entries : List SgEntry) : Type 0 where
  pub from_sound : are_regions_sound from ≡ true
  pub to_sound : are_regions_sound to ≡ true
  pub from_placed : ArePlaced memory from
  pub to_placed : ArePlaced memory to
  pub apart : AreApart from to
  pub entries_so : AreCopiable from to entries

-- into the managed partition
pub moves_into : (lines : Lines) (handle part : ℕ) (own : List Region) (memory : List (List ℕ)) (entries : List SgEntry) (to : Bool) → kind_at (own_kinds lines) handle ≡ Some kind.Manage → own_wire lines handle ≡ Manage part
    → to ≡ true → CopyFits (told_by lines handle) own memory to entries → Moves own (regions_at lines.maps part) memory entries
moves_into lines handle part own memory entries to sort e way fits =
    let regions : List Region = regions_at lines.maps part in
    let some : CopyFits (Some regions) own memory true entries = subst (λ (b : Bool). CopyFits (Some regions) own memory b entries) way (subst (λ (t : _). CopyFits t own memory to entries) (tells lines handle part sort e) fits) in
    record {
      from_sound = some.0.from_sound;
      to_sound = some.0.to_sound;
      from_placed = some.0.from_placed;
      to_placed = some.0.to_placed;
      apart = some.0.apart;
      entries_so = (checked_is_copiable own regions (is_private_range regions) entries (λ at size. refl)).0 some.2;
    }

apart_back : (from to : List Region) → AreApart from to → AreApart to from
apart_back from to apart extent h = by_test (is_private_extent from extent) refl
  where
    by_test : (b : Bool) → is_private_extent from extent ≡ b → is_private_extent from extent ≡ false
    by_test false e = e
    by_test true e = absurd (false≢true (sym (apart extent e) ∙ h))

-- and out of it
pub moves_from : (lines : Lines) (handle part : ℕ) (own : List Region) (memory : List (List ℕ)) (entries : List SgEntry) (to : Bool) → kind_at (own_kinds lines) handle ≡ Some kind.Manage → own_wire lines handle ≡ Manage part
    → to ≡ false → CopyFits (told_by lines handle) own memory to entries → Moves (regions_at lines.maps part) own memory entries
moves_from lines handle part own memory entries to sort e way fits =
    let regions : List Region = regions_at lines.maps part in
    let some : CopyFits (Some regions) own memory false entries = subst (λ (b : Bool). CopyFits (Some regions) own memory b entries) way (subst (λ (t : _). CopyFits t own memory to entries) (tells lines handle part sort e) fits) in
    record {
      from_sound = some.0.to_sound;
      to_sound = some.0.from_sound;
      from_placed = some.0.to_placed;
      to_placed = some.0.from_placed;
      apart = apart_back own regions some.0.apart;
      entries_so = (checked_is_copiable own regions (is_private_range regions) entries (λ at size. refl)).1 some.2;
    }

-- ---- what it leaves

pub left_into : (lines : Lines) (handle part : ℕ) (own : List Region) (memory : List (List ℕ)) (entries : List SgEntry) → kind_at (own_kinds lines) handle ≡ Some kind.Manage → own_wire lines handle ≡ Manage part
    → copied own (regions_at lines.maps part) entries memory ≡ written_into (told_by lines handle) own entries memory
left_into lines handle part own memory entries sort e = ap (λ (t : _). written_into t own entries memory) (sym (tells lines handle part sort e))

pub left_from : (lines : Lines) (handle part : ℕ) (own : List Region) (memory : List (List ℕ)) (entries : List SgEntry) → kind_at (own_kinds lines) handle ≡ Some kind.Manage → own_wire lines handle ≡ Manage part
    → Moves (regions_at lines.maps part) own memory entries → copied (regions_at lines.maps part) own entries memory ≡ all_put own (pieces_in entries (fed_by lines memory handle (sources_of entries))) memory
left_from lines handle part own memory entries sort e m =
    let regions : List Region = regions_at lines.maps part in
    copied_pieces regions own memory entries m.from_sound m.apart m.entries_so
    ∙ ap (λ (ps : List Piece). all_put own ps memory)
    (sym (fed_pieces regions memory entries)
    ∙ ap (λ (w : Wire). pieces_in entries (flat_map (λ (range : Span). bytes_in (regions_at lines.maps (managed_by w)) memory range.at range.size) (sources_of entries))) (sym (managed_wire lines handle part sort e)))
