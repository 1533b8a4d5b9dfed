-- What a copy does to real memory, and what the caller's machine has of it.
use Rattle.std.proofs.Common.{◌≡◌, ℕ, suc, ◌<◌, ◌==◌, Bool, true, false, cond, List, [], ◌∷◌, length, map, Option, None, Some, refl, sym, ap, subst, ◌∙◌, arith}
use Rattle.std.specs.Option.{unwrap_or}
use Rattle.std.proofs.lemmas.Bool.{eqb-true, eqb-false, false≢true}
use Rattle.ground.specs.Extents.{extent_at}
use Rattle.ground.specs.Own.{name_of, own_of, KeepsForeign}
use Rattle.machine_desc.specs.declared.act.Act.{Act as Told}
use Rattle.machine_desc.specs.declared.act.Act.TheVariants as told
use Rattle.machine_desc.specs.declared.desc.Region.{Region}
use Rattle.machine_desc.specs.Private.{is_private_range}
use Rattle.machine_desc.specs.Sound.{are_regions_sound}
use Rattle.fresh_load.specs.Placed.{extents_of, is_private_extent, sizes_of}
use Rattle.copy_lists.specs.declared.list.SgEntry.{SgEntry}
use Rattle.copy_lists.specs.Lists.{total}
use Rattle.copy_lists.specs.Moving.{bytes_in, copied}
use Rattle.copy_lists.specs.Pieces.{Piece, with_bytes, size_of, pieces_out, pieces_in, shared_out, all_put}
use Rattle.copy_lists.proofs.Going.{checked_is_copiable}
use Rattle.copy_lists.proofs.Pieces.{copied_pieces, pieces_total, all_put_sizes, all_put_others, none_with_bytes}
use Rattle.partition.specs.declared.kind.Kind.{Kind}
use Rattle.partition.specs.declared.kind.Kind.TheVariants.{Manage}
use Rattle.partition.specs.Port.{End, kind_at}
use Rattle.partition.specs.Act.{CopyTo, CopyFrom, Nothing, copied_to, copied_from}
use Rattle.partition.specs.Regions.{areas_of}
use Rattle.partition.specs.Copying.{Copy, own_regions, copy_act, copied_in}
use Rattle.partition.specs.Asking.{with_total}
use Rattle.partition.specs.Lending.{AreForeign, CopyFits, IsCopied, pieces_of, written_into}
use Rattle.partition.proofs.Anew.{foreign_private}
use Rattle.partition.proofs.OwnBytes.{pieces_stay}
use Rattle.partition.proofs.OwnPut.{put_so}
use Rattle.partition.proofs.Lent.{nothing_lent}

-- ---- memory

own_alike : (names : List ℕ) (before after : List (List ℕ)) → ((region : ℕ) → region < length names → extent_at after (name_of names region) ≡ extent_at before (name_of names region))
    → own_of names after ≡ own_of names before
own_alike [] before after same = refl
own_alike (name ∷ names) before after same =
    let first : extent_at after name ≡ extent_at before name = same 0 (omega arith) in
    let rest : own_of names after ≡ own_of names before = own_alike names before after (λ region below. same (suc region) (omega arith)) in
    λ i. first i ∷ rest i

-- an extent of the caller is no private one of regions that are foreign to it
not_theirs : (regions own : List Region) (region : ℕ) → AreForeign regions own → region < length (extents_of own) → is_private_extent regions (name_of (extents_of own) region) ≡ false
not_theirs regions own region foreign below = by_test (is_private_extent regions (name_of (extents_of own) region)) refl
  where
    by_test : (b : Bool) → is_private_extent regions (name_of (extents_of own) region) ≡ b → b ≡ false
    by_test true h = absurd (foreign (name_of (extents_of own) region) h region below refl)
    by_test false h = refl

-- a copy into a managed partition is its pieces, put there
into_put : (own regions : List Region) (memory : List (List ℕ)) (entries : List SgEntry) → CopyFits (Some regions) own memory true entries
    → copied own regions entries memory ≡ all_put regions (pieces_out own memory entries) memory
into_put own regions memory entries fits =
    copied_pieces own regions memory entries fits.0.from_sound fits.0.apart ((checked_is_copiable own regions (is_private_range regions) entries (λ at size. refl)).0 fits.2)

-- and changes nothing of the caller's
pub into_own : (tells : Option (List Region)) (own : List Region) (memory : List (List ℕ)) (entries : List SgEntry) → CopyFits tells own memory true entries
    → own_of (extents_of own) (written_into tells own entries memory) ≡ own_of (extents_of own) memory
into_own None own memory entries fits = refl
into_own (Some regions) own memory entries fits =
    ap (own_of (extents_of own)) (into_put own regions memory entries fits)
    ∙ own_alike (extents_of own) memory (all_put regions (pieces_out own memory entries) memory)
    (λ region below. all_put_others regions (pieces_out own memory entries) memory (name_of (extents_of own) region) (not_theirs regions own region fits.1 below))

pub into_sizes : (tells : Option (List Region)) (own : List Region) (memory : List (List ℕ)) (entries : List SgEntry) → CopyFits tells own memory true entries
    → sizes_of (written_into tells own entries memory) ≡ sizes_of memory
into_sizes None own memory entries fits = refl
into_sizes (Some regions) own memory entries fits =
    ap sizes_of (into_put own regions memory entries fits) ∙ all_put_sizes regions (pieces_out own memory entries) memory

-- what comes in stands in private extents of the caller
pub from_foreign : (own : List Region) (pieces : List Piece) (memory : List (List ℕ)) → KeepsForeign (extents_of own) memory (all_put own pieces memory)
from_foreign own pieces memory extent foreign = all_put_others own pieces memory extent (foreign_private own extent foreign)

-- ---- acts

-- a list that copies some bytes has a piece
some_pieces : (own : List Region) (memory : List (List ℕ)) (entries : List SgEntry) (handle : ℕ) → (total entries == 0) ≡ false
    → copied_to handle (pieces_out own memory entries) ≡ CopyTo handle (pieces_out own memory entries)
some_pieces own memory entries handle some = by_pieces (pieces_out own memory entries) (pieces_total own memory entries)
  where
    by_pieces : (pieces : List Piece) → size_of pieces ≡ total entries → copied_to handle pieces ≡ CopyTo handle pieces
    by_pieces [] none = absurd (eqb-false (total entries) 0 some (sym none))
    by_pieces (piece ∷ pieces) e = refl

-- one that copies none has no piece
no_pieces : (own : List Region) (memory : List (List ℕ)) (it : Copy) (feed : List ℕ) → total it.entries ≡ 0
    → (copy_act own memory it ≡ Nothing) × (all_put own (copied_in it feed) memory ≡ memory)
no_pieces own memory it feed none =
    let empty : with_bytes it.entries ≡ [] = none_with_bytes it.entries none in
    by_direction it.to_managed empty
  where
    by_direction : (b : Bool) → with_bytes it.entries ≡ []
        → (cond b (copied_to it.handle (pieces_out own memory it.entries)) (copied_from it.handle (total it.entries)) ≡ Nothing)
        × (all_put own (cond b [] (pieces_in it.entries feed)) memory ≡ memory)
    by_direction true empty = (ap (λ (some : List SgEntry). copied_to it.handle (map (λ (entry : SgEntry). let piece : Piece = record { at = entry.target; bytes = bytes_in own memory entry.source entry.size } in piece) some)) empty, refl)
    by_direction false empty = (ap (copied_from it.handle) none, ap (λ (some : List SgEntry). all_put own (shared_out some feed) memory) empty)

-- ---- a copy that is carried out

pub not_zero : (n : ℕ) → (n ≡ 0 → ⊥) → (n == 0) ≡ false
not_zero n h = by_test (n == 0) refl
  where
    by_test : (b : Bool) → (n == 0) ≡ b → b ≡ false
    by_test true e = absurd (h (eqb-true n 0 e))
    by_test false e = refl

-- one of no bytes
pub copied_nothing : {S : Type 0} (kinds : S → List Kind) (seen : S → List End) (sends : S → ℕ → List ℕ → S → Type 0) (takes : S → ℕ → ℕ → S → Type 0) (copies : S → List (List ℕ) → Copy → S → Type 0) (tells : S → ℕ → Option (List Region)) (latest : S → Copy)
    (it : Copy) (own : List Region) (feed : List ℕ) (memory : List (List ℕ)) (act : Told) (ports : S) → total it.entries ≡ 0 → act ≡ told.None
    → IsCopied kinds seen sends takes copies tells latest it own feed memory memory act ports ports
copied_nothing kinds seen sends takes copies tells latest it own feed memory act ports none is =
    let empty = no_pieces own memory it feed none in
    let never : with_total it ≡ None = ap (λ (n : ℕ). cond (n == 0) None (Some it)) none in
    subst (λ (a : Told). IsCopied kinds seen sends takes copies tells latest it own feed memory memory a ports ports) (sym is) (record {
      act = empty.0;
      total = tt;
      into = λ _. refl;
      from = λ _. sym empty.1;
      others = λ extent foreign. refl;
      sizes = refl;
      lent = nothing_lent kinds seen sends takes copies tells latest (with_total it) memory told.None ports refl never;
    })

-- what its lender says of it
pub record IsDone {S : Type 0} (kinds : S → List Kind) (seen : S → List End) (copies : S → List (List ℕ) → Copy → S → Type 0) (tells : S → ℕ → Option (List Region)) (latest : S → Copy) (it : Copy) (memory : List (List ℕ)) (old new : S) : Type 0 where
  pub handle : kind_at (kinds old) it.handle ≡ Some Manage
  pub seen_so : seen new ≡ seen old
  pub same : kinds new ≡ kinds old
  pub told_so : tells new ≡ tells old
  pub last : latest new ≡ it
  pub did : copies old memory (latest new) new

-- the copy that is done, where it has bytes
done_copy : (it : Copy) → (total it.entries == 0) ≡ false → with_total it ≡ Some it
done_copy it some = ap (λ (b : Bool). cond b None (Some it)) some

-- one into a managed partition
pub copied_into : {S : Type 0} (kinds : S → List Kind) (seen : S → List End) (sends : S → ℕ → List ℕ → S → Type 0) (takes : S → ℕ → ℕ → S → Type 0) (copies : S → List (List ℕ) → Copy → S → Type 0) (tells : S → ℕ → Option (List Region)) (latest : S → Copy)
    (it : Copy) (own : List Region) (feed : List ℕ) (memory after : List (List ℕ)) (count : ℕ) (old new : S) → it.to_managed ≡ true → (total it.entries == 0) ≡ false → count ≡ total it.entries
    → CopyFits (tells old it.handle) own memory true it.entries → after ≡ written_into (tells old it.handle) own it.entries memory
    → IsDone kinds seen copies tells latest it memory old new
    → IsCopied kinds seen sends takes copies tells latest it own feed memory after (told.CopyTo it.handle count) old new
copied_into kinds seen sends takes copies tells latest it own feed memory after count old new to some counted fits into done =
    let own_same : own_of (extents_of own) after ≡ own_of (extents_of own) memory = ap (own_of (extents_of own)) into ∙ into_own (tells old it.handle) own memory it.entries fits in
    let pieces : pieces_of own after (latest new) ≡ pieces_out own memory it.entries =
    ap (pieces_of own after) done.last ∙ (ap (λ (b : Bool). cond b (pieces_out own after it.entries) []) to ∙ pieces_stay own after memory it.entries own_same) in
    record {
      act =
          ap (λ (b : Bool). cond b (copied_to it.handle (pieces_out own memory it.entries)) (copied_from it.handle (total it.entries))) to
          ∙ (some_pieces own memory it.entries it.handle some ∙ ap (CopyTo it.handle) (sym pieces));
      total = counted ∙ (sym (pieces_total own memory it.entries) ∙ ap size_of (sym pieces));
      into = λ _. own_same;
      from = λ other. absurd (false≢true (sym other ∙ to));
      others = into ∙ ap (λ (last : Copy). written_into (tells old it.handle) own last.entries memory) (sym done.last);
      sizes = ap sizes_of into ∙ into_sizes (tells old it.handle) own memory it.entries fits;
      lent = record {
        bytes = tt;
        entry = tt;
        handle = done.handle;
        seen = done.seen_so;
        same = done.same;
        told = done.told_so;
        last = done.last ∙ sym (ap (λ (copy : Option Copy). unwrap_or copy (latest old)) (done_copy it some));
        did = (done_copy it some ∙ ap (λ (last : Copy). Some last) (sym done.last), done.did);
      };
    }

-- one out of a managed partition
pub copied_out : {S : Type 0} (kinds : S → List Kind) (seen : S → List End) (sends : S → ℕ → List ℕ → S → Type 0) (takes : S → ℕ → ℕ → S → Type 0) (copies : S → List (List ℕ) → Copy → S → Type 0) (tells : S → ℕ → Option (List Region)) (latest : S → Copy)
    (it : Copy) (own : List Region) (feed : List ℕ) (memory after : List (List ℕ)) (count : ℕ) (old new : S) → it.to_managed ≡ false → (total it.entries == 0) ≡ false → count ≡ total it.entries
    → after ≡ all_put own (pieces_in it.entries feed) memory → IsDone kinds seen copies tells latest it memory old new
    → IsCopied kinds seen sends takes copies tells latest it own feed memory after (told.CopyFrom it.handle count) old new
copied_out kinds seen sends takes copies tells latest it own feed memory after count old new from some counted brought done = record {
  act =
      ap (λ (b : Bool). cond b (copied_to it.handle (pieces_out own memory it.entries)) (copied_from it.handle (total it.entries))) from
      ∙ (ap (λ (b : Bool). cond b Nothing (CopyFrom it.handle (total it.entries))) some ∙ ap (CopyFrom it.handle) (sym counted));
  total = tt;
  into = λ other. absurd (false≢true (sym from ∙ other));
  from = λ _. brought ∙ ap (λ (b : Bool). all_put own (cond b [] (pieces_in it.entries feed)) memory) (sym from);
  others = subst (λ (left : List (List ℕ)). KeepsForeign (extents_of own) memory left) (sym brought) (from_foreign own (pieces_in it.entries feed) memory);
  sizes = ap sizes_of brought ∙ all_put_sizes own (pieces_in it.entries feed) memory;
  lent = record {
    bytes = tt;
    entry = tt;
    handle = done.handle;
    seen = done.seen_so;
    same = done.same;
    told = done.told_so;
    last = done.last ∙ sym (ap (λ (copy : Option Copy). unwrap_or copy (latest old)) (done_copy it some));
    did = (done_copy it some ∙ ap (λ (last : Copy). Some last) (sym done.last), done.did);
  };
}

-- one of either direction
pub copied_either : {S : Type 0} (kinds : S → List Kind) (seen : S → List End) (sends : S → ℕ → List ℕ → S → Type 0) (takes : S → ℕ → ℕ → S → Type 0) (copies : S → List (List ℕ) → Copy → S → Type 0) (tells : S → ℕ → Option (List Region)) (latest : S → Copy)
    (it : Copy) (own : List Region) (feed : List ℕ) (memory after : List (List ℕ)) (count : ℕ) (old new : S) (act : Told) → (total it.entries == 0) ≡ false → count ≡ total it.entries
    → act ≡ cond it.to_managed (told.CopyTo it.handle count) (told.CopyFrom it.handle count) → CopyFits (tells old it.handle) own memory it.to_managed it.entries
    → (it.to_managed ≡ true → after ≡ written_into (tells old it.handle) own it.entries memory) → (it.to_managed ≡ false → after ≡ all_put own (pieces_in it.entries feed) memory)
    → IsDone kinds seen copies tells latest it memory old new → IsCopied kinds seen sends takes copies tells latest it own feed memory after act old new
copied_either kinds seen sends takes copies tells latest it own feed memory after count old new act some counted is fits into from done = by_direction it.to_managed refl
  where
    by_direction : (b : Bool) → it.to_managed ≡ b → IsCopied kinds seen sends takes copies tells latest it own feed memory after act old new
    by_direction true to =
        let acts : act ≡ told.CopyTo it.handle count = is ∙ ap (λ (b : Bool). cond b (told.CopyTo it.handle count) (told.CopyFrom it.handle count)) to in
        subst (λ (a : Told). IsCopied kinds seen sends takes copies tells latest it own feed memory after a old new) (sym acts)
        (copied_into kinds seen sends takes copies tells latest it own feed memory after count old new to some counted
        (subst (λ (b : Bool). CopyFits (tells old it.handle) own memory b it.entries) to fits) (into to) done)
    by_direction false out =
        let acts : act ≡ told.CopyFrom it.handle count = is ∙ ap (λ (b : Bool). cond b (told.CopyTo it.handle count) (told.CopyFrom it.handle count)) out in
        subst (λ (a : Told). IsCopied kinds seen sends takes copies tells latest it own feed memory after a old new) (sym acts)
        (copied_out kinds seen sends takes copies tells latest it own feed memory after count old new out some counted (from out) done)

-- ---- the caller's own memory

-- what it has after a copy
pub own_after : {S : Type 0} (kinds : S → List Kind) (seen : S → List End) (sends : S → ℕ → List ℕ → S → Type 0) (takes : S → ℕ → ℕ → S → Type 0) (copies : S → List (List ℕ) → Copy → S → Type 0) (tells : S → ℕ → Option (List Region)) (latest : S → Copy)
    (it : Copy) (regions : List Region) (feed : List ℕ) (before after : List (List ℕ)) (act : Told) (old new : S) → are_regions_sound regions ≡ true
    → IsCopied kinds seen sends takes copies tells latest it regions feed before after act old new
    → own_of (extents_of regions) after ≡ all_put (own_regions (areas_of regions)) (copied_in it feed) (own_of (extents_of regions) before)
own_after kinds seen sends takes copies tells latest it regions feed before after act old new sound done = by_direction it.to_managed refl
  where
    by_direction : (b : Bool) → it.to_managed ≡ b → own_of (extents_of regions) after ≡ all_put (own_regions (areas_of regions)) (copied_in it feed) (own_of (extents_of regions) before)
    by_direction true to =
        done.into to ∙ ap (λ (b : Bool). all_put (own_regions (areas_of regions)) (cond b [] (pieces_in it.entries feed)) (own_of (extents_of regions) before)) (sym to)
    by_direction false from = ap (own_of (extents_of regions)) (done.from from) ∙ put_so regions (copied_in it feed) before sound
