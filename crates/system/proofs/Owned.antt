-- Whose core a number is, where its owner is known.
use Rattle.std.proofs.Common.{◌≡◌, ℕ, suc, ◌+◌, ◌<◌, List, [], ◌∷◌, ◌++◌, length, map, slice_index_or, Option, Some, None, refl, sym, ap, subst, ◌∙◌, arith}
use Rattle.std.proofs.lemmas.List.{length-map, get_or-map}
use Rattle.std.proofs.lemmas.List.FromFn.{get_or-range_with_len, length-range_with_len, length-map-range_with_len, map-range_with_len_more}
use Rattle.std.proofs.lemmas.Option.{none-some}
use Rattle.std.proofs.Math.Nat.{zero-add}
use Rattle.std.specs.Prelude.{unwrap_or}
use Rattle.std.specs.List.{range_with_len}
use Rattle.std.specs.Option.{option_map}
use Rattle.machine_desc.specs.declared.desc.Desc.{Desc}
use Rattle.partition.specs.Machine.{place_in}
use Rattle.partition.specs.Lending.{Part}
use Rattle.network.specs.Network.{Network, Seat as Owned, no_desc, seated, owner_from}
use Rattle.system.specs.declared.seat.Seat.{Seat}
use Rattle.system.specs.Seats.{AreOwners, owner_in, part_of, seated_at}
use Rattle.system.specs.System.{Held, descs_of, network_of}

-- among the partitions from this number on
record IsOwned (from : ℕ) (descs : List Desc) (number part : ℕ) : Type 0 where
  core : ℕ
  place : ℕ
  seat : owner_from from descs number ≡ Some (record { part = part; core = core })
  is : part ≡ from + place
  there : place < length descs
  found : place_in (slice_index_or descs place no_desc).cores number ≡ Some core

owned_here : (from : ℕ) (desc : Desc) (descs : List Desc) (number part core : ℕ) → place_in desc.cores number ≡ Some core
    → option_map part_of (owner_from from (desc ∷ descs) number) ≡ Some part → IsOwned from (desc ∷ descs) number part
owned_here from desc descs number part core at e =
    let behind : Option Owned = owner_from (from + 1) descs number in
    let same : from ≡ part = ap (λ (o : Option ℕ). unwrap_or o from) (subst (λ (o : Option ℕ). option_map part_of (seated o from behind) ≡ Some part) at e) in
    record {
      core = core;
      place = 0;
      seat = ap (λ (o : Option ℕ). seated o from behind) at ∙ ap (λ (n : ℕ). let it : Owned = record { part = n; core = core } in Some it) same;
      is = omega (arith, same);
      there = omega arith;
      found = at;
    }

owned_behind : (from : ℕ) (desc : Desc) (descs : List Desc) (number part : ℕ) → place_in desc.cores number ≡ None → IsOwned (from + 1) descs number part
    → IsOwned from (desc ∷ descs) number part
owned_behind from desc descs number part at rest = record {
  core = rest.core;
  place = suc rest.place;
  seat = ap (λ (o : Option ℕ). seated o from (owner_from (from + 1) descs number)) at ∙ rest.seat;
  is = omega (arith, rest.is);
  there = omega (arith, rest.there);
  found = rest.found;
}

owned_by : (from : ℕ) (desc : Desc) (descs : List Desc) (number part : ℕ) (found : Option ℕ) → place_in desc.cores number ≡ found
    → option_map part_of (owner_from from (desc ∷ descs) number) ≡ Some part
    → (option_map part_of (owner_from (from + 1) descs number) ≡ Some part → IsOwned (from + 1) descs number part) → IsOwned from (desc ∷ descs) number part
owned_by from desc descs number part (Some core) at e rest = owned_here from desc descs number part core at e
owned_by from desc descs number part None at e rest =
    owned_behind from desc descs number part at
    (rest (subst (λ (o : Option ℕ). option_map part_of (seated o from (owner_from (from + 1) descs number)) ≡ Some part) at e))

owned : (from : ℕ) (descs : List Desc) (number part : ℕ) → option_map part_of (owner_from from descs number) ≡ Some part → IsOwned from descs number part
owned from [] number part e = absurd (none-some part e)
owned from (desc ∷ descs) number part e = owned_by from desc descs number part (place_in desc.cores number) refl e (owned (from + 1) descs number part)

-- ---- the owner

pub owner_there : (parts : List Part) (number part : ℕ) → Some part ≡ owner_in (descs_of parts) number → part < length parts
owner_there parts number part e =
    let it = owned 0 (descs_of parts) number part (sym e) in
    let long : length (descs_of parts) ≡ length parts = length-map parts (λ (p : Part). p.desc) in
    omega (arith, it.is, it.there, long)

-- it has the core
owner_has : (parts : List Part) (number part : ℕ) (d : Part) (e : Some part ≡ owner_in (descs_of parts) number)
    → place_in (slice_index_or parts part d).desc.cores number ≡ Some (owned 0 (descs_of parts) number part (sym e)).core
owner_has parts number part d e =
    let it = owned 0 (descs_of parts) number part (sym e) in
    let same : part ≡ it.place = omega (arith, it.is) in
    ap (λ (desc : Desc). place_in desc.cores number) (sym (get_or-map (λ (p : Part). p.desc) parts part d no_desc (owner_there parts number part e)))
    ∙ (ap (λ (n : ℕ). place_in (slice_index_or (descs_of parts) n no_desc).cores number) same ∙ it.found)

owner_seat : (parts : List Part) (number part : ℕ) (d : Part) (found : Option ℕ) → Some part ≡ owner_in (descs_of parts) number
    → found ≡ place_in (slice_index_or parts part d).desc.cores number → seated found part None ≡ owner_from 0 (descs_of parts) number
owner_seat parts number part d found e at =
    ap (λ (o : Option ℕ). seated o part None) (at ∙ owner_has parts number part d e) ∙ sym (owned 0 (descs_of parts) number part (sym e)).seat

pub owner_found : (parts : List Part) (number part core : ℕ) (d : Part) → Some part ≡ owner_in (descs_of parts) number
    → Some core ≡ place_in (slice_index_or parts part d).desc.cores number → Some (record { part = part; core = core }) ≡ owner_from 0 (descs_of parts) number
owner_found parts number part core d e at = owner_seat parts number part d (Some core) e at

pub owner_not_found : (parts : List Part) (number part : ℕ) (d : Part) → Some part ≡ owner_in (descs_of parts) number
    → None ≡ place_in (slice_index_or parts part d).desc.cores number → None ≡ owner_from 0 (descs_of parts) number
owner_not_found parts number part d e at = owner_seat parts number part d None e at

pub no_owner : (descs : List Desc) (number : ℕ) → None ≡ owner_in descs number → None ≡ owner_from 0 descs number
no_owner descs number e = by_seat (owner_from 0 descs number) e
  where
    by_seat : (seat : Option Owned) → None ≡ option_map part_of seat → None ≡ seat
    by_seat None e = refl
    by_seat (Some seat) e = absurd (none-some seat.part e)

pub owner_at : (seat : Option Seat) (descs : List Desc) (number : ℕ) → seated_at seat ≡ owner_from 0 descs number → option_map part_of (seated_at seat) ≡ owner_in descs number
owner_at seat descs number e = ap (option_map part_of) e

-- ---- the table

pub tabled : (owners : List (Option ℕ)) (descs : List Desc) (number : ℕ) (d : Option ℕ) → AreOwners owners descs → number < length owners → slice_index_or owners number d ≡ owner_in descs number
tabled owners descs number d are there =
    let long : length (range_with_len 0 (length owners)) ≡ length owners = length-range_with_len 0 (length owners) in
    ap (λ (l : List (Option ℕ)). slice_index_or l number d) are
    ∙ (get_or-map (owner_in descs) (range_with_len 0 (length owners)) number 0 d (omega (arith, there, long))
    ∙ ap (owner_in descs) (get_or-range_with_len 0 (length owners) number 0 there ∙ zero-add number))

pub one_more_owner : (descs : List Desc) (count : ℕ) → map (owner_in descs) (range_with_len 0 (count + 1)) ≡ map (owner_in descs) (range_with_len 0 count) ++ owner_in descs count ∷ []
one_more_owner descs count = map-range_with_len_more (owner_in descs) 0 count count (omega arith)

pub owners_kept : (owners : List (Option ℕ)) (old new : Held) → AreOwners owners (descs_of old.parts) → network_of new ≡ network_of old → AreOwners owners (descs_of new.parts)
owners_kept owners old new are same = subst (λ (network : Network). AreOwners owners network.descs) (sym same) are

pub all_owners : (owners : List (Option ℕ)) (descs : List Desc) → owners ≡ map (owner_in descs) (range_with_len 0 32) → AreOwners owners descs
all_owners owners descs e =
    let long : 32 ≡ length owners = sym (ap length e ∙ length-map-range_with_len (owner_in descs) 0 32) in
    e ∙ ap (λ (n : ℕ). map (owner_in descs) (range_with_len 0 n)) long
