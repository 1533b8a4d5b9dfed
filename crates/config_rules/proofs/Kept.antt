-- What a configuration keeps that breaks no rule.
use Rattle.std.proofs.Common.{◌≡◌, ℕ, ◌≤◌, Bool, true, false, ◌&&◌, ◌||◌, not, cond, ltb, List, [], ◌∷◌, ◌++◌, length, Option, Some, None, refl, sum_by, arith}
use Rattle.std.specs.Prelude.{codes, find, nat_le}
use Rattle.std.specs.List.{list_all, list_any}
use Rattle.std.specs.Option.{option_map_or}
use Rattle.std.proofs.lemmas.Bool.{and_from, or_parts}
use Rattle.hv_config.specs.declared.config.AreaDef.{AreaDef}
use Rattle.hv_config.specs.declared.config.ChannelDef.{ChannelDef}
use Rattle.hv_config.specs.declared.config.GuestAreaDef.{GuestAreaDef}
use Rattle.hv_config.specs.declared.config.HandleDef.{HandleDef}
use Rattle.hv_config.specs.declared.config.PartDef.{PartDef}
use Rattle.hv_config.specs.declared.config.Config.{Config}
use Rattle.hv_config.specs.declared.board.Board.{Board}
use Rattle.machine_desc.specs.Limits.{most_partitions, most_regions, most_handles, most_bytes}
use Rattle.machine_desc.specs.Ranges.{none_meets}
use Rattle.machine_desc.specs.Joined.{same_number}
use Rattle.config_checks.specs.Limits.{most_areas}
use Rattle.config_checks.specs.Spot.{Spot, earlier, placed, at_place, first_inner, first_list, guest_spot, handle_spot, inner_list_spot, part_spot, list_spot}
use Rattle.config_checks.specs.First.{first_from}
use Rattle.config_checks.specs.Found.{has_area, has_target}
use Rattle.config_checks.specs.Names.{misnamed, misnamed_part, misnamed_in, is_misnamed_part, is_misnamed_guest, is_misnamed_handle, is_long, is_reserved}
use Rattle.config_checks.specs.Counts.{too_many, many_areas, many_parts, many_in}
use Rattle.config_checks.specs.Areas.{ragged_area, high_area, overlapping_area, large_areas, is_ragged, is_high, areas_meet}
use Rattle.config_checks.specs.Guests.{misplaced_guest, overlapping_guest, repeated_guest, misplaced_in, overlapping_in, repeated_in, is_misplaced, guests_meet, same_area}
use Rattle.config_checks.specs.Cores.{miscounted_part, taking_part, is_miscounted, taking_at, share_core}
use Rattle.config_checks.specs.Window.{windowless_part, is_windowless}
use Rattle.config_checks.specs.Channels.{loose_channel, is_loose, is_console_char, has_console, is_bad_console, is_misprinting, misprinting_at, misprinting_channel}
use Rattle.config_checks.specs.Managers.{own_manager, second_manager, own_in, second_in, manages}
use Rattle.config_checks.specs.Rules.{breach, broken_list, broken_area, broken_guest, broken_part, broken_link, first_broken}
use Rattle.config_rules.specs.Names.{is_free_name, has_plain_console}
use Rattle.config_rules.proofs.Lists.{option_or-none, option_map-none, found_if-none, find-none, first_meeting-none, first_from-none, all-mono}

-- ---- what is said of each list

-- the names of guest areas and handles name something
abbrev pub guests_named : Config → PartDef → Bool
guests_named config part = list_all (λ (guest : GuestAreaDef). has_area config.areas guest.area) part.areas

abbrev pub handles_named : Config → PartDef → Bool
handles_named config part = list_all (λ (handle : HandleDef). has_target config handle.kind handle.target) part.handles

abbrev pub few_in : PartDef → Bool
few_in part = nat_le (length part.areas) most_regions && nat_le (length part.handles) most_handles

abbrev pub guests_placed : Config → PartDef → Bool
guests_placed config part = list_all (λ (guest : GuestAreaDef). not (is_misplaced config.areas guest)) part.areas

abbrev pub guests_apart : Config → PartDef → Bool
guests_apart config part = none_meets (guests_meet config.areas) [] part.areas

abbrev pub areas_differ : PartDef → Bool
areas_differ part = none_meets same_area [] part.areas

abbrev pub cores_differ : PartDef → Bool
cores_differ part = none_meets same_number [] part.cpus

abbrev pub manages_others : PartDef → Bool
manages_others part = list_all (λ (handle : HandleDef). not (manages part.name handle)) part.handles

-- ---- all of it

pub record Kept (config : Config) : Type 0 where
  pub free_names : list_all is_free_name config.parts ≡ true
  pub plain_consoles : list_all has_plain_console config.channels ≡ true
  pub guests_named : list_all (guests_named config) config.parts ≡ true
  pub handles_named : list_all (handles_named config) config.parts ≡ true
  pub few_areas : length config.areas ≤ most_areas
  pub few_parts : length config.parts ≤ most_partitions
  pub few : list_all few_in config.parts ≡ true
  pub whole : list_all (λ (area : AreaDef). not (is_ragged area)) config.areas ≡ true
  pub low : list_all (λ (area : AreaDef). not (is_high area)) config.areas ≡ true
  pub areas_apart : none_meets areas_meet [] config.areas ≡ true
  pub small : sum_by (λ (area : AreaDef). area.size) config.areas ≤ most_bytes
  pub guests_placed : list_all (guests_placed config) config.parts ≡ true
  pub guests_apart : list_all (guests_apart config) config.parts ≡ true
  pub areas_differ : list_all areas_differ config.parts ≡ true
  pub counted : list_all (λ (part : PartDef). not (is_miscounted part)) config.parts ≡ true
  pub cores_differ : list_all cores_differ config.parts ≡ true
  pub cores_apart : none_meets share_core [] config.parts ≡ true
  pub windows : list_all (λ (part : PartDef). not (is_windowless config part)) config.parts ≡ true
  pub tight : list_all (λ (channel : ChannelDef). not (is_loose config.parts channel)) config.channels ≡ true
  pub others : list_all manages_others config.parts ≡ true
  pub managed_once : first_from second_in [] config.parts ≡ None

-- ---- names

earlier-none : (a b : Option Spot) → earlier a b ≡ None → (a ≡ None) × (b ≡ None)
unfolding earlier
earlier-none None b e = (refl, e)
earlier-none (Some x) None e = absurd cc
earlier-none (Some x) (Some y) e = absurd (elim (ltb y.place x.place) as (λ b. cond b (Some y) (Some x) ≡ None → ⊥) [ true ↦ λ e. cc | false ↦ λ e. cc ] e)

placed-none : (place : ℕ) (spot : Option Spot) → placed place spot ≡ None → spot ≡ None
unfolding placed
placed-none place spot e = option_map-none (at_place place) spot e

inner-none : (part : PartDef) (guest : Option GuestAreaDef) (handle : Option HandleDef) → first_inner part guest handle ≡ None → (guest ≡ None) × (handle ≡ None)
unfolding first_inner
inner-none part None None e = (refl, refl)
inner-none part None (Some handle) e = absurd cc
inner-none part (Some guest) None e = absurd cc
inner-none part (Some guest) (Some handle) e =
    absurd (elim (ltb part.handles_at part.areas_at) as (λ b. cond b (Some (handle_spot part handle)) (Some (guest_spot part guest)) ≡ None → ⊥) [ true ↦ λ e. cc | false ↦ λ e. cc ] e)

misnamed_in-none : (config : Config) (before : List PartDef) (part : PartDef) → misnamed_in config before part ≡ None
    → (find (is_misnamed_guest config.areas) part.areas ≡ None) × (find (is_misnamed_handle config) part.handles ≡ None)
misnamed_in-none config before part e =
    elim (is_misnamed_part part) as (λ b. cond b (Some (part_spot part)) (first_inner part (find (is_misnamed_guest config.areas) part.areas) (find (is_misnamed_handle config) part.handles)) ≡ None
    → (find (is_misnamed_guest config.areas) part.areas ≡ None) × (find (is_misnamed_handle config) part.handles ≡ None))
    [ true ↦ λ e. absurd cc | false ↦ λ e. inner-none part _ _ e ] e

not_bad : (a b : Bool) → not (a || not b) ≡ true → b ≡ true
not_bad true b e = absurd cc
not_bad false true e = refl
not_bad false false e = absurd cc

named-guests : (config : Config) (before : List PartDef) (part : PartDef) → misnamed_in config before part ≡ None → guests_named config part ≡ true
named-guests config before part e =
    let none = find-none (is_misnamed_guest config.areas) part.areas (misnamed_in-none config before part e).0 in
    all-mono (λ (guest : GuestAreaDef). not (is_misnamed_guest config.areas guest)) (λ (guest : GuestAreaDef). has_area config.areas guest.area)
    (λ guest h. not_bad (is_long guest.name) (has_area config.areas guest.area) h) part.areas none

named-handles : (config : Config) (before : List PartDef) (part : PartDef) → misnamed_in config before part ≡ None → handles_named config part ≡ true
named-handles config before part e =
    let none = find-none (is_misnamed_handle config) part.handles (misnamed_in-none config before part e).1 in
    all-mono (λ (handle : HandleDef). not (is_misnamed_handle config handle)) (λ (handle : HandleDef). has_target config handle.kind handle.target)
    (λ handle h. not_bad (is_long handle.name) (has_target config handle.kind handle.target) h) part.handles none

misnamed-parts : (config : Config) → misnamed config ≡ None → misnamed_part config config.parts ≡ None
unfolding misnamed
misnamed-parts config e =
    let a = earlier-none _ _ e in
    let b = earlier-none _ _ a.1 in
    let c = earlier-none _ _ b.1 in
    placed-none _ _ c.1

all-guests : (config : Config) → misnamed_part config config.parts ≡ None → list_all (guests_named config) config.parts ≡ true
unfolding misnamed_part
all-guests config e = first_from-none (misnamed_in config) (guests_named config) (named-guests config) [] config.parts e

-- a name that is neither too long nor reserved
free-name : (config : Config) (before : List PartDef) (part : PartDef) → misnamed_in config before part ≡ None → is_free_name part ≡ true
free-name config before part e =
    let named = elim (is_misnamed_part part) as (λ b. cond b (Some (part_spot part)) (first_inner part (find (is_misnamed_guest config.areas) part.areas) (find (is_misnamed_handle config) part.handles)) ≡ None → b ≡ false)
    [ true ↦ λ e. absurd cc | false ↦ λ e. refl ] e in
    unreserved (is_long part.name) (is_reserved part.name) named
  where
    unreserved : (long reserved : Bool) → (long || reserved) ≡ false → not reserved ≡ true
    unreserved false false e = refl
    unreserved false true e = absurd cc
    unreserved true reserved e = absurd cc

all-free : (config : Config) → misnamed_part config config.parts ≡ None → list_all is_free_name config.parts ≡ true
unfolding misnamed_part
all-free config e = first_from-none (misnamed_in config) is_free_name (free-name config) [] config.parts e

all-handles : (config : Config) → misnamed_part config config.parts ≡ None → list_all (handles_named config) config.parts ≡ true
unfolding misnamed_part
all-handles config e = first_from-none (misnamed_in config) (handles_named config) (named-handles config) [] config.parts e

-- ---- consoles

second-false : (one other third : Bool) → (one || not other || third) ≡ false → other ≡ true
second-false false true third e = refl
second-false false false third e = absurd cc
second-false true other third e = absurd cc

plain-console : (before : List ChannelDef) (channel : ChannelDef) → misprinting_at before channel ≡ None → has_plain_console channel ≡ true
plain-console before channel e =
    elim channel.console as (λ console. option_map_or (is_bad_console before) console false ≡ false → option_map_or (list_all is_console_char) console true ≡ true) [
      | None ↦ λ e. refl
      | Some name ↦ λ e. second-false (is_long name) (list_all is_console_char name) (list_any (has_console name) before) e
    ] (found_if-none (is_misprinting before channel) _ e)

all-plain : (config : Config) → misprinting_channel config.channels ≡ None → list_all has_plain_console config.channels ≡ true
unfolding misprinting_channel
all-plain config e = first_from-none misprinting_at has_plain_console plain-console [] config.channels e

-- ---- counts

few_from : (m n : ℕ) → ltb m n ≡ false → n ≤ m
few_from m n e = grind arith

le_from : (m n : ℕ) → ltb m n ≡ false → nat_le n m ≡ true
le_from m n e = grind arith

list-none : (part : PartDef) (a b : Bool) → first_list part a b ≡ None → (a ≡ false) × (b ≡ false)
unfolding first_list
list-none part false false e = (refl, refl)
list-none part false true e = absurd cc
list-none part true false e = absurd cc
list-none part true true e =
    absurd (elim (ltb part.handles_at part.areas_at) as (λ b. cond b (Some (inner_list_spot part (codes "handles"))) (Some (inner_list_spot part (codes "areas"))) ≡ None → ⊥) [ true ↦ λ e. cc | false ↦ λ e. cc ] e)

few-none : (before : List PartDef) (part : PartDef) → many_in before part ≡ None → few_in part ≡ true
few-none before part e =
    let both = list-none part _ _ e in
    and_from _ _ (le_from most_regions (length part.areas) both.0) (le_from most_handles (length part.handles) both.1)

many-none : (parts : List PartDef) → many_parts parts ≡ None → (length parts ≤ most_partitions) × (list_all few_in parts ≡ true)
unfolding many_parts
many-none parts e =
    elim (ltb most_partitions (length parts)) as (λ b. ltb most_partitions (length parts) ≡ b → cond b (Some (list_spot 0 (codes "partitions"))) (first_from many_in [] parts) ≡ None
    → (length parts ≤ most_partitions) × (list_all few_in parts ≡ true))
    [ true ↦ λ t e. absurd cc | false ↦ λ t e. (few_from most_partitions (length parts) t, first_from-none many_in few_in few-none [] parts e) ] refl e

counts-none : (config : Config) → too_many config ≡ None → (length config.areas ≤ most_areas) × (length config.parts ≤ most_partitions) × (list_all few_in config.parts ≡ true)
unfolding too_many many_areas
counts-none config e =
    let a = earlier-none _ _ e in
    let b = earlier-none _ _ a.1 in
    let c = earlier-none _ _ b.1 in
    let parts = many-none config.parts (placed-none _ _ c.1) in
    (few_from most_areas (length config.areas) (found_if-none _ _ (placed-none _ _ a.0)), parts.0, parts.1)

-- ---- areas

whole-none : (areas : List AreaDef) → ragged_area areas ≡ None → list_all (λ (area : AreaDef). not (is_ragged area)) areas ≡ true
unfolding ragged_area
whole-none areas e = find-none is_ragged areas (option_map-none _ _ e)

low-none : (areas : List AreaDef) → high_area areas ≡ None → list_all (λ (area : AreaDef). not (is_high area)) areas ≡ true
unfolding high_area
low-none areas e = find-none is_high areas (option_map-none _ _ e)

apart-none : (areas : List AreaDef) → overlapping_area areas ≡ None → none_meets areas_meet [] areas ≡ true
unfolding overlapping_area
apart-none areas e = first_meeting-none areas_meet [] areas (option_map-none _ _ e)

small-none : (areas : List AreaDef) → large_areas areas ≡ None → sum_by (λ (area : AreaDef). area.size) areas ≤ most_bytes
unfolding large_areas
small-none areas e = few_from most_bytes _ (found_if-none _ _ e)

-- ---- guest areas

placed-guests : (config : Config) → misplaced_guest config ≡ None → list_all (guests_placed config) config.parts ≡ true
unfolding misplaced_guest
placed-guests config e =
    first_from-none (misplaced_in config.areas) (guests_placed config) (λ before part e. find-none (is_misplaced config.areas) part.areas (option_map-none (guest_spot part) _ e)) [] config.parts e

apart-guests : (config : Config) → overlapping_guest config ≡ None → list_all (guests_apart config) config.parts ≡ true
unfolding overlapping_guest
apart-guests config e =
    first_from-none (overlapping_in config.areas) (guests_apart config) (λ before part e. first_meeting-none (guests_meet config.areas) [] part.areas (option_map-none (guest_spot part) _ e)) [] config.parts e

different-areas : (parts : List PartDef) → repeated_guest parts ≡ None → list_all areas_differ parts ≡ true
unfolding repeated_guest
different-areas parts e =
    first_from-none repeated_in areas_differ (λ before part e. first_meeting-none same_area [] part.areas (option_map-none (guest_spot part) _ e)) [] parts e

-- ---- cores and windows

counted-none : (parts : List PartDef) → miscounted_part parts ≡ None → list_all (λ (part : PartDef). not (is_miscounted part)) parts ≡ true
unfolding miscounted_part
counted-none parts e = find-none is_miscounted parts (option_map-none _ _ e)

taken-none : (before : List PartDef) (part : PartDef) → taking_at before part ≡ None → (cores_differ part ≡ true) × (list_any (share_core part) before ≡ false)
taken-none before part e =
    let both = or_parts (not (cores_differ part)) (list_any (share_core part) before) (found_if-none _ _ e) in
    (elim (cores_differ part) as (λ b. not b ≡ false → b ≡ true) [ true ↦ λ e. refl | false ↦ λ e. absurd cc ] both.0, both.1)

different-cores : (parts : List PartDef) → taking_part parts ≡ None → list_all cores_differ parts ≡ true
unfolding taking_part
different-cores parts e = first_from-none taking_at cores_differ (λ before part e. (taken-none before part e).0) [] parts e

apart-from : (before parts : List PartDef) → first_from taking_at before parts ≡ None → none_meets share_core before parts ≡ true
apart-from before [] e = refl
apart-from before (part ∷ parts) e =
    let both = option_or-none (taking_at before part) (first_from taking_at (before ++ part ∷ []) parts) e in
    rw (taken-none before part both.0).1 (apart-from (before ++ part ∷ []) parts both.1)

apart-cores : (parts : List PartDef) → taking_part parts ≡ None → none_meets share_core [] parts ≡ true
unfolding taking_part
apart-cores parts e = apart-from [] parts e

windows-none : (config : Config) → windowless_part config ≡ None → list_all (λ (part : PartDef). not (is_windowless config part)) config.parts ≡ true
unfolding windowless_part
windows-none config e = find-none (is_windowless config) config.parts (option_map-none _ _ e)

-- ---- links

tight-none : (parts : List PartDef) (channels : List ChannelDef) → loose_channel parts channels ≡ None → list_all (λ (channel : ChannelDef). not (is_loose parts channel)) channels ≡ true
unfolding loose_channel
tight-none parts channels e = find-none (is_loose parts) channels (option_map-none _ _ e)

others-none : (parts : List PartDef) → own_manager parts ≡ None → list_all manages_others parts ≡ true
unfolding own_manager
others-none parts e = first_from-none own_in manages_others (λ before part e. find-none (manages part.name) part.handles (option_map-none (handle_spot part) _ e)) [] parts e

once-none : (parts : List PartDef) → second_manager parts ≡ None → first_from second_in [] parts ≡ None
unfolding second_manager
once-none parts e = e

-- ---- the whole

breach-none : (number : ℕ) (spot : Option Spot) → breach number spot ≡ None → spot ≡ None
breach-none number spot e = option_map-none _ spot e

abbrev Lists : Config → Type 0
Lists config = (misnamed_part config config.parts ≡ None) × (length config.areas ≤ most_areas) × (length config.parts ≤ most_partitions) × (list_all few_in config.parts ≡ true)

lists-none : (config : Config) → broken_list config ≡ None → Lists config
unfolding broken_list
lists-none config e =
    let a = option_or-none _ _ e in
    let counts = counts-none config (breach-none 6 _ a.1) in
    (misnamed-parts config (breach-none 5 _ a.0), counts.0, counts.1, counts.2)

record Areas (areas : List AreaDef) : Type 0 where
  whole : ragged_area areas ≡ None
  low : high_area areas ≡ None
  apart : overlapping_area areas ≡ None
  small : large_areas areas ≡ None

areas-none : (config : Config) (board : Board) → broken_area config board ≡ None → Areas config.areas
unfolding broken_area
areas-none config board e =
    let a = option_or-none _ _ e in
    let b = option_or-none _ _ a.1 in
    let c = option_or-none _ _ b.1 in
    let d = option_or-none _ _ c.1 in
    record { whole = breach-none 7 _ a.0; low = breach-none 8 _ b.0; apart = breach-none 10 _ d.0; small = breach-none 11 _ d.1 }

record Guests (config : Config) : Type 0 where
  placed : misplaced_guest config ≡ None
  apart : overlapping_guest config ≡ None
  different : repeated_guest config.parts ≡ None

guests-none : (config : Config) → broken_guest config ≡ None → Guests config
unfolding broken_guest
guests-none config e =
    let a = option_or-none _ _ e in
    let b = option_or-none _ _ a.1 in
    record { placed = breach-none 12 _ a.0; apart = breach-none 13 _ b.0; different = breach-none 14 _ b.1 }

record Parts (config : Config) : Type 0 where
  counted : miscounted_part config.parts ≡ None
  cores : taking_part config.parts ≡ None
  windows : windowless_part config ≡ None

parts-none : (config : Config) (board : Board) → broken_part config board ≡ None → Parts config
unfolding broken_part
parts-none config board e =
    let a = option_or-none _ _ e in
    let b = option_or-none _ _ a.1 in
    let c = option_or-none _ _ b.1 in
    record { counted = breach-none 15 _ a.0; cores = breach-none 17 _ c.0; windows = breach-none 18 _ c.1 }

record Links (config : Config) : Type 0 where
  tight : loose_channel config.parts config.channels ≡ None
  printing : misprinting_channel config.channels ≡ None
  others : own_manager config.parts ≡ None
  once : second_manager config.parts ≡ None

links-none : (config : Config) → broken_link config ≡ None → Links config
unfolding broken_link
links-none config e =
    let a = option_or-none _ _ e in
    let b = option_or-none _ _ a.1 in
    let c = option_or-none _ _ b.1 in
    record { tight = breach-none 19 _ a.0; printing = breach-none 20 _ b.0; others = breach-none 21 _ c.0; once = breach-none 22 _ c.1 }

pub kept : (config : Config) (board : Board) → first_broken config board ≡ None → Kept config
unfolding first_broken
kept config board e =
    let a = option_or-none _ _ e in
    let b = option_or-none _ _ a.1 in
    let c = option_or-none _ _ b.1 in
    let d = option_or-none _ _ c.1 in
    let lists = lists-none config a.0 in
    let areas = areas-none config board b.0 in
    let guests = guests-none config c.0 in
    let parts = parts-none config board d.0 in
    let links = links-none config d.1 in
    record {
      free_names = all-free config lists.0;
      plain_consoles = all-plain config links.printing;
      guests_named = all-guests config lists.0;
      handles_named = all-handles config lists.0;
      few_areas = lists.1;
      few_parts = lists.2;
      few = lists.3;
      whole = whole-none config.areas areas.whole;
      low = low-none config.areas areas.low;
      areas_apart = apart-none config.areas areas.apart;
      small = small-none config.areas areas.small;
      guests_placed = placed-guests config guests.placed;
      guests_apart = apart-guests config guests.apart;
      areas_differ = different-areas config.parts guests.different;
      counted = counted-none config.parts parts.counted;
      cores_differ = different-cores config.parts parts.cores;
      cores_apart = apart-cores config.parts parts.cores;
      windows = windows-none config parts.windows;
      tight = tight-none config.parts config.channels links.tight;
      others = others-none config.parts links.others;
      managed_once = once-none config.parts links.once;
    }
