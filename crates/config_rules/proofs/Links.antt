-- The links of a configuration that breaks no rule.
use Rattle.std.proofs.Common.{◌≡◌, ℕ, zero, suc, ◌+◌, ◌<◌, ◌≤◌, ◌⊎◌, Bool, true, false, ◌&&◌, ◌||◌, not, cond, ◌==◌, List, [], ◌∷◌, length, Option, Some, None, refl, sym, ap, subst, ◌∙◌, sum_by, arith, inl, inr}
use Rattle.std.specs.Prelude.{slice_get, count_by, is_some, nat_le, nat_lt}
use Rattle.std.specs.List.{list_all, list_any, filter_map, cons_option, range_with_len}
use Rattle.std.specs.Option.{option_map_or}
use Rattle.std.proofs.lemmas.Bool.{and_parts, and_from, false_from_ne_true}
use Rattle.std.proofs.lemmas.Bool.Decides.{Decides-eqb}
use Rattle.std.proofs.lemmas.List.Sums.{sum_by-cons}
use Rattle.hv_config.specs.declared.form.Kind.{Kind}
use Rattle.hv_config.specs.declared.form.Kind.TheVariants as kind
use Rattle.hv_config.specs.declared.config.ChannelDef.{ChannelDef}
use Rattle.hv_config.specs.declared.config.HandleDef.{HandleDef}
use Rattle.hv_config.specs.declared.config.PartDef.{PartDef}
use Rattle.hv_config.specs.declared.config.Config.{Config}
use Rattle.machine_desc.specs.declared.wiring.PortRef.{PortRef}
use Rattle.machine_desc.specs.declared.wiring.End.TheVariants as end
use Rattle.machine_desc.specs.declared.wiring.Link.{Link}
use Rattle.machine_desc.specs.Joined.{same_ref, names_port, is_channel as is_channel_port, is_at, is_console, is_link_joined, ends_at, ends_at_console, is_console_linked, are_links_joined}
use Rattle.config_checks.specs.Channels.{is_channel, is_end_of, ends_in, ends_of, has_both, is_loose}
use Rattle.config_descs.specs.Desc.{descs_of}
use Rattle.config_descs.specs.Wired.{same_kind, is_on, refs_of, link_of, console_of, behind_console, links_from, wiring_of}
use Rattle.config_rules.proofs.Lists.{count-cons, count-equal, sum-equal, any-at, one_of, two_of}
use Rattle.config_rules.proofs.Names.{number-itself}
use Rattle.config_rules.proofs.Refs.{bit, is_in, refs-length, refs-part, count_at}
use Rattle.config_rules.proofs.Handles.{channels-named}
use Rattle.config_rules.proofs.Kept.{Kept}
use Rattle.config_rules.proofs.Numbers.{none-and}

-- ---- the ends of one channel

abbrev channel_refs : List PartDef → ChannelDef → List PortRef
channel_refs parts channel = refs_of parts kind.Channel channel.name

same-kinds : (k : Kind) → same_kind k kind.Channel ≡ is_channel k
same-kinds kind.Channel = refl
same-kinds kind.Send = refl
same-kinds kind.Receive = refl
same-kinds kind.Manage = refl

same-ends : (name : List ℕ) (handle : HandleDef) → is_on kind.Channel name handle ≡ is_end_of name handle
same-ends name handle = rw (same-kinds handle.kind) refl

ends-in : (name : List ℕ) (part : PartDef) → count_by (is_on kind.Channel name) part.handles ≡ ends_in name part
ends-in name part = count-equal (is_on kind.Channel name) (is_end_of name) (same-ends name) part.handles

ends-length : (parts : List PartDef) (name : List ℕ) → length (refs_of parts kind.Channel name) ≡ sum_by (ends_in name) parts
ends-length parts name =
    refs-length kind.Channel name parts ∙ sum-equal (λ (part : PartDef). count_by (is_on kind.Channel name) part.handles) (ends_in name) (ends-in name) parts

-- two handles of different partitions
pub record Two (parts : List PartDef) (channel : ChannelDef) : Type 0 where
  a : PortRef
  b : PortRef
  silent : channel.console ≡ None
  refs : channel_refs parts channel ≡ a ∷ b ∷ []
  apart : (a.part == b.part) ≡ false

-- a handle and a console
pub record Printing (parts : List PartDef) (channel : ChannelDef) : Type 0 where
  a : PortRef
  name : List ℕ
  console : channel.console ≡ Some name
  refs : channel_refs parts channel ≡ a ∷ []

tight-parts : (a b : Bool) → not (not a || b) ≡ true → (a ≡ true) × (b ≡ false)
tight-parts true false e = (refl, refl)
tight-parts true true e = absurd cc
tight-parts false b e = absurd cc

both-in : (a b : PortRef) → (a.part == b.part) ≡ true → count_by (is_in b.part) (a ∷ b ∷ []) ≡ 2
both-in a b same =
    count-cons (is_in b.part) a (b ∷ []) ∙ rw (count-cons (is_in b.part) b [], same, number-itself b.part) refl

-- no two ends are in one partition
ends-apart : (parts : List PartDef) (name : List ℕ) (a b : PortRef) → refs_of parts kind.Channel name ≡ a ∷ b ∷ [] → list_any (has_both name) parts ≡ false → (a.part == b.part) ≡ false
ends-apart parts name a b refs none = false_from_ne_true (a.part == b.part) (λ same.
    let two : count_at kind.Channel name parts b.part ≡ 2 =
    sym (refs-part kind.Channel name parts b.part) ∙ ap (count_by (is_in b.part)) refs ∙ both-in a b same in
    let cases : (o : Option PartDef) → slice_get parts b.part ≡ o → option_map_or (λ (part : PartDef). count_by (is_on kind.Channel name) part.handles) o 0 ≡ 2 → ⊥ =
    λ o. elim o as (λ o. slice_get parts b.part ≡ o → option_map_or (λ (part : PartDef). count_by (is_on kind.Channel name) part.handles) o 0 ≡ 2 → ⊥) [
      | None ↦ λ at e. absurd (omega (arith, e))
      | Some part ↦ λ at e.
          let both : has_both name part ≡ true = (Decides-eqb (ends_in name part) 2).1 (sym (ends-in name part) ∙ e) in
          let found : list_any (has_both name) parts ≡ true = any-at (has_both name) parts b.part part at both in
          cc
    ] in
    cases (slice_get parts b.part) refl two)

plus_one : (n : ℕ) → n + 1 ≡ 2 → n ≡ 1
plus_one n e = omega (arith, e)

plus_none : (n : ℕ) → n + 0 ≡ 2 → n ≡ 2
plus_none n e = omega (arith, e)

pub ends : (parts : List PartDef) (channel : ChannelDef) → not (is_loose parts channel) ≡ true → Two parts channel ⊎ Printing parts channel
ends parts channel tight =
    let both = tight-parts (ends_of parts channel == 2) (list_any (has_both channel.name) parts) tight in
    let total : sum_by (ends_in channel.name) parts + cond (is_some channel.console) 1 0 ≡ 2 = (Decides-eqb (ends_of parts channel) 2).0 both.0 in
    let cases : (o : Option (List ℕ)) → channel.console ≡ o → sum_by (ends_in channel.name) parts + cond (is_some o) 1 0 ≡ 2 → Two parts channel ⊎ Printing parts channel =
    λ o. elim o as (λ o. channel.console ≡ o → sum_by (ends_in channel.name) parts + cond (is_some o) 1 0 ≡ 2 → Two parts channel ⊎ Printing parts channel) [
      | None ↦ λ e t.
          let found = two_of (channel_refs parts channel) (ends-length parts channel.name ∙ plus_none (sum_by (ends_in channel.name) parts) t) in
          inl (record { a = found.0; b = found.1; silent = e; refs = found.2; apart = ends-apart parts channel.name found.0 found.1 found.2 both.1 })
      | Some name ↦ λ e t.
          let found = one_of (channel_refs parts channel) (ends-length parts channel.name ∙ plus_one (sum_by (ends_in channel.name) parts) t) in
          inr (record { a = found.0; name = name; console = e; refs = found.1 })
    ] in
    cases channel.console refl total

-- ---- its link

abbrev link_at : List PartDef → ℕ → ChannelDef → Link
link_at parts number channel = link_of (channel_refs parts channel) (console_of number channel)

-- the consoles of channels
abbrev consoles_in : List ChannelDef → List (List ℕ)
consoles_in channels = filter_map (λ (channel : ChannelDef). channel.console) channels

silent-number : (parts : List PartDef) (number : ℕ) (channel : ChannelDef) → Two parts channel → console_of number channel ≡ None
silent-number parts number channel two = rw two.silent refl

printing-number : (parts : List PartDef) (number : ℕ) (channel : ChannelDef) → Printing parts channel → console_of number channel ≡ Some number
printing-number parts number channel one = rw one.console refl

two-link : (parts : List PartDef) (number : ℕ) (channel : ChannelDef) (two : Two parts channel) → link_at parts number channel ≡ record { a = end.Part two.a; b = end.Part two.b }
two-link parts number channel two = ap (λ (refs : List PortRef). link_of refs (console_of number channel)) two.refs

printing-link : (parts : List PartDef) (number : ℕ) (channel : ChannelDef) (one : Printing parts channel) → link_at parts number channel ≡ record { a = end.Part one.a; b = end.Console number }
printing-link parts number channel one =
    ap (λ (refs : List PortRef). link_of refs (console_of number channel)) one.refs ∙ ap (λ (o : Option ℕ). link_of (one.a ∷ []) o) (printing-number parts number channel one)

link-joined : (config : Config) (number : ℕ) (channel : ChannelDef) → (is_some channel.console ≡ true → number < length (consoles_in config.channels))
    → Two config.parts channel ⊎ Printing config.parts channel → is_link_joined (descs_of config) (wiring_of config) (link_at config.parts number channel) ≡ true
unfolding wiring_of
link-joined config number channel room (inl two) =
    let named = subst (λ (refs : List PortRef). list_all (names_port is_channel_port (descs_of config)) refs ≡ true) two.refs (channels-named config channel.name) in
    let first = and_parts (names_port is_channel_port (descs_of config) two.a) (list_all (names_port is_channel_port (descs_of config)) (two.b ∷ [])) named in
    let second = and_parts (names_port is_channel_port (descs_of config) two.b) true first.1 in
    subst (λ (link : Link). is_link_joined (descs_of config) (wiring_of config) link ≡ true) (sym (two-link config.parts number channel two))
    (and_from _ _ (and_from _ _ first.0 second.0) (rw two.apart refl))
link-joined config number channel room (inr one) =
    let named = subst (λ (refs : List PortRef). list_all (names_port is_channel_port (descs_of config)) refs ≡ true) one.refs (channels-named config channel.name) in
    let first = and_parts (names_port is_channel_port (descs_of config) one.a) true named in
    let some : is_some channel.console ≡ true = rw one.console refl in
    let there : number < length (consoles_in config.channels) = room some in
    let below : nat_lt number (length (consoles_in config.channels)) ≡ true = grind (arith, there) in
    subst (λ (link : Link). is_link_joined (descs_of config) (wiring_of config) link ≡ true) (sym (printing-link config.parts number channel one))
    (and_from _ _ (and_from _ _ first.0 below) refl)

behind : (number : ℕ) (channel : ChannelDef) (rest : List (List ℕ)) → number + length (cons_option channel.console rest) ≡ behind_console number channel + length rest
behind number channel rest =
    elim channel.console as (λ o. number + length (cons_option o rest) ≡ cond (is_some o) (number + 1) number + length rest)
    [ None ↦ refl | Some name ↦ omega arith ]

room-behind : (number : ℕ) (channel : ChannelDef) → is_some channel.console ≡ true → behind_console number channel ≡ number + 1
room-behind number channel e = rw e refl

links-joined-from : (config : Config) (number : ℕ) (channels : List ChannelDef) → number + length (consoles_in channels) ≤ length (consoles_in config.channels)
    → list_all (λ (channel : ChannelDef). not (is_loose config.parts channel)) channels ≡ true
    → list_all (is_link_joined (descs_of config) (wiring_of config)) (links_from config.parts number channels) ≡ true
links-joined-from config number [] few tight = refl
links-joined-from config number (channel ∷ channels) few tight =
    let both = and_parts (not (is_loose config.parts channel)) (list_all (λ (channel : ChannelDef). not (is_loose config.parts channel)) channels) tight in
    let same = behind number channel (consoles_in channels) in
    let below : behind_console number channel + length (consoles_in channels) ≤ length (consoles_in config.channels) = subst (λ (n : ℕ). n ≤ length (consoles_in config.channels)) same few in
    let room : is_some channel.console ≡ true → number < length (consoles_in config.channels) =
    λ some. let more = room-behind number channel some in
    let there : (number + 1) + length (consoles_in channels) ≤ length (consoles_in config.channels) = subst (λ (n : ℕ). n + length (consoles_in channels) ≤ length (consoles_in config.channels)) more below in
    omega (arith, there) in
    and_from _ _ (link-joined config number channel room (ends config.parts channel both.0)) (links-joined-from config (behind_console number channel) channels below both.1)

-- ---- ends at a handle

two-sum : (m n : ℕ) → m + n ≡ m + (n + 0)
two-sum m n = omega arith

none-between : (m number : ℕ) → 0 + 0 ≡ bit (nat_le number m && nat_lt m (number + 0))
none-between m number = grind arith

link-ends : (parts : List PartDef) (number : ℕ) (channel : ChannelDef) (ref : PortRef) → Two parts channel ⊎ Printing parts channel
    → bit (is_at ref (link_at parts number channel).a) + bit (is_at ref (link_at parts number channel).b) ≡ count_by (same_ref ref) (channel_refs parts channel)
link-ends parts number channel ref (inl two) =
    rw (two-link parts number channel two, two.refs, count-cons (same_ref ref) two.a (two.b ∷ []), count-cons (same_ref ref) two.b []) (two-sum (bit (same_ref ref two.a)) (bit (same_ref ref two.b)))
link-ends parts number channel ref (inr one) =
    rw (printing-link parts number channel one, one.refs, count-cons (same_ref ref) one.a []) refl

regroup : (a b x y : ℕ) → (a + x) + (b + y) ≡ (a + b) + (x + y)
regroup a b x y = omega arith

pub links-ends : (parts : List PartDef) (ref : PortRef) (number : ℕ) (channels : List ChannelDef) → list_all (λ (channel : ChannelDef). not (is_loose parts channel)) channels ≡ true
    → ends_at ref (links_from parts number channels) ≡ sum_by (λ (channel : ChannelDef). count_by (same_ref ref) (channel_refs parts channel)) channels
unfolding ends_at
links-ends parts ref number [] tight = refl
links-ends parts ref number (channel ∷ channels) tight =
    let both = and_parts (not (is_loose parts channel)) (list_all (λ (channel : ChannelDef). not (is_loose parts channel)) channels) tight in
    let here = link-ends parts number channel ref (ends parts channel both.0) in
    let below = links-ends parts ref (behind_console number channel) channels both.1 in
    let rest = links_from parts (behind_console number channel) channels in
    rw (count-cons (λ (link : Link). is_at ref link.a) (link_at parts number channel) rest, count-cons (λ (link : Link). is_at ref link.b) (link_at parts number channel) rest)
    (regroup (bit (is_at ref (link_at parts number channel).a)) (bit (is_at ref (link_at parts number channel).b)) (count_by (λ (link : Link). is_at ref link.a) rest) (count_by (λ (link : Link). is_at ref link.b) rest)
    ∙ rw (here, below) (sym (sum_by-cons (λ (channel : ChannelDef). count_by (same_ref ref) (channel_refs parts channel)) channel channels)))

-- ---- ends at a console

link-console : (parts : List PartDef) (number : ℕ) (channel : ChannelDef) (m : ℕ) → Two parts channel ⊎ Printing parts channel
    → bit (is_console m (link_at parts number channel).a) + bit (is_console m (link_at parts number channel).b) ≡ bit (is_some channel.console && m == number)
link-console parts number channel m (inl two) = rw (two-link parts number channel two, two.silent) refl
link-console parts number channel m (inr one) = rw (printing-link parts number channel one, one.console) (none-and (bit (m == number)))

silent-count : (number m n : ℕ) → bit (false && m == number) + bit (nat_le number m && nat_lt m (number + n)) ≡ bit (nat_le number m && nat_lt m (number + n))
silent-count number m n = none-and (bit (nat_le number m && nat_lt m (number + n)))

printing-count : (number m n : ℕ) → bit (m == number) + bit (nat_le (number + 1) m && nat_lt m ((number + 1) + n)) ≡ bit (nat_le number m && nat_lt m (number + suc n))
printing-count number m n = grind arith

consoles-from : (parts : List PartDef) (m number : ℕ) (channels : List ChannelDef) → list_all (λ (channel : ChannelDef). not (is_loose parts channel)) channels ≡ true
    → ends_at_console m (links_from parts number channels) ≡ bit (nat_le number m && nat_lt m (number + length (consoles_in channels)))
unfolding ends_at_console
consoles-from parts m number [] tight = none-between m number
consoles-from parts m number (channel ∷ channels) tight =
    let both = and_parts (not (is_loose parts channel)) (list_all (λ (channel : ChannelDef). not (is_loose parts channel)) channels) tight in
    let here = link-console parts number channel m (ends parts channel both.0) in
    let below = consoles-from parts m (behind_console number channel) channels both.1 in
    let rest = links_from parts (behind_console number channel) channels in
    let n = length (consoles_in channels) in
    rw (count-cons (λ (link : Link). is_console m link.a) (link_at parts number channel) rest, count-cons (λ (link : Link). is_console m link.b) (link_at parts number channel) rest)
    (regroup (bit (is_console m (link_at parts number channel).a)) (bit (is_console m (link_at parts number channel).b)) (count_by (λ (link : Link). is_console m link.a) rest) (count_by (λ (link : Link). is_console m link.b) rest)
    ∙ rw (here, below) (elim channel.console as (λ o. bit (is_some o && m == number) + bit (nat_le (cond (is_some o) (number + 1) number) m && nat_lt m (cond (is_some o) (number + 1) number + n))
    ≡ bit (nat_le number m && nat_lt m (number + length (cons_option o (consoles_in channels)))))
    [ None ↦ silent-count number m n | Some name ↦ printing-count number m n ]))

all-range : (p : ℕ → Bool) (a n : ℕ) → ((k : ℕ) → a ≤ k → k < a + n → p k ≡ true) → list_all p (range_with_len a n) ≡ true
all-range p a zero at = refl
all-range p a (suc n) at =
    and_from _ _ (at a (omega arith) (omega arith)) (all-range p (a + 1) n (λ k low high. at k (omega arith) (omega arith)))

within-all : (k n : ℕ) → k < n → bit (nat_le 0 k && nat_lt k (0 + n)) ≡ 1
within-all k n h = grind arith

pub links-joined : (config : Config) → Kept config → are_links_joined (descs_of config) (wiring_of config) ≡ true
unfolding are_links_joined wiring_of
links-joined config kept =
    and_from _ _ (links-joined-from config 0 config.channels (omega arith) kept.tight)
    (all-range (is_console_linked (links_from config.parts 0 config.channels)) 0 (length (consoles_in config.channels)) (λ k low high.
    let below : k < length (consoles_in config.channels) = omega arith in
    (Decides-eqb (ends_at_console k (links_from config.parts 0 config.channels)) 1).1 (consoles-from config.parts k 0 config.channels kept.tight ∙ within-all k (length (consoles_in config.channels)) below)))
