-- The names of described partitions and of consoles are words, and no line of the program is taken for a partition's.
use Rattle.std.proofs.Common.{◌≡◌, ℕ, Bool, true, false, ◌&&◌, ◌||◌, not, List, [], ◌∷◌, ◌++◌, length, map, None, Some, refl, sym, ap, subst, ◌∙◌, arith}
use Rattle.std.specs.Prelude.{codes, bytes_eq, nat_le, ◌==◌}
use Rattle.std.specs.List.{list_all, list_any, filter_map, cons_option}
use Rattle.std.specs.Option.{option_map_or}
use Rattle.std.proofs.lemmas.Bool.{and_parts, and_from}
use Rattle.std.proofs.lemmas.List.{map-append}
use Rattle.std.proofs.lemmas.Slice.Eq.{bytes_eq-Decides}
use Rattle.hv_config.specs.declared.config.ChannelDef.{ChannelDef}
use Rattle.hv_config.specs.declared.config.PartDef.{PartDef}
use Rattle.hv_config.specs.declared.config.Config.{Config}
use Rattle.hv_config.specs.Plain.{part_names, is_plain_channel}
use Rattle.dt_model.specs.Name.{is_node_char, is_node_name, is_name_of, has}
use Rattle.dt_model.specs.Value.{is_text}
use Rattle.dt_model.specs.Kept.{are_apart}
use Rattle.machine_desc.specs.declared.desc.Desc.{Desc}
use Rattle.machine_desc.specs.Ranges.{none_meets}
use Rattle.config_checks.specs.Channels.{is_console_char}
use Rattle.config_descs.specs.Desc.{desc_of}
use Rattle.config_descs.specs.Wired.{wiring_of}
use Rattle.config_rules.specs.Accepted.{IsAccepted}
use Rattle.config_rules.specs.Names.{is_free_name, has_plain_console}
use Rattle.config_rules.specs.Laws.{AcceptedKeepNames}
use Rattle.fresh_load.specs.Described.{described}
use Rattle.network.specs.Laws.{IsNamed, is_plain, is_word, is_taken, is_name, have_name}
use Rattle.topaz_run.specs.Laws.{AreDescribed, IsDescribed}

-- ---- names of partitions

char-plain : (byte : ℕ) → is_node_char byte ≡ true → is_plain byte ≡ true
char-plain byte e = plain (byte == 10) (byte == 32) refl refl
  where
    plain : (ends parts : Bool) → (byte == 10) ≡ ends → (byte == 32) ≡ parts → not (ends || parts) ≡ true
    plain false false one other = refl
    plain true parts one other = absurd (grind (arith, e, one))
    plain false true one other = absurd (grind (arith, e, other))

chars-plain : (name : List ℕ) → list_all is_node_char name ≡ true → list_all is_plain name ≡ true
chars-plain [] e = refl
chars-plain (byte ∷ bytes) e =
    let both = and_parts (is_node_char byte) (list_all is_node_char bytes) e in
    and_from (is_plain byte) (list_all is_plain bytes) (char-plain byte both.0) (chars-plain bytes both.1)

some-bytes : (name : List ℕ) → nat_le 1 (length name) ≡ true → not (bytes_eq name []) ≡ true
some-bytes [] e = absurd cc
some-bytes (byte ∷ bytes) e = refl

name-word : (name : List ℕ) → is_node_name name ≡ true → is_word name ≡ true
unfolding is_name_of
name-word name e =
    let a = and_parts _ _ e in
    let b = and_parts _ (list_all is_node_char name) a.0 in
    let c = and_parts (nat_le 1 (length name)) _ b.0 in
    and_from (not (bytes_eq name [])) (list_all is_plain name) (some-bytes name c.0) (chars-plain name b.1)

free : (one two three four five six seven eight : Bool) → not (one || two || three || four || five || six || seven || eight) ≡ true → not (one || (two || three)) ≡ true
free false false false four five six seven eight e = refl
free true two three four five six seven eight e = absurd cc
free false true three four five six seven eight e = absurd cc
free false false true four five six seven eight e = absurd cc

free-name : (part : PartDef) → is_free_name part ≡ true → not (is_taken part.name) ≡ true
free-name part e =
    let name = part.name in
    free (bytes_eq name (codes "end")) (bytes_eq name (codes "console")) (bytes_eq name (codes "refused")) (bytes_eq name (codes "core"))
    (bytes_eq name (codes "page")) (bytes_eq name (codes "gen")) (bytes_eq name (codes "accepted")) (bytes_eq name (codes "self")) e

named-as : (config : Config) (part : PartDef) (desc : Desc) → IsDescribed config part desc → desc.name ≡ part.name
unfolding described desc_of
named-as config part desc is = ap (λ (d : Desc). d.name) is.is

-- each is one, by the names of the list
names-here : (config : Config) (before : List (List ℕ)) (parts : List PartDef) (descs : List Desc) → AreDescribed config parts descs → are_apart before (part_names parts) ≡ true
    → list_all is_free_name parts ≡ true → list_all is_name descs ≡ true
names-here config before [] [] are apart free = refl
names-here config before [] (desc ∷ descs) are apart free = absurd are
names-here config before (part ∷ parts) [] are apart free = absurd are
names-here config before (part ∷ parts) (desc ∷ descs) are apart free =
    let here = and_parts (is_node_name part.name && not (has before part.name)) (are_apart (before ++ part.name ∷ []) (part_names parts)) apart in
    let name = (and_parts (is_node_name part.name) (not (has before part.name)) here.0).0 in
    let frees = and_parts (is_free_name part) (list_all is_free_name parts) free in
    let same = named-as config part desc are.0 in
    and_from (is_name desc) (list_all is_name descs)
    (subst (λ (name : List ℕ). (is_word name && not (is_taken name)) ≡ true) (sym same) (and_from (is_word part.name) (not (is_taken part.name)) (name-word part.name name) (free-name part frees.0)))
    (names-here config (before ++ part.name ∷ []) parts descs are.1 here.1 frees.1)

-- ---- they differ

alike : (one other : Bool) → (one ≡ true → other ≡ true) → (other ≡ true → one ≡ true) → one ≡ other
alike true other there back = sym (there refl)
alike false true there back = back refl
alike false false there back = refl

bytes_eq-comm : (xs ys : List ℕ) → bytes_eq xs ys ≡ bytes_eq ys xs
bytes_eq-comm xs ys = alike (bytes_eq xs ys) (bytes_eq ys xs)
    (λ e. (bytes_eq-Decides ys xs).1 (sym ((bytes_eq-Decides xs ys).0 e)))
    (λ e. (bytes_eq-Decides xs ys).1 (sym ((bytes_eq-Decides ys xs).0 e)))

same-any : (earlier : List Desc) (desc : Desc) → list_any (have_name desc) earlier ≡ has (map (λ (other : Desc). other.name) earlier) desc.name
same-any [] desc = refl
same-any (other ∷ earlier) desc =
    ap (λ (b : Bool). b || list_any (have_name desc) earlier) (bytes_eq-comm desc.name other.name) ∙ ap (λ (b : Bool). bytes_eq other.name desc.name || b) (same-any earlier desc)

apart-from : (config : Config) (earlier : List Desc) (before : List (List ℕ)) (parts : List PartDef) (descs : List Desc) → map (λ (other : Desc). other.name) earlier ≡ before
    → AreDescribed config parts descs → are_apart before (part_names parts) ≡ true → none_meets have_name earlier descs ≡ true
apart-from config earlier before [] [] names are apart = refl
apart-from config earlier before [] (desc ∷ descs) names are apart = absurd are
apart-from config earlier before (part ∷ parts) [] names are apart = absurd are
apart-from config earlier before (part ∷ parts) (desc ∷ descs) names are apart =
    let here = and_parts (is_node_name part.name && not (has before part.name)) (are_apart (before ++ part.name ∷ []) (part_names parts)) apart in
    let other = (and_parts (is_node_name part.name) (not (has before part.name)) here.0).1 in
    let same : desc.name ≡ part.name = named-as config part desc are.0 in
    let known : list_any (have_name desc) earlier ≡ has before part.name = same-any earlier desc ∙ ap (λ (names : List (List ℕ)). has names desc.name) names ∙ ap (has before) same in
    and_from (not (list_any (have_name desc) earlier)) (none_meets have_name (earlier ++ desc ∷ []) descs) (ap not known ∙ other)
    (apart-from config (earlier ++ desc ∷ []) (before ++ part.name ∷ []) parts descs (map-append (λ (other : Desc). other.name) earlier (desc ∷ []) ∙ ap (λ (names : List (List ℕ)). names ++ desc.name ∷ []) names ∙ ap (λ (name : List ℕ). before ++ name ∷ []) same) are.1 here.1)

-- ---- consoles

console-plain : (byte : ℕ) → is_console_char byte ≡ true → is_plain byte ≡ true
console-plain byte e = plain (byte == 10) (byte == 32) refl refl
  where
    plain : (ends parts : Bool) → (byte == 10) ≡ ends → (byte == 32) ≡ parts → not (ends || parts) ≡ true
    plain false false one other = refl
    plain true parts one other = absurd (grind (arith, e, one))
    plain false true one other = absurd (grind (arith, e, other))

consoles-plain : (name : List ℕ) → list_all is_console_char name ≡ true → list_all is_plain name ≡ true
consoles-plain [] e = refl
consoles-plain (byte ∷ bytes) e =
    let both = and_parts (is_console_char byte) (list_all is_console_char bytes) e in
    and_from (is_plain byte) (list_all is_plain bytes) (console-plain byte both.0) (consoles-plain bytes both.1)

console-word : (name : List ℕ) → is_text name ≡ true → list_all is_console_char name ≡ true → is_word name ≡ true
console-word name text chars =
    let some = and_parts (nat_le 1 (length name)) (nat_le (length name) 255) (and_parts (nat_le 1 (length name) && nat_le (length name) 255) _ text).0 in
    and_from (not (bytes_eq name [])) (list_all is_plain name) (some-bytes name some.0) (consoles-plain name chars)

consoles-words : (channels : List ChannelDef) → list_all is_plain_channel channels ≡ true → list_all has_plain_console channels ≡ true
    → list_all is_word (filter_map (λ (channel : ChannelDef). channel.console) channels) ≡ true
consoles-words [] text plain = refl
consoles-words (channel ∷ channels) text plain =
    let texts = and_parts (is_plain_channel channel) (list_all is_plain_channel channels) text in
    let plains = and_parts (has_plain_console channel) (list_all has_plain_console channels) plain in
    let rest = consoles-words channels texts.1 plains.1 in
    let others = filter_map (λ (channel : ChannelDef). channel.console) channels in
    elim channel.console as (λ console. option_map_or is_text console true ≡ true → option_map_or (list_all is_console_char) console true ≡ true
    → list_all is_word (cons_option console others) ≡ true) [
      | None ↦ λ text plain. rest
      | Some name ↦ λ text plain. and_from (is_word name) (list_all is_word others) (console-word name text plain) rest
    ] texts.0 plains.0

consoles-of : (config : Config) → (wiring_of config).consoles ≡ filter_map (λ (channel : ChannelDef). channel.console) config.channels
unfolding wiring_of
consoles-of config = refl

-- ---- all of it

pub described_named : AcceptedKeepNames → (config : Config) → IsAccepted config → (descs : List Desc) → AreDescribed config config.parts descs → IsNamed (record { descs = descs; wiring = wiring_of config })
described_named keep config accepted descs are =
    let kept = keep config accepted in
    record {
      names = names-here config [] config.parts descs are accepted.plain.parts kept.parts;
      apart = apart-from config [] [] config.parts descs refl are accepted.plain.parts;
      consoles = subst (λ (names : List (List ℕ)). list_all is_word names ≡ true) (sym (consoles-of config)) (consoles-words config.channels accepted.plain.consoles kept.consoles);
    }
