-- What the handles of a configuration stand for in its descriptions.
use Rattle.std.proofs.Common.{◌≡◌, ℕ, zero, suc, ◌+◌, ◌-◌, Bool, true, false, ◌&&◌, ◌==◌, List, [], ◌∷◌, Some, refl, ap, ◌∙◌, arith}
use Rattle.std.specs.Prelude.{slice_get}
use Rattle.std.specs.Option.{option_map_or}
use Rattle.std.proofs.lemmas.Bool.{and_parts, and_from}
use Rattle.std.proofs.lemmas.Option.{slice_get-map}
use Rattle.hv_config.specs.declared.form.Kind.{Kind}
use Rattle.hv_config.specs.declared.form.Kind.TheVariants as kind
use Rattle.hv_config.specs.declared.config.HandleDef.{HandleDef}
use Rattle.hv_config.specs.declared.config.PartDef.{PartDef}
use Rattle.hv_config.specs.declared.config.Config.{Config}
use Rattle.machine_desc.specs.declared.desc.Port.{Port}
use Rattle.machine_desc.specs.Joined.{names_port, is_channel, is_send, is_receive, is_manager}
use Rattle.config_descs.specs.Numbered.{number_of}
use Rattle.config_descs.specs.Desc.{manage_port, interrupts_of, kind_port, port_of, ports_from, desc_of, descs_of}
use Rattle.config_descs.specs.Wired.{same_kind, refs_of}
use Rattle.std.specs.List.{list_all}
use Rattle.std.specs.Str.{bytes_eq}
use Rattle.config_rules.proofs.Names.{same_name, number-itself}
use Rattle.config_rules.proofs.Refs.{ref_at, refs-all}

ports-sort : (config : Config) (sort : Port → Bool) (test : HandleDef → Bool) → ((n : ℕ) (handle : HandleDef) → sort (port_of config n handle) ≡ test handle)
    → (next : ℕ) (handles : List HandleDef) (j : ℕ) → option_map_or sort (slice_get (ports_from config next handles) j) false ≡ option_map_or test (slice_get handles j) false
ports-sort config sort test same next [] j = refl
ports-sort config sort test same next (handle ∷ handles) zero = same next handle
ports-sort config sort test same next (handle ∷ handles) (suc j) = ports-sort config sort test same (next + interrupts_of handle.kind) handles j

-- a handle's number names the port that stands for it
pub names-at : (config : Config) (sort : Port → Bool) (test : HandleDef → Bool) → ((n : ℕ) (handle : HandleDef) → sort (port_of config n handle) ≡ test handle)
    → (k : ℕ) (part : PartDef) (j : ℕ) (handle : HandleDef) → slice_get config.parts k ≡ Some part → slice_get part.handles j ≡ Some handle
    → names_port sort (descs_of config) (ref_at k (1 + j)) ≡ test handle
unfolding desc_of
names-at config sort test same k part j handle e f =
    let none : ((1 + j) == 0) ≡ false = grind arith in
    let less : (1 + j) - 1 ≡ j = omega arith in
    rw (none, less, slice_get-map (desc_of config) config.parts k, e) (ports-sort config sort test same 0 part.handles j ∙ rw f refl)

-- ---- each kind

channel-sort : (config : Config) (n : ℕ) (handle : HandleDef) → is_channel (port_of config n handle) ≡ same_kind handle.kind kind.Channel
unfolding manage_port
channel-sort config n handle =
    elim handle.kind as (λ k. is_channel (kind_port config n k handle.target) ≡ same_kind k kind.Channel) [ kind.Channel ↦ refl | kind.Send ↦ refl | kind.Receive ↦ refl | kind.Manage ↦ refl ]

send-sort : (config : Config) (n : ℕ) (handle : HandleDef) → is_send (port_of config n handle) ≡ same_kind handle.kind kind.Send
unfolding manage_port
send-sort config n handle =
    elim handle.kind as (λ k. is_send (kind_port config n k handle.target) ≡ same_kind k kind.Send) [ kind.Channel ↦ refl | kind.Send ↦ refl | kind.Receive ↦ refl | kind.Manage ↦ refl ]

receive-sort : (config : Config) (n : ℕ) (handle : HandleDef) → is_receive (port_of config n handle) ≡ same_kind handle.kind kind.Receive
unfolding manage_port
receive-sort config n handle =
    elim handle.kind as (λ k. is_receive (kind_port config n k handle.target) ≡ same_kind k kind.Receive) [ kind.Channel ↦ refl | kind.Send ↦ refl | kind.Receive ↦ refl | kind.Manage ↦ refl ]

manager-sort : (config : Config) (i n : ℕ) (handle : HandleDef) → is_manager i (port_of config n handle) ≡ (same_kind handle.kind kind.Manage && number_of config.parts handle.target == i)
unfolding manage_port
manager-sort config i n handle =
    elim handle.kind as (λ k. is_manager i (kind_port config n k handle.target) ≡ (same_kind k kind.Manage && number_of config.parts handle.target == i))
    [ kind.Channel ↦ refl | kind.Send ↦ refl | kind.Receive ↦ refl | kind.Manage ↦ refl ]

-- the handles of a kind on something are ports of that sort
refs-sort : (config : Config) (kind : Kind) (name : List ℕ) (sort : Port → Bool) → ((n : ℕ) (handle : HandleDef) → sort (port_of config n handle) ≡ same_kind handle.kind kind)
    → list_all (names_port sort (descs_of config)) (refs_of config.parts kind name) ≡ true
refs-sort config kind name sort same =
    refs-all (names_port sort (descs_of config)) kind name config.parts (λ k part j handle e f on.
    names-at config sort (λ (handle : HandleDef). same_kind handle.kind kind) same k part j handle e f ∙ (and_parts (same_kind handle.kind kind) _ on).0)

pub channels-named : (config : Config) (name : List ℕ) → list_all (names_port is_channel (descs_of config)) (refs_of config.parts kind.Channel name) ≡ true
channels-named config name = refs-sort config kind.Channel name is_channel (channel-sort config)

pub sends-named : (config : Config) (name : List ℕ) → list_all (names_port is_send (descs_of config)) (refs_of config.parts kind.Send name) ≡ true
sends-named config name = refs-sort config kind.Send name is_send (send-sort config)

pub receives-named : (config : Config) (name : List ℕ) → list_all (names_port is_receive (descs_of config)) (refs_of config.parts kind.Receive name) ≡ true
receives-named config name = refs-sort config kind.Receive name is_receive (receive-sort config)

-- those that manage a partition are managers of its number
pub managers-named : (config : Config) (name : List ℕ) (i : ℕ) → number_of config.parts name ≡ i
    → list_all (names_port (is_manager i) (descs_of config)) (refs_of config.parts kind.Manage name) ≡ true
managers-named config name i number =
    refs-all (names_port (is_manager i) (descs_of config)) kind.Manage name config.parts (λ k part j handle e f on.
    let parts = and_parts (same_kind handle.kind kind.Manage) (bytes_eq handle.target name) on in
    let target : handle.target ≡ name = same_name handle.target name parts.1 in
    let same : number_of config.parts handle.target ≡ i = ap (number_of config.parts) target ∙ number in
    names-at config (is_manager i) (λ (handle : HandleDef). same_kind handle.kind kind.Manage && number_of config.parts handle.target == i) (manager-sort config i) k part j handle e f
    ∙ and_from _ _ parts.0 (rw same (number-itself i)))
