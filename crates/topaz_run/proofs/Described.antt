-- The descriptions that images and device trees complete are those of the partitions, and can be started from.
use Rattle.std.proofs.Common.{◌≡◌, ◌%◌, ◌+◌, true, ◌&&◌, nat_lt, List, [], ◌∷◌, map, refl, sym, ap, subst, ◌∙◌}
use Rattle.std.specs.Prelude.{◌==◌, nat_le}
use Rattle.std.specs.List.{list_all}
use Rattle.std.proofs.lemmas.Bool.{and_parts, and_from}
use Rattle.hv_config.specs.declared.config.PartDef.{PartDef}
use Rattle.hv_config.specs.declared.config.Config.{Config}
use Rattle.machine_desc.specs.declared.desc.Desc.{Desc}
use Rattle.machine_desc.specs.Limits.{mapped_end, spin_room}
use Rattle.machine_desc.specs.Private.{is_private_range}
use Rattle.machine_desc.specs.Sound.{is_start_mapped, is_private_piece, is_sound, IsSound}
use Rattle.machine_desc.specs.Joined.{AreJoined}
use Rattle.config_descs.specs.Desc.{desc_of, descs_of}
use Rattle.config_descs.specs.Wired.{wiring_of}
use Rattle.config_rules.specs.Accepted.{IsAccepted}
use Rattle.config_rules.specs.Completed.{stripped, is_startable}
use Rattle.config_rules.specs.Parts.{has_window}
use Rattle.config_rules.specs.Laws.{AcceptedKeepParts, BasesAreJoined, CompletedAreJoined}
use Rattle.fresh_load.specs.Described.{described}
use Rattle.fresh_load.proofs.Starting.{sound_parts, startable}
use Rattle.topaz_run.specs.Laws.{IsDescribed, AreDescribed}
use Rattle.topaz_run.proofs.Joins.{joins}

-- completing changes nothing but entry and pieces
stripped-described : (config : Config) (part : PartDef) (desc : Desc) → IsDescribed config part desc → stripped desc ≡ desc_of config part
unfolding stripped desc_of described
stripped-described config part desc is = ap stripped is.is

start-of : (desc : Desc) → is_start_mapped desc ≡ true → (nat_lt desc.entry mapped_end ≡ true) × (desc.entry % 4 == 0 ≡ true)
unfolding is_start_mapped
start-of desc e =
    let a = and_parts (nat_lt desc.tree_at mapped_end && nat_lt desc.entry mapped_end) (desc.entry % 4 == 0) e in
    ((and_parts (nat_lt desc.tree_at mapped_end) (nat_lt desc.entry mapped_end) a.0).1, a.1)

sound-starts : (desc : Desc) → IsSound desc → is_startable desc ≡ true
unfolding is_startable
sound-starts desc sound =
    let parts = sound_parts desc sound in
    let start = start-of desc parts.start in
    and_from (nat_lt desc.entry mapped_end && desc.entry % 4 == 0) (list_all (is_private_piece desc.regions) desc.pieces)
    (and_from (nat_lt desc.entry mapped_end) (desc.entry % 4 == 0) start.0 start.1) parts.pieces

private-window : (desc : Desc) → has_window desc ≡ true → is_private_range desc.regions desc.tree_at desc.tree_size ≡ true
unfolding has_window
private-window desc e =
    let a = and_parts (is_private_range desc.regions desc.tree_at desc.tree_size && nat_le (desc.tree_at + desc.tree_size) mapped_end) (nat_le spin_room desc.tree_size) e in
    (and_parts (is_private_range desc.regions desc.tree_at desc.tree_size) (nat_le (desc.tree_at + desc.tree_size) mapped_end) a.0).0

starts : (config : Config) (part : PartDef) (desc : Desc) → IsDescribed config part desc → IsSound (desc_of config part) → has_window (desc_of config part) ≡ true → is_startable desc ≡ true
starts config part desc is sound window =
    let base = desc_of config part in
    subst (λ (d : Desc). is_startable d ≡ true) (sym is.is) (sound-starts (described base is.file is.image is.tree) (startable base is.file is.image is.tree sound is.kept (private-window base window)))

-- ---- all of them

all-stripped : (config : Config) (parts : List PartDef) (descs : List Desc) → AreDescribed config parts descs → map stripped descs ≡ map (desc_of config) parts
all-stripped config [] [] are = refl
all-stripped config [] (desc ∷ descs) are = absurd are
all-stripped config (part ∷ parts) [] are = absurd are
all-stripped config (part ∷ parts) (desc ∷ descs) are =
    ap (λ (d : Desc). d ∷ map stripped descs) (stripped-described config part desc are.0)
    ∙ ap (λ (ds : List Desc). desc_of config part ∷ ds) (all-stripped config parts descs are.1)

all-start : (config : Config) (parts : List PartDef) (descs : List Desc) → AreDescribed config parts descs → list_all is_sound (map (desc_of config) parts) ≡ true
    → list_all has_window (map (desc_of config) parts) ≡ true → list_all is_startable descs ≡ true
all-start config [] [] are sound windows = refl
all-start config [] (desc ∷ descs) are sound windows = absurd are
all-start config (part ∷ parts) [] are sound windows = absurd are
all-start config (part ∷ parts) (desc ∷ descs) are sound windows =
    let here = and_parts (is_sound (desc_of config part)) (list_all is_sound (map (desc_of config) parts)) sound in
    let window = and_parts (has_window (desc_of config part)) (list_all has_window (map (desc_of config) parts)) windows in
    and_from (is_startable desc) (list_all is_startable descs) (starts config part desc are.0 here.0 window.0) (all-start config parts descs are.1 here.1 window.1)

pub bases_sound : (config : Config) → AreJoined (descs_of config) (wiring_of config) → list_all is_sound (descs_of config) ≡ true
bases_sound config e = (joins (descs_of config) (wiring_of config) e).sound

pub described_joined : AcceptedKeepParts → BasesAreJoined → CompletedAreJoined → (config : Config) → IsAccepted config → (descs : List Desc) → AreDescribed config config.parts descs → AreJoined descs (wiring_of config)
described_joined keep bases completed config accepted descs are =
    completed config accepted descs (record {
      bases = all-stripped config config.parts descs are;
      starts = all-start config config.parts descs are (bases_sound config (bases config accepted)) (keep config accepted).windows;
    })
