-- The limits that an accepted configuration keeps.
use Rattle.std.proofs.Common.{◌≡◌, ◌≤◌, true, List, [], ◌∷◌, length, All, arith}
use Rattle.std.specs.Prelude.{nat_le}
use Rattle.std.specs.List.{list_all}
use Rattle.std.proofs.lemmas.Bool.{and_parts}
use Rattle.std.proofs.lemmas.List.Elements.{All-cons}
use Rattle.hv_config.specs.declared.config.PartDef.{PartDef}
use Rattle.hv_config.specs.declared.config.Config.{Config}
use Rattle.machine_desc.specs.Limits.{most_regions, most_handles}
use Rattle.config_descs.specs.Limits.{KeepsLimits}
use Rattle.config_rules.specs.Accepted.{IsAccepted}
use Rattle.config_rules.proofs.Kept.{kept, few_in}

few_handles : (part : PartDef) → few_in part ≡ true → length part.handles ≤ most_handles
few_handles part e =
    let few = (and_parts (nat_le (length part.areas) most_regions) (nat_le (length part.handles) most_handles) e).1 in
    grind (arith, few)

all_few : (parts : List PartDef) → list_all few_in parts ≡ true → All (λ (part : PartDef). length part.handles ≤ most_handles) parts
all_few [] e = search arith
all_few (part ∷ parts) e =
    let both = and_parts (few_in part) (list_all few_in parts) e in
    All-cons (λ (part : PartDef). length part.handles ≤ most_handles) part parts (few_handles part both.0) (all_few parts both.1)

pub keeps_limits : (config : Config) → IsAccepted config → KeepsLimits config
keeps_limits config accepted =
    let k = kept config accepted.board accepted.none in
    record { areas = k.few_areas; sizes = k.small; handles = all_few config.parts k.few }
