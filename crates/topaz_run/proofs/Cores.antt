-- The described partitions of an accepted configuration have one core each.
use Rattle.std.proofs.Common.{◌≡◌, ℕ, zero, suc, ◌<◌, true, List, [], ◌∷◌, length, slice_index_or, ap, ◌∙◌, arith}
use Rattle.std.specs.List.{list_all}
use Rattle.std.proofs.lemmas.Bool.{and_parts}
use Rattle.std.proofs.lemmas.Bool.Decides.{Decides-eqb}
use Rattle.hv_config.specs.declared.config.PartDef.{PartDef}
use Rattle.hv_config.specs.declared.config.Config.{Config}
use Rattle.machine_desc.specs.declared.desc.Desc.{Desc}
use Rattle.config_descs.specs.Desc.{desc_of}
use Rattle.config_rules.specs.Accepted.{IsAccepted}
use Rattle.config_rules.specs.Parts.{has_one_core}
use Rattle.config_rules.specs.Laws.{AcceptedKeepParts}
use Rattle.fresh_load.specs.Described.{described}
use Rattle.network.specs.Network.{no_desc}
use Rattle.system.specs.System.{HaveOneCore}
use Rattle.topaz_run.specs.Laws.{AreDescribed, IsDescribed}

cores-of : (config : Config) (part : PartDef) (desc : Desc) → IsDescribed config part desc → length desc.cores ≡ length part.cpus
unfolding described desc_of
cores-of config part desc is = ap (λ (d : Desc). length d.cores) is.is

each-one : (config : Config) (parts : List PartDef) (descs : List Desc) → AreDescribed config parts descs → list_all has_one_core parts ≡ true
    → (i : ℕ) → i < length descs → length (slice_index_or descs i no_desc).cores ≡ 1
each-one config [] [] are e i few = absurd (omega (arith, few))
each-one config [] (desc ∷ descs) are e i few = absurd are
each-one config (part ∷ parts) [] are e i few = absurd are
each-one config (part ∷ parts) (desc ∷ descs) are e zero few =
    cores-of config part desc are.0 ∙ (Decides-eqb (length part.cpus) 1).0 (and_parts (has_one_core part) (list_all has_one_core parts) e).0
each-one config (part ∷ parts) (desc ∷ descs) are e (suc i) few =
    each-one config parts descs are.1 (and_parts (has_one_core part) (list_all has_one_core parts) e).1 i (omega (arith, few))

pub one_core_each : AcceptedKeepParts → (config : Config) → IsAccepted config → (descs : List Desc) → AreDescribed config config.parts descs → HaveOneCore descs
one_core_each keep config accepted descs are = record { one = each-one config config.parts descs are (keep config accepted).cores }
