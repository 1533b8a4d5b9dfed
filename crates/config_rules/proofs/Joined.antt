-- The descriptions of a configuration that breaks no rule are joined with its wiring.
use Rattle.std.proofs.Common.{◌≡◌, ℕ, true, List, length, subst, sym}
use Rattle.std.specs.Prelude.{nat_le}
use Rattle.std.proofs.lemmas.Bool.{and_from}
use Rattle.hv_config.specs.declared.config.Config.{Config}
use Rattle.hv_config.specs.Plain.{IsPlain}
use Rattle.machine_desc.specs.declared.desc.Desc.{Desc}
use Rattle.machine_desc.specs.Limits.{most_partitions}
use Rattle.machine_desc.specs.Joined.{are_joined}
use Rattle.config_descs.specs.Desc.{desc_of, descs_of}
use Rattle.config_descs.specs.Wired.{wiring_of}
use Rattle.config_rules.specs.Accepted.{IsAccepted}
use Rattle.config_rules.specs.Completed.{AreCompleted}
use Rattle.config_rules.proofs.Lists.{length-map}
use Rattle.config_rules.proofs.Kept.{Kept, kept}
use Rattle.config_rules.proofs.Sound.{descs-sound}
use Rattle.config_rules.proofs.Memory.{cores-apart, extents-sound, regions-joined}
use Rattle.config_rules.proofs.Links.{links-joined}
use Rattle.config_rules.proofs.Managers.{managers-joined}
use Rattle.config_rules.proofs.Ports.{bells-joined, ports-joined}
use Rattle.config_rules.proofs.Stripped.{completed-joined}
use Rattle.config_rules.proofs.Numbers.{le-true}

kept-joined : (config : Config) → Kept config → IsPlain config → are_joined (descs_of config) (wiring_of config) ≡ true
unfolding are_joined
kept-joined config kept plain =
    let few : nat_le (length (descs_of config)) most_partitions ≡ true =
    subst (λ (n : ℕ). nat_le n most_partitions ≡ true) (sym (length-map (desc_of config) config.parts)) (le-true (length config.parts) most_partitions kept.few_parts) in
    and_from _ _ (and_from _ _ (and_from _ _ (and_from _ _ (and_from _ _ (and_from _ _ (and_from _ _ (and_from _ _ few
    (descs-sound config kept)) (cores-apart config kept)) (extents-sound config kept)) (regions-joined config kept))
    (links-joined config kept)) (bells-joined config)) (managers-joined config plain))
    (ports-joined config kept plain)

pub bases_joined : (config : Config) → IsAccepted config → are_joined (descs_of config) (wiring_of config) ≡ true
bases_joined config accepted = kept-joined config (kept config accepted.board accepted.none) accepted.plain

pub descs_joined : (config : Config) → IsAccepted config → (descs : List Desc) → AreCompleted config descs → are_joined descs (wiring_of config) ≡ true
descs_joined config accepted descs completed =
    completed-joined descs (wiring_of config) completed.starts
    (subst (λ (bases : List Desc). are_joined bases (wiring_of config) ≡ true) (sym completed.bases) (bases_joined config accepted))
