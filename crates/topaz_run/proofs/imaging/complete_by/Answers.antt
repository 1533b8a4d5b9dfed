use Rattle.std.proofs.Common.{sym, subst}
use Rattle.machine_desc.specs.declared.desc.Desc.{Desc}
use Rattle.machine_desc.specs.Sound.{IsSound}
use Rattle.topaz_run.proofs.Imaged.{base_sound}
use Rattle.topaz_run.proofs.Named.{element}
use Rattle.topaz_run.proofs.imaging.complete_by.Goals as goal

pub describe-requires-clause-sound : goal.describe-requires-clause-sound
describe-requires-clause-sound c =
    let config = c.args.accepted.now in
    let d = element config.parts c.args.part c.requires.part in
    subst (λ (desc : Desc). IsSound desc) (sym (c.in_ok-base.ensures d))
    (base_sound c.descriptions_are_joined.ensures.bases config c.config-config.ensures.accepted c.args.part d c.requires.part)
