use Rattle.trap_emulate.proofs.Translations.{emulation_keeps_victim}
use Rattle.trap_emulate.proofs.laws.victims_are_ways.Goals as goal

pub returns : goal.returns
returns c = emulation_keeps_victim
