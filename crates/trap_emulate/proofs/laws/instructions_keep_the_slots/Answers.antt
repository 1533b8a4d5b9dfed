use Rattle.trap_emulate.proofs.Translations.{emulation_keeps_slots}
use Rattle.trap_emulate.proofs.laws.instructions_keep_the_slots.Goals as goal

pub returns : goal.returns
returns c = emulation_keeps_slots
