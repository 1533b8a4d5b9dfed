use Rattle.trap_emulate.proofs.Keeping.{emulation_keeps_registers, delivery_keeps_registers, time_keeps_registers}
use Rattle.trap_emulate.proofs.laws.changes_keep_the_registers.Goals as goal

pub returns-clause-instruction : goal.returns-clause-instruction
returns-clause-instruction c = emulation_keeps_registers

pub returns-clause-interrupt : goal.returns-clause-interrupt
returns-clause-interrupt c = delivery_keeps_registers

pub returns-clause-time : goal.returns-clause-time
returns-clause-time c = time_keeps_registers
