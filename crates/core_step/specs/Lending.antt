-- A core that lends its registers.
use Rattle.std.specs.Borrow.{Lends, MutBor, Fml}
use Rattle.guest_regs.specs.Registers.{Registers}
use Rattle.guest_regs.specs.contracts.registers.Regs.{the_row as regs_row}
use Rattle.core_step.specs.Core.{CoreState}
use Rattle.core_step.specs.contracts.cpu.Core.{the_row}

-- the core ends with the registers that were left behind the reference, and all else stays
abbrev pub LendsRegisters : MutBor CoreState → MutBor Registers → Fml
LendsRegisters core registers = Lends the_row regs_row core registers (λ left. record core.now { registers = left })
