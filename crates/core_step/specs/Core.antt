-- What a core keeps.
use Rattle.guest_regs.specs.Registers.{Registers}

pub record CoreState : Type 0 where
  pub registers : Registers
