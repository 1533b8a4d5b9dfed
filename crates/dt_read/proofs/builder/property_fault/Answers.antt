use Rattle.std.proofs.Common.{sym}
use Rattle.dt_read.proofs.Verdicts.{property_9, property_11}
use Rattle.dt_read.proofs.builder.property_fault.Goals as goal

pub returns-then-is_property_name : goal.returns-then-is_property_name
returns-then-is_property_name c = λ t closed. property_11 t c.args.name.now (sym c.if-is_property_name.ensures) closed

pub returns-else-is_property_name : goal.returns-else-is_property_name
returns-else-is_property_name c = λ t closed. property_9 t c.args.name.now (sym c.if-is_property_name.ensures)
