use Rattle.std.proofs.Common.{sym}
use Rattle.dt_read.proofs.Verdicts.{begin_9, begin_11}
use Rattle.dt_read.proofs.builder.begin_behind.Goals as goal

pub returns-then-is_node_name : goal.returns-then-is_node_name
returns-then-is_node_name c = begin_11 _ c.args.name.now c.requires.begun (sym c.if-is_node_name.ensures) c.requires.depth_is

pub returns : goal.returns
returns c = begin_9 _ c.args.name.now c.requires.begun (sym c.if-is_node_name.ensures)
