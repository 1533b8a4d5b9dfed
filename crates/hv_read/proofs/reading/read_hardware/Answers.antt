use Rattle.hv_read.proofs.Answers.{hardware-kept, board-value, hardware-broken, hardware-unread}
use Rattle.hv_read.proofs.reading.read_hardware.Goals as goal

pub returns-in-Ok-clause-kept : goal.returns-in-Ok-clause-kept
returns-in-Ok-clause-kept c = hardware-kept c.args.blob.now c.in-Ok.tree c.board_of.result c.in-Ok.ensures.tree c.in-Ok.ensures.sound c.board_of.ensures.kept

pub returns-in-Ok-clause-value : goal.returns-in-Ok-clause-value
returns-in-Ok-clause-value c = board-value c.args.blob.now c.in-Ok.tree c.board_of.result c.in-Ok.ensures.tree c.board_of.ensures.value

pub returns-in-Ok-clause-broken : goal.returns-in-Ok-clause-broken
returns-in-Ok-clause-broken c = hardware-broken c.args.blob.now c.in-Ok.tree c.board_of.result c.in-Ok.ensures.tree c.in-Ok.ensures.sound c.board_of.ensures.broken

pub returns-in-Err-clause-broken : goal.returns-in-Err-clause-broken
returns-in-Err-clause-broken c = hardware-unread c.args.blob.now c.in-Err.misread c.in-Err.ensures.broken
