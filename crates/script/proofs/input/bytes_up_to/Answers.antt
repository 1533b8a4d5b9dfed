use Rattle.std.proofs.Common.{sym, length-take-le}
use Rattle.script.proofs.Marks.{mark_bound, up_to_mark, up_to_all}
use Rattle.script.proofs.input.bytes_up_to.Goals as goal

pub slice_bounds-result-end : goal.slice_bounds-result-end
slice_bounds-result-end c = sym (length-take-le _ c.args.bytes.now (mark_bound c.args.marks.now _ c.count_up_to-count.result _ c.requires c.if-count-marks.true))

pub returns-then-count-marks : goal.returns-then-count-marks
returns-then-count-marks c = up_to_mark c.args.turn c.args.marks.now c.args.bytes.now c.count_up_to-count.result _ c.requires c.count_up_to-count.ensures c.if-count-marks.true

pub returns-else-count-marks : goal.returns-else-count-marks
returns-else-count-marks c = up_to_all c.args.turn c.args.marks.now c.args.bytes.now c.count_up_to-count.result c.requires c.count_up_to-count.ensures c.if-count-marks.false
