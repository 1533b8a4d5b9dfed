use Rattle.script.proofs.Keeping.{is_kept_so_far, one_more}
use Rattle.script.proofs.reading.read_lines.Goals as goal

pub read_line-requires : goal.read_line-requires
read_line-requires c = is_kept_so_far c.args.names.now c.args.text.now c.loop-line.reading c.loop-line.lines c.loop-line.invariant

pub loop-line-preserved : goal.loop-line-preserved
loop-line-preserved c =
    one_more c.args.names.now c.args.text.now c.loop-line.reading _ c.in-Some.line.now c.loop-line.lines _ c.loop-line.invariant c.in-Some.ensures c.in_ok-read_line.ensures.fine c.in_ok-read_line.ensures.after
