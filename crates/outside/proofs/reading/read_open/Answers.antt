use Rattle.std.proofs.Common.{rules}
use Rattle.outside.proofs.ReadSoFar.{reads_on}
use Rattle.outside.proofs.reading.read_open.Goals as goal

pub loop-files-preserved : goal.loop-files-preserved
loop-files-preserved g c = record {
  so_far = reads_on _ c.args.name.now _ _ _ _ c.loop-files.invariant.so_far c.in_ok-read_piece.ensures.front c.in_ok-read_piece.ensures.given;
  within = search rules;
  counted = search rules;
  asked = search rules;
  opened = search rules;
  content = search rules;
}
