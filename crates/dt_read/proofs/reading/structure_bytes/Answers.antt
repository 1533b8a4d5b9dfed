use Rattle.std.proofs.Common.{ap, ◌∙◌, take}
use Rattle.dt_read.specs.HeaderView.{header_view}
use Rattle.dt_read.proofs.Whole.{structure_part-is}
use Rattle.dt_read.proofs.reading.structure_bytes.Goals as goal

pub returns : goal.returns
returns c =
    c.split_at-2.ensures.front ∙ ap (take c.args.header.now.structure_size) c.split_at.ensures.back ∙ structure_part-is c.args.blob.now (header_view c.args.header.now) c.requires.same
