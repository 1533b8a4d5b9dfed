use Rattle.std.proofs.Common.{ap, ◌∙◌, take}
use Rattle.dt_read.specs.HeaderView.{header_view}
use Rattle.dt_read.proofs.Whole.{strings_part-is}
use Rattle.dt_read.proofs.reading.strings_bytes.Goals as goal

pub returns : goal.returns
returns c =
    c.split_at-2.ensures.front ∙ ap (take c.args.header.now.strings_size) c.split_at.ensures.back ∙ strings_part-is c.args.blob.now (header_view c.args.header.now) c.requires.same
