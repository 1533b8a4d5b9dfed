use Rattle.std.proofs.Common.{ap, ◌∙◌, drop}
use Rattle.dt_read.specs.HeaderView.{header_view}
use Rattle.dt_read.proofs.Whole.{reserve_part-is}
use Rattle.dt_read.proofs.reading.reserve_bytes.Goals as goal

pub returns : goal.returns
returns c =
    c.behind.ensures ∙ ap (drop c.args.header.now.reserve_at) c.split_at.ensures.front ∙ reserve_part-is c.args.blob.now (header_view c.args.header.now) c.requires.same
