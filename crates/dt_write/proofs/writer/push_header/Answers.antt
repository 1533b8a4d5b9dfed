use Rattle.std.proofs.Common.{List, ℕ, ◌++◌, ap, ◌∙◌}
use Rattle.std.proofs.lemmas.Result.{on_ok_weaker}
use Rattle.dt_write.proofs.Whole.{header_is}
use Rattle.dt_write.proofs.writer.push_header.Goals as goal

pub returns : goal.returns
returns c =
    on_ok_weaker c.push_words.result
    (λ is. is ∙ ap (λ (l : List ℕ). c.args.out.now.items ++ l) (header_is c.args.boot_cpu c.args.reserve_size c.args.structure_size c.args.strings_size))
    c.push_words.ensures
