use Rattle.std.proofs.Common.{◌+◌, ◌∷◌, take, ap, sym, ◌∙◌}
use Rattle.script.proofs.Parts.{words_first, words_only, rest_whole}
use Rattle.script.specs.Text.{words_of}
use Rattle.script.proofs.words.first_word.Goals as goal

pub returns-in-Some : goal.returns-in-Some
returns-in-Some c = words_first c.args.line.now c.in-Some.end (sym c.place_of.ensures ∙ c.in-Some.is) ∙ ap (λ line. take c.in-Some.end c.args.line.now ∷ words_of line) (sym (rest_whole (c.in-Some.end + 1) c.args.line.now))

pub returns-in-None : goal.returns-in-None
returns-in-None c = words_only c.args.line.now (sym c.place_of.ensures ∙ c.in-None.is)
