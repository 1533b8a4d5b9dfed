use Rattle.std.proofs.Common.{◌+◌, ◌∷◌, take, ap, sym, ◌∙◌}
use Rattle.script.proofs.Parts.{lines_first, lines_only, rest_whole, nothing_left}
use Rattle.script.specs.Text.{lines_of}
use Rattle.script.proofs.lines.first_line.Goals as goal

pub returns-in-Some : goal.returns-in-Some
returns-in-Some c = lines_first c.args.text.now c.in-Some.end (sym c.place_of.ensures ∙ c.in-Some.is) ∙ ap (λ text. take c.in-Some.end c.args.text.now ∷ lines_of text) (sym (rest_whole (c.in-Some.end + 1) c.args.text.now))

pub returns-in-None : goal.returns-in-None
returns-in-None c = lines_only c.args.text.now c.requires (sym c.place_of.ensures ∙ c.in-None.is) ∙ ap (λ text. c.args.text.now ∷ lines_of text) (sym (nothing_left c.args.text.now))
