use Rattle.dt_model.proofs.Texts.{text_in-is}
use Rattle.dt_model.proofs.value.text_of.Goals as goal

pub returns-clause-exact : goal.returns-clause-exact
returns-clause-exact c = text_in-is c.args.value.now c.printed_text.result c.printed_text.ensures.some c.printed_text.ensures.none
