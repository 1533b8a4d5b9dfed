use Rattle.hv_read.proofs.Answers.{config-kept, config-value, config-broken, config-unread}
use Rattle.hv_read.proofs.reading.read_config.Goals as goal

pub returns-in-Ok-clause-kept : goal.returns-in-Ok-clause-kept
returns-in-Ok-clause-kept c = config-kept c.args.blob.now c.in-Ok.tree c.config_of.result c.in-Ok.ensures.tree c.in-Ok.ensures.sound c.config_of.ensures.kept

pub returns-in-Ok-clause-value : goal.returns-in-Ok-clause-value
returns-in-Ok-clause-value c = config-value c.args.blob.now c.in-Ok.tree c.config_of.result c.in-Ok.ensures.tree c.config_of.ensures.value

pub returns-in-Ok-clause-plain : goal.returns-in-Ok-clause-plain
returns-in-Ok-clause-plain c = let blob = c.in-Ok.ensures.tree in c.config_of.ensures.plain blob.fits

pub returns-in-Ok-clause-broken : goal.returns-in-Ok-clause-broken
returns-in-Ok-clause-broken c = config-broken c.args.blob.now c.in-Ok.tree c.config_of.result c.in-Ok.ensures.tree c.in-Ok.ensures.sound c.config_of.ensures.broken

pub returns-in-Err-clause-broken : goal.returns-in-Err-clause-broken
returns-in-Err-clause-broken c = config-unread c.args.blob.now c.in-Err.misread c.in-Err.ensures.broken
