use Rattle.std.proofs.Common.{ap, ◌∙◌}
use Rattle.script.specs.Course.{course_of}
use Rattle.script.specs.Text.{lines_of}
use Rattle.script.specs.Kept.{kept_of}
use Rattle.script.specs.Steps.{script_of}
use Rattle.script.proofs.Keeping.{length_course}
use Rattle.script.proofs.script.Script.read.Goals as goal

pub returns-clause-said : goal.returns-clause-said
unfolding course_of kept_of
returns-clause-said c = c.in_ok-script.ensures ∙ ap (script_of c.args.names.now) c.in_ok-reading.ensures.value

pub returns-clause-consoles : goal.returns-clause-consoles
unfolding course_of kept_of
returns-clause-consoles c =
    length_course c.args.names.now (lines_of c.args.text.now) c.in_ok-script.script (c.in_ok-script.ensures ∙ ap (script_of c.args.names.now) c.in_ok-reading.ensures.value)
