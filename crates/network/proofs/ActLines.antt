-- The lines of the program's acts.
use Rattle.std.proofs.Common.{refl, ap}
use Rattle.machine_desc.specs.declared.act.Act.TheVariants as told
use Rattle.trace_text.specs.Acts.{copy_to_line}
use Rattle.network.specs.Laws.{ActLinesAgree}

pub act_lines_agree : ActLinesAgree
act_lines_agree name step pieces told.None total = refl
act_lines_agree name step pieces (told.Sent handle bytes) total = refl
act_lines_agree name step pieces (told.Took handle count) total = refl
act_lines_agree name step pieces (told.Rang handle) total = refl
act_lines_agree name step pieces (told.Start handle entry load) total = refl
act_lines_agree name step pieces (told.Stop handle) total = refl
act_lines_agree name step pieces (told.Restart handle) total = refl
act_lines_agree name step pieces (told.CopyTo handle count) total = ap (copy_to_line name step handle) total
act_lines_agree name step pieces (told.CopyFrom handle count) total = refl
act_lines_agree name step pieces told.SelfStop total = refl
act_lines_agree name step pieces told.SelfRestart total = refl
act_lines_agree name step pieces told.Faulted total = refl
