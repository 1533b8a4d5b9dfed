-- What the answers of a command and of the top call say of the outcome.
use Rattle.std.specs.Prelude.{◌≡◌, ℕ, ◌≤◌, ⊤, Bool, true, List, length, Option, Some, None, Result, Ok, Err, Contains}
use Rattle.std.specs.Io.KnownBytes.{Keeps, Appends}
use Rattle.topaz_run.specs.declared.status.Status.{Status}
use Rattle.topaz_run.specs.declared.status.Status.TheVariants as status
use Rattle.topaz_run.specs.declared.status.Stop.{Stop}
use Rattle.topaz_run.specs.declared.status.Stop.TheVariants as stop
use Rattle.outside.specs.Limit.{file_limit}
use Rattle.outside.specs.Content.{Content, file_of}
use Rattle.hv_config.specs.declared.fault.Fault.{Fault}
use Rattle.hv_config.specs.declared.fault.Fault.TheVariants as fault
use Rattle.elf_image.specs.declared.fault.ImageFault.{ImageFault}
use Rattle.elf_image.specs.declared.fault.ImageFault.TheVariants as image
use Rattle.script.specs.declared.fault.ScriptFault.{ScriptFault}
use Rattle.script.specs.declared.fault.ScriptFault.TheVariants as script
use Rattle.hv_read.specs.declared.misread.Misread.{Misread}
use Rattle.hv_read.specs.declared.misread.Misread.TheVariants as misread
use Rattle.topaz_run.specs.Plan.{Outcome, Misused, Lacking, Refused, Done, Plan, refusal, outcome_of, needs_of}
use Rattle.topaz_run.specs.Imaging.{image_rule}
use Rattle.topaz_run.specs.Text.{line_place}
use Rattle.topaz_run.specs.Outcome.{blob_rule, rule_text, script_rule}

-- an early end of a command is the outcome's refusal, but for a fault and want of memory
abbrev pub Stops : Stop → Outcome → Type 0
Stops (stop.Refused text) outcome = outcome ≡ Refused text
Stops stop.ReadFault outcome = ⊤
Stops stop.NoMemory outcome = ⊤

-- the early end refuses by the rule that the fault tells, at its node
abbrev pub RefusesFault : Fault → Stop → Type 0
RefusesFault (fault.Broken rule at) end = Stops end (refusal (rule_text rule) at)
RefusesFault fault.NoMemory end = end ≡ stop.NoMemory

-- the early end refuses by the rule of images that the fault tells, at the place of the partition
abbrev pub RefusesImage : List ℕ → ImageFault → Stop → Type 0
RefusesImage place (image.Rule number) end = Stops end (refusal (image_rule number) place)
RefusesImage place image.NoMemory end = end ≡ stop.NoMemory

-- the early end refuses by the rule of scripts that the fault tells, at its line
abbrev pub RefusesScript : ScriptFault → Stop → Type 0
RefusesScript (script.Rule number line) end = Stops end (refusal (script_rule number) (line_place line))
RefusesScript script.NoMemory end = end ≡ stop.NoMemory

-- by this rule of images, at the place; where none is broken there was no memory
abbrev pub StopsBy : List ℕ → Stop → Option ℕ → Type 0
StopsBy place end (Some number) = Stops end (refusal (image_rule number) place)
StopsBy place end None = end ≡ stop.NoMemory

-- the early end refuses by the rule that the bytes of the file break
abbrev pub RefusesMisread : List ℕ → Misread → Stop → Type 0
RefusesMisread file (misread.Blob rule) end = Stops end (refusal (blob_rule rule) file)
RefusesMisread file (misread.Broken rule at) end = Stops end (refusal (rule_text rule) at)
RefusesMisread file misread.NoMemory end = end ≡ stop.NoMemory

-- what a command answers is the outcome: the bytes of what was done, or an early end
abbrev pub Meets : Result (List ℕ) Stop → Outcome → Type 0
Meets (Ok bytes) outcome = outcome ≡ Done bytes
Meets (Err stop) outcome = Stops stop outcome

-- A plan goes on as another does: it comes to the same, and what that one needs it needs.
pub record GoesOn (content : Content) (whole rest : Plan) : Type 0 where
  pub comes_to : outcome_of content whole ≡ outcome_of content rest
  pub needs : (name : List ℕ) → Contains (needs_of content rest) name → Contains (needs_of content whole) name

-- a file was read: it has these bytes, no more than the limit
pub record IsRead (content : Content) (name bytes : List ℕ) : Type 0 where
  pub is : file_of content name ≡ Some bytes
  pub short : length bytes ≤ file_limit

-- The status is that of the outcome, and the taken bytes grew by its text. Nothing is said where a file or the sink failed, or
-- memory ran out.
abbrev pub IsAnswerTo : Status → Option (List ℕ) → Option (List ℕ) → Outcome → Type 0
IsAnswerTo status.Ok old new (Done text) = Appends old new text
IsAnswerTo status.Ok old new Misused = ⊥
IsAnswerTo status.Ok old new Lacking = ⊥
IsAnswerTo status.Ok old new (Refused text) = ⊥
IsAnswerTo status.Refused old new (Refused text) = Appends old new text
IsAnswerTo status.Refused old new Misused = ⊥
IsAnswerTo status.Refused old new Lacking = ⊥
IsAnswerTo status.Refused old new (Done text) = ⊥
IsAnswerTo status.Usage old new Misused = Keeps old new
IsAnswerTo status.Usage old new Lacking = ⊥
IsAnswerTo status.Usage old new (Refused text) = ⊥
IsAnswerTo status.Usage old new (Done text) = ⊥
IsAnswerTo status.ReadFault old new outcome = ⊤
IsAnswerTo status.WriteFault old new outcome = ⊤
IsAnswerTo status.NoMemory old new outcome = ⊤

-- after Ok and Refused every taken byte is flushed
abbrev pub Flushes : Status → Bool → Type 0
Flushes status.Ok is_flushed = is_flushed ≡ true
Flushes status.Refused is_flushed = is_flushed ≡ true
Flushes _ is_flushed = ⊤

-- an answer that writes nothing leaves the sink as it was
abbrev pub LeavesSink : {S : Type 0} → Status → S → S → Type 0
LeavesSink status.Usage old new = new ≡ old
LeavesSink status.ReadFault old new = new ≡ old
LeavesSink status.NoMemory old new = new ≡ old
LeavesSink _ old new = ⊤
