-- What is promised of a run that is done, by what was read and written.
use Rattle.std.proofs.Common.{◌≡◌, ℕ, List, Option, Some, None, Result, Ok, Err, OnOk, IfSome, subst, sym}
use Rattle.std.specs.Io.KnownBytes.{Appends}
use Rattle.std.specs.Result.{MatchResult}
use Rattle.outside.specs.Content.{Content}
use Rattle.topaz_run.specs.declared.status.Status.{Status}
use Rattle.topaz_run.specs.declared.status.Status.TheVariants as status
use Rattle.topaz_run.specs.Words.{Command, Bare, Dtb, Check, Guest, Run, Gen}
use Rattle.topaz_run.specs.Plan.{Done, outcome_of}
use Rattle.topaz_run.specs.Outcome.{plan_of}
use Rattle.topaz_run.specs.Runs.{WritesRun, ReadsPlain}
use Rattle.topaz_run.specs.Laws.{DoneRunsPrintAlone}

writes-run : DoneRunsPrintAlone → (command : Command) (content : Content) (text : List ℕ) (old new : Option (List ℕ)) → outcome_of content (plan_of command) ≡ Done text
    → ReadsPlain command content → Appends old new text → WritesRun (Some command) content old new
writes-run law (Bare image turns) content text old new done plain wrote = tt
writes-run law (Dtb file) content text old new done plain wrote = tt
writes-run law (Check config hw) content text old new done plain wrote = tt
writes-run law (Guest config hw name) content text old new done plain wrote = tt
writes-run law (Gen number turns) content text old new done plain wrote = tt
writes-run law (Run config hw script turns) content text old new done plain wrote = record {
  text = text;
  written = wrote;
  report = law content config hw script turns text done plain;
}

-- by the command that the words ask for, where the content is told
pub writes_run : DoneRunsPrintAlone → (command : Command) (asked : Option Command) (known : Option Content) (text : List ℕ) (old new : Option (List ℕ)) → asked ≡ Some command
    → IfSome known (λ content. outcome_of content (plan_of command) ≡ Done text) → IfSome known (λ content. ReadsPlain command content) → Appends old new text
    → IfSome known (λ content. WritesRun asked content old new)
writes_run law command asked None text old new is done plain wrote = tt
writes_run law command asked (Some content) text old new is done plain wrote =
    subst (λ (asked : Option Command). WritesRun asked content old new) (sym is) (writes-run law command content text old new done plain wrote)

-- where the status is that all is done, the text was delivered
pub delivered : {E : Type 0} (r : Result (Unit {0}) E) (s : Status) (P : Type 0) → MatchResult r (λ _. s ≡ status.Ok) (λ _. s ≡ status.WriteFault) → s ≡ status.Ok → OnOk r P → P
delivered (Ok v) s P is done p = p
delivered (Err e) s P is done p = absurd cc
