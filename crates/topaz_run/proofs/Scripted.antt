-- The report of a run on a script, and the refusal of a script.
use Rattle.std.proofs.Common.{◌≡◌, ℕ, List, map, Option, None, Result, sym, ap, subst, ◌∙◌}
use Rattle.hv_config.specs.declared.board.Cpu.{Cpu}
use Rattle.machine_desc.specs.declared.desc.Desc.{Desc}
use Rattle.machine_desc.specs.declared.wiring.Wiring.{Wiring}
use Rattle.config_descs.specs.Wired.{wiring_of}
use Rattle.script.specs.declared.names.Names.{Names}
use Rattle.script.specs.declared.fault.ScriptFault.{ScriptFault}
use Rattle.script.specs.declared.fault.ScriptFault.TheVariants as script
use Rattle.script.specs.Course.{Course, course_of}
use Rattle.script.specs.Fault.{Broken, Says, first_broken}
use Rattle.topaz_run.specs.declared.setup.Setup.{Setup}
use Rattle.topaz_run.specs.declared.status.Stop.{Stop}
use Rattle.topaz_run.specs.declared.telling.Telling.{Telling}
use Rattle.topaz_run.specs.Reported.{given_by, told}
use Rattle.topaz_run.specs.Outcome.{names_for, following, reporting}
use Rattle.topaz_run.specs.Answers.{Meets, Stops, RefusesScript}
use Rattle.topaz_run.proofs.Plans.{meets_alike, stops_alike}

-- what a script may name, by the wiring that was made
pub names_by : (setup : Setup) (wiring : Wiring) (names : Names) → wiring ≡ wiring_of setup.accepted
    → names ≡ record { consoles = wiring.consoles; cpus = map (λ (cpu : Cpu). cpu.number) setup.board.cpus } → names ≡ names_for setup
names_by setup wiring names wired is = is ∙ ap (λ (wiring : Wiring). record { consoles = wiring.consoles; cpus = map (λ (cpu : Cpu). cpu.number) setup.board.cpus }) wired

-- a script that breaks no rule
pub follows_script : (telling : Telling) (turns : ℕ) (setup : Setup) (descs items : List Desc) (wiring : Wiring) (names : Names) (course : Course) (lines : List (List ℕ)) (r : Result (List ℕ) Stop) → names ≡ names_for setup
    → first_broken names lines ≡ None → course ≡ course_of names lines → items ≡ descs → wiring ≡ wiring_of setup.accepted
    → Meets r (told telling (record { descs = items; wiring = wiring }) (given_by course) turns) → Meets r (reporting telling turns setup descs lines)
follows_script telling turns setup descs items wiring names course lines r named none said are wired meets =
    meets_alike r _ _
    (ap (following telling turns setup descs lines) (ap (λ (names : Names). first_broken names lines) (sym named) ∙ none)
    ∙ (λ i. told telling (record { descs = sym are i; wiring = sym wired i }) (given_by (sym (said ∙ ap (λ (names : Names). course_of names lines) named) i)) turns))
    meets

refuses-by : (telling : Telling) (turns : ℕ) (setup : Setup) (descs : List Desc) (lines : List (List ℕ)) (broken : Option Broken) (fault : ScriptFault) (stop : Stop) → Says fault broken → RefusesScript fault stop
    → Stops stop (following telling turns setup descs lines broken)
refuses-by telling turns setup descs lines broken (script.Rule number line) stop says refuses =
    stops_alike stop _ _ (ap (following telling turns setup descs lines) says) refuses
refuses-by telling turns setup descs lines broken script.NoMemory stop says refuses = subst (λ (stop : Stop). Stops stop (following telling turns setup descs lines broken)) (sym refuses) tt

-- one that breaks a rule
pub refuses_script : (telling : Telling) (turns : ℕ) (setup : Setup) (descs : List Desc) (names : Names) (lines : List (List ℕ)) (fault : ScriptFault) (stop : Stop) → names ≡ names_for setup
    → Says fault (first_broken names lines) → RefusesScript fault stop → Stops stop (reporting telling turns setup descs lines)
refuses_script telling turns setup descs names lines fault stop named says refuses =
    refuses-by telling turns setup descs lines (first_broken (names_for setup) lines) fault stop
    (subst (λ (names : Names). Says fault (first_broken names lines)) named says) refuses
