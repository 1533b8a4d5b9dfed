-- A run that is done went through all its files, and its text is the report.
use Rattle.std.proofs.Common.{◌≡◌, ℕ, Bool, true, false, nat_lt, List, [], ◌∷◌, ◌++◌, length, codes, Option, None, Some, refl, sym, ap, ◌∙◌}
use Rattle.std.specs.Prelude.{unwrap_or, if◌then◌else◌}
use Rattle.std.specs.Option.{option_or}
use Rattle.std.proofs.lemmas.List.{append_assoc, append-nil}
use Rattle.outside.specs.Limit.{file_limit}
use Rattle.outside.specs.Content.{Content, file_of}
use Rattle.hv_config.specs.declared.config.PartDef.{PartDef}
use Rattle.hv_config.specs.declared.config.Config.{Config}
use Rattle.hv_config.specs.declared.board.Board.{Board}
use Rattle.hv_config.specs.Rule.{Breach}
use Rattle.hv_read.specs.Read.{Flaw, BlobRule, TreeRule, config_flaw, config_said, hardware_flaw, board_said}
use Rattle.config_checks.specs.Rules.{first_broken}
use Rattle.machine_desc.specs.declared.desc.Desc.{Desc}
use Rattle.elf_image.specs.Image.{image_of, first_fault as file_fault}
use Rattle.guest_tree.specs.Guest.{guest_blob}
use Rattle.network.specs.Network.{Network}
use Rattle.network.specs.Turn.{Script, given_at, run}
use Rattle.network.specs.Report.{text_of, report}
use Rattle.isolation.specs.Laws.{LinesAreItsOwn, RecordingsFit}
use Rattle.hv_config.specs.Plain.{IsPlain}
use Rattle.script.specs.Text.{lines_of as lines_in}
use Rattle.script.specs.Fault.{Broken, first_broken as first_broken_line}
use Rattle.topaz_run.specs.declared.setup.Setup.{Setup}
use Rattle.topaz_run.specs.declared.telling.Telling.{Telling}
use Rattle.topaz_run.specs.declared.telling.Telling.TheVariants.{Report}
use Rattle.topaz_run.specs.Plan.{Outcome, Done, Plan, opened, refusal, outcome_of}
use Rattle.topaz_run.specs.Imaging.{imaging, completed, completing, describing, image_fault}
use Rattle.topaz_run.specs.Reported.{reported}
use Rattle.topaz_run.specs.Outcome.{ruled, equipped, configured, accepting, following, reporting, names_for, scripted, imaged, running}
use Rattle.topaz_run.specs.Runs.{bytes_in, setup_in, descs_in, network_in, script_in, IsReport}
use Rattle.config_rules.specs.Accepted.{IsAccepted}
use Rattle.topaz_run.specs.Laws.{AreDescribed, DescribedAreJoined, DescribedAreNamed}

-- ---- a file

past-limit : (long : Bool) (place : List ℕ) (rest : Outcome) (text : List ℕ) → (if long then refusal (codes "F1") place else rest) ≡ Done text → rest ≡ Done text
past-limit true place rest text e = absurd cc
past-limit false place rest text e = e

opened-done : (file : Option (List ℕ)) (place : List ℕ) (rest : List ℕ → Outcome) (text : List ℕ) → opened file place rest ≡ Done text → rest (unwrap_or file []) ≡ Done text
opened-done None place rest text e = absurd cc
opened-done (Some bytes) place rest text e = past-limit (nat_lt file_limit (length bytes)) place (rest bytes) text e

-- ---- the configuration and the hardware

-- what is done goes on with them, and no rule is broken
record Accepts (content : Content) (next : Setup → Plan) (config : Config) (board : Board) (text : List ℕ) : Type 0 where
  none : first_broken config board ≡ None
  done : outcome_of content (next (record { accepted = config; board = board })) ≡ Done text

ruled-done : (content : Content) (next : Setup → Plan) (config : Config) (board : Board) (breach : Option Breach) (text : List ℕ) → first_broken config board ≡ breach
    → outcome_of content (ruled next config board breach) ≡ Done text → Accepts content next config board text
ruled-done content next config board (Some breach) text is e = absurd cc
ruled-done content next config board None text is e = record { none = is; done = e }

equipped-done : (content : Content) (hw : List ℕ) (next : Setup → Plan) (config : Config) (bytes : List ℕ) (flaw : Option Flaw) (text : List ℕ)
    → outcome_of content (equipped hw next config bytes flaw) ≡ Done text → Accepts content next config (board_said bytes) text
equipped-done content hw next config bytes (Some (BlobRule rule)) text e = absurd cc
equipped-done content hw next config bytes (Some (TreeRule breach)) text e = absurd cc
equipped-done content hw next config bytes None text e = ruled-done content next config (board_said bytes) (first_broken config (board_said bytes)) text refl e

configured-done : (content : Content) (config hw : List ℕ) (next : Setup → Plan) (bytes : List ℕ) (flaw : Option Flaw) (text : List ℕ)
    → outcome_of content (configured config hw next bytes flaw) ≡ Done text → Accepts content next (config_said bytes) (board_said (bytes_in content hw)) text
configured-done content config hw next bytes (Some (BlobRule rule)) text e = absurd cc
configured-done content config hw next bytes (Some (TreeRule breach)) text e = absurd cc
configured-done content config hw next bytes None text e =
    let rest : List ℕ → Outcome = λ bytes-2. outcome_of content (equipped hw next (config_said bytes) bytes-2 (hardware_flaw bytes-2)) in
    equipped-done content hw next (config_said bytes) (bytes_in content hw) (hardware_flaw (bytes_in content hw)) text (opened-done (file_of content hw) hw rest text e)

accepting-done : (content : Content) (config hw : List ℕ) (next : Setup → Plan) (text : List ℕ) → outcome_of content (accepting config hw next) ≡ Done text
    → Accepts content next (config_said (bytes_in content config)) (board_said (bytes_in content hw)) text
accepting-done content config hw next text e =
    let rest : List ℕ → Outcome = λ bytes. outcome_of content (configured config hw next bytes (config_flaw bytes)) in
    configured-done content config hw next (bytes_in content config) (config_flaw (bytes_in content config)) text (opened-done (file_of content config) config rest text e)

-- ---- images

record Describes (content : Content) (config : Config) (part : PartDef) (next : Desc → Plan) (text : List ℕ) : Type 0 where
  none : image_fault config part (bytes_in content part.image) ≡ None
  done : outcome_of content (next (completed config part (bytes_in content part.image))) ≡ Done text

completing-done : (content : Content) (config : Config) (part : PartDef) (next : Desc → Plan) (fault : Option ℕ) (text : List ℕ) → image_fault config part (bytes_in content part.image) ≡ fault
    → outcome_of content (completing config part next (bytes_in content part.image) fault) ≡ Done text → Describes content config part next text
completing-done content config part next (Some number) text is e = absurd cc
completing-done content config part next None text is e = record { none = is; done = e }

describing-done : (content : Content) (config : Config) (part : PartDef) (next : Desc → Plan) (text : List ℕ) → outcome_of content (describing config part next) ≡ Done text
    → Describes content config part next text
describing-done content config part next text e =
    let rest : List ℕ → Outcome = λ bytes. outcome_of content (completing config part next bytes (image_fault config part bytes)) in
    completing-done content config part next (image_fault config part (bytes_in content part.image)) text refl (opened-done (file_of content part.image) _ rest text e)

neither : (one other : Option ℕ) → option_or one other ≡ None → other ≡ None
neither None other e = e
neither (Some number) other e = absurd cc

-- what is done goes on with all descriptions
record Images (content : Content) (config : Config) (parts : List PartDef) (done : List Desc) (next : List Desc → Plan) (text : List ℕ) : Type 0 where
  described : AreDescribed config parts (descs_in content config parts)
  ends : outcome_of content (next (done ++ descs_in content config parts)) ≡ Done text

imaging-done : (content : Content) (config : Config) (parts : List PartDef) (done : List Desc) (next : List Desc → Plan) (text : List ℕ)
    → outcome_of content (imaging config parts done next) ≡ Done text → Images content config parts done next text
imaging-done content config [] done next text e = record {
  described = tt;
  ends = ap (λ (descs : List Desc). outcome_of content (next descs)) (append-nil done) ∙ e;
}
imaging-done content config (part ∷ parts) done next text e =
    let here = describing-done content config part (λ desc. imaging config parts (done ++ desc ∷ []) next) text e in
    let desc : Desc = completed config part (bytes_in content part.image) in
    let rest = imaging-done content config parts (done ++ desc ∷ []) next text here.done in
    record {
      described = (
        record {
          file = bytes_in content part.image;
          image = image_of (bytes_in content part.image) part.image_at;
          tree = guest_blob config part;
          kept = neither (file_fault (bytes_in content part.image)) _ here.none;
          is = refl;
        },
        rest.described,
      );
      ends = ap (λ (descs : List Desc). outcome_of content (next descs)) (sym (append_assoc done (desc ∷ []) (descs_in content config parts))) ∙ rest.ends;
    }

-- ---- the script, and the report

reported-done : (network : Network) (script : Script) (turns : ℕ) (text : List ℕ) → reported network script turns ≡ Done text → text ≡ report network script turns
unfolding reported
reported-done network script turns text e = cc

following-done : (telling : Telling) (turns : ℕ) (setup : Setup) (descs : List Desc) (lines : List (List ℕ)) (broken : Option Broken) (text : List ℕ) → following telling turns setup descs lines broken ≡ Done text
    → following telling turns setup descs lines None ≡ Done text
following-done telling turns setup descs lines (Some broken) text e = absurd cc
following-done telling turns setup descs lines None text e = e

scripted-done : (content : Content) (script : List ℕ) (turns : ℕ) (setup : Setup) (descs : List Desc) (text : List ℕ) → outcome_of content (scripted script turns setup descs) ≡ Done text
    → following Report turns setup descs (lines_in (bytes_in content script)) None ≡ Done text
scripted-done content script turns setup descs text e =
    let lines = lines_in (bytes_in content script) in
    following-done Report turns setup descs lines (first_broken_line (names_for setup) lines) text
    (opened-done (file_of content script) script (λ bytes. reporting Report turns setup descs (lines_in bytes)) text e)

-- ---- the whole

-- no rule is broken on the way
record IsRunDone (content : Content) (config hw script : List ℕ) (turns : ℕ) (text : List ℕ) : Type 0 where
  none : first_broken (setup_in content config hw).accepted (setup_in content config hw).board ≡ None
  described : AreDescribed (setup_in content config hw).accepted (setup_in content config hw).accepted.parts (network_in content config hw).descs
  is : text ≡ report (network_in content config hw) (script_in content config hw script) turns

run-done : (content : Content) (config hw script : List ℕ) (turns : ℕ) (text : List ℕ) → outcome_of content (running config hw script turns) ≡ Done text
    → IsRunDone content config hw script turns text
run-done content config hw script turns text e =
    let setup = setup_in content config hw in
    let accepts = accepting-done content config hw (λ setup. imaged script turns setup) text e in
    let images = imaging-done content setup.accepted setup.accepted.parts [] (λ descs. scripted script turns setup descs) text accepts.done in
    record {
      none = accepts.none;
      described = images.described;
      is = reported-done (network_in content config hw) (script_in content config hw script) turns text (scripted-done content script turns setup (descs_in content setup.accepted setup.accepted.parts) text images.ends);
    }

pub prints_alone : DescribedAreNamed → DescribedAreJoined → LinesAreItsOwn → RecordingsFit → (content : Content) (config hw script : List ℕ) (turns : ℕ) (text : List ℕ)
    → outcome_of content (running config hw script turns) ≡ Done text
    → IsPlain (setup_in content config hw).accepted → IsReport (network_in content config hw) (script_in content config hw script) turns text
prints_alone named joined own recorded content config hw script turns text e plain =
    let done = run-done content config hw script turns text e in
    let setup = setup_in content config hw in
    let network = network_in content config hw in
    let course = script_in content config hw script in
    let accepted : IsAccepted setup.accepted = record { board = setup.board; none = done.none; plain = plain } in
    record {
      is = done.is;
      alone = λ part few private. record {
        fit = recorded network course turns part (joined setup.accepted accepted network.descs done.described) few private;
        lines = own network course turns part (named setup.accepted accepted network.descs done.described) few private;
      };
    }
