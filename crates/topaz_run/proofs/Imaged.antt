-- What comes of the images that are read one after the other.
use Rattle.std.proofs.Common.{◌≡◌, ℕ, ◌+◌, ◌<◌, ◌≤◌, List, [], ◌∷◌, ◌++◌, length, take, drop, slice_index_or, add-one, Option, None, Some, Result, Ok, Err, IfOk, IfErr, IfSome, OnOk, refl, sym, ap, subst, ◌∙◌}
use Rattle.std.specs.Prelude.{Contains}
use Rattle.std.specs.Option.{option_or}
use Rattle.std.proofs.Math.Seq.{drop-cons, take-suc}
use Rattle.std.proofs.lemmas.List.{drop_all}
use Rattle.std.proofs.lemmas.List.Folds.{list_all-map}
use Rattle.hv_config.specs.declared.config.PartDef.{PartDef}
use Rattle.hv_config.specs.declared.config.Config.{Config}
use Rattle.machine_desc.specs.declared.desc.Desc.{Desc}
use Rattle.machine_desc.specs.Sound.{IsSound, is_sound}
use Rattle.config_descs.specs.Desc.{desc_of}
use Rattle.config_rules.specs.Accepted.{IsAccepted}
use Rattle.config_rules.specs.Laws.{BasesAreJoined}
use Rattle.outside.specs.Content.{Content}
use Rattle.topaz_run.specs.declared.status.Stop.{Stop}
use Rattle.topaz_run.specs.Plan.{Plan, Opens, outcome_of, needs_of}
use Rattle.guest_tree.specs.Guest.{guest_blob}
use Rattle.elf_image.specs.Image.{image_of, first_fault as file_fault}
use Rattle.topaz_run.specs.Imaging.{completed, completing, describing, imaging, image_fault, part_place}
use Rattle.topaz_run.specs.Laws.{AreDescribed, IsDescribed}
use Rattle.topaz_run.specs.Answers.{GoesOn, IsRead, Stops, StopsBy}
use Rattle.topaz_run.proofs.Plans.{goes_on, stops_alike}
use Rattle.topaz_run.proofs.Described.{bases_sound}
use Rattle.topaz_run.proofs.Texts.{all_at}

-- ---- one image

-- the early end is one of the plan behind the file
pub stops_behind : (config : Config) (part : PartDef) (next : Desc → Plan) (bytes place : List ℕ) (fault : Option ℕ) (s : Stop) (content : Content)
    → place ≡ part_place part → StopsBy place s fault → Stops s (outcome_of content (completing config part next bytes fault))
stops_behind config part next bytes place (Some number) s content here is = subst (λ (place : List ℕ). StopsBy place s (Some number)) here is
stops_behind config part next bytes place None s content here is = subst (λ (s : Stop). Stops s (outcome_of content (completing config part next bytes None))) (sym is) tt

-- where no rule is broken it goes on with the description
pub goes_to : (config : Config) (part : PartDef) (bytes : List ℕ) (fault : Option ℕ) (desc : Desc) → fault ≡ None → desc ≡ completed config part bytes
    → (next : Desc → Plan) → completing config part next bytes fault ≡ next desc
goes_to config part bytes fault desc none is next = ap (completing config part next bytes) none ∙ ap next (sym is)

-- the same file at the same place by other names
pub opens_alike : (known : Option Content) (name other place there : List ℕ) (s : Stop) → name ≡ other → place ≡ there
    → IfSome known (λ content. (next : List ℕ → Plan) → Stops s (outcome_of content (Opens name place next)))
    → IfSome known (λ content. (next : List ℕ → Plan) → Stops s (outcome_of content (Opens other there next)))
opens_alike known name other place there s named placed stops =
    subst (λ (place : List ℕ). IfSome known (λ content. (next : List ℕ → Plan) → Stops s (outcome_of content (Opens other place next)))) placed
    (subst (λ (name : List ℕ). IfSome known (λ content. (next : List ℕ → Plan) → Stops s (outcome_of content (Opens name place next)))) named stops)

neither : (one other : Option ℕ) → option_or one other ≡ None → other ≡ None
neither None other e = e
neither (Some number) other e = absurd cc

pub is_described : (config : Config) (i : ℕ) (bytes : List ℕ) (r : Result Desc Stop)
    → ((d : PartDef) → OnOk r (image_fault config (slice_index_or config.parts i d) bytes ≡ None))
    → ((d : PartDef) → IfOk r (λ desc. desc ≡ completed config (slice_index_or config.parts i d) bytes))
    → IfOk r (λ desc. (d : PartDef) → IsDescribed config (slice_index_or config.parts i d) desc)
is_described config i bytes (Err s) kept value = tt
is_described config i bytes (Ok desc) kept value = λ d.
    let part = slice_index_or config.parts i d in
    record {
      file = bytes;
      image = image_of bytes part.image_at;
      tree = guest_blob config part;
      kept = neither (file_fault bytes) _ (kept d);
      is = value d;
    }

pub goes_read : (config : Config) (part : PartDef) (bytes : List ℕ) (r : Result Desc Stop) → OnOk r (image_fault config part bytes ≡ None)
    → IfOk r (λ desc. desc ≡ completed config part bytes)
    → IfOk r (λ desc. (next : Desc → Plan) → completing config part next bytes (image_fault config part bytes) ≡ next desc)
goes_read config part bytes (Err s) kept value = tt
goes_read config part bytes (Ok desc) kept value = goes_to config part bytes (image_fault config part bytes) desc kept value

pub stops_read : (config : Config) (part : PartDef) (known : Option Content) (bytes place : List ℕ) (r : Result Desc Stop) → IfSome known (λ content. IsRead content part.image bytes)
    → place ≡ part_place part → IfErr r (λ s. StopsBy place s (image_fault config part bytes))
    → IfErr r (λ s. IfSome known (λ content. (next : Desc → Plan) → Stops s (outcome_of content (describing config part next))))
stops_read config part known bytes place (Ok desc) read here stops = tt
stops_read config part None bytes place (Err s) read here stops = tt
stops_read config part (Some content) bytes place (Err s) read here stops = λ next.
    let rest : List ℕ → Plan = λ bytes. completing config part next bytes (image_fault config part bytes) in
    stops_alike s _ _ (goes_on content part.image (part_place part) bytes rest read) (stops_behind config part next bytes place (image_fault config part bytes) s content here stops)

-- each base is sound
pub base_sound : BasesAreJoined → (config : Config) → IsAccepted config → (i : ℕ) (d : PartDef) → i < length config.parts → IsSound (desc_of config (slice_index_or config.parts i d))
base_sound bases config accepted i d few =
    all_at (λ (part : PartDef). is_sound (desc_of config part)) config.parts i d (sym (list_all-map is_sound (desc_of config) config.parts) ∙ bases_sound config (bases config accepted)) few

-- ---- all of them

pub described_more : (config : Config) (parts : List PartDef) (descs : List Desc) (part : PartDef) (desc : Desc) → AreDescribed config parts descs → IsDescribed config part desc
    → AreDescribed config (parts ++ part ∷ []) (descs ++ desc ∷ [])
described_more config [] [] part desc are is = (is, tt)
described_more config [] (e ∷ descs) part desc are is = absurd are
described_more config (p ∷ parts) [] part desc are is = absurd are
described_more config (p ∷ parts) (e ∷ descs) part desc are is = (are.0, described_more config parts descs part desc are.1 is)

-- one more of the partitions
pub described_next : (config : Config) (i : ℕ) (d : PartDef) (descs : List Desc) (desc : Desc) → i < length config.parts → AreDescribed config (take i config.parts) descs
    → IsDescribed config (slice_index_or config.parts i d) desc → AreDescribed config (take (i + 1) config.parts) (descs ++ desc ∷ [])
described_next config i d descs desc few are is =
    subst (λ (parts : List PartDef). AreDescribed config parts (descs ++ desc ∷ [])) (sym (ap (λ (k : ℕ). take k config.parts) (add-one i) ∙ take-suc config.parts i d few))
    (described_more config (take i config.parts) descs (slice_index_or config.parts i d) desc are is)

-- the images from the one of this number on
pub from_here : (config : Config) (i : ℕ) (d : PartDef) (done : List Desc) (next : List Desc → Plan) → i < length config.parts
    → imaging config (drop i config.parts) done next
    ≡ describing config (slice_index_or config.parts i d) (λ desc. imaging config (drop (i + 1) config.parts) (done ++ desc ∷ []) next)
from_here config i d done next few =
    ap (λ (parts : List PartDef). imaging config parts done next) (drop-cons config.parts i d few)
    ∙ ap (λ (k : ℕ). describing config (slice_index_or config.parts i d) (λ desc. imaging config (drop k config.parts) (done ++ desc ∷ []) next)) (sym (add-one i))

-- the plan of all images goes on with those from the one of this number on
abbrev pub GoesSo : Config → ℕ → List Desc → Content → Type 0
GoesSo config i done content = (next : List Desc → Plan) → GoesOn content (imaging config config.parts [] next) (imaging config (drop i config.parts) done next)

pub goes_first : (config : Config) (known : Option Content) → IfSome known (GoesSo config 0 [])
goes_first config None = tt
goes_first config (Some content) = λ next. record { comes_to = refl; needs = λ name needed. needed }

-- by the next image
pub goes_further : (config : Config) (i : ℕ) (d : PartDef) (done : List Desc) (desc : Desc) (before after : Option Content) → i < length config.parts → after ≡ before
    → IfSome before (GoesSo config i done)
    → IfSome after (λ content. (next : Desc → Plan) → GoesOn content (describing config (slice_index_or config.parts i d) next) (next desc))
    → IfSome before (GoesSo config (i + 1) (done ++ desc ∷ []))
goes_further config i d done desc None after few same goes one = tt
goes_further config i d done desc (Some content) after few same goes one =
    let here = subst (λ (known : Option Content). IfSome known (λ content. (next : Desc → Plan) → GoesOn content (describing config (slice_index_or config.parts i d) next) (next desc))) same one in
    λ next.
    let rest : Desc → Plan = λ desc. imaging config (drop (i + 1) config.parts) (done ++ desc ∷ []) next in
    let same : imaging config (drop i config.parts) done next ≡ describing config (slice_index_or config.parts i d) rest = from_here config i d done next few in
    record {
      comes_to = (goes next).comes_to ∙ ap (outcome_of content) same ∙ (here rest).comes_to;
      needs = λ name needed. (goes next).needs name (subst (λ (plan : Plan). Contains (needs_of content plan) name) (sym same) ((here rest).needs name needed));
    }

pub stops_further : (config : Config) (i : ℕ) (d : PartDef) (done : List Desc) (s : Stop) (before after : Option Content) → i < length config.parts → after ≡ before
    → IfSome before (GoesSo config i done)
    → IfSome after (λ content. (next : Desc → Plan) → Stops s (outcome_of content (describing config (slice_index_or config.parts i d) next)))
    → IfSome before (λ content. (next : List Desc → Plan) → Stops s (outcome_of content (imaging config config.parts [] next)))
stops_further config i d done s None after few same goes stops = tt
stops_further config i d done s (Some content) after few same goes stops =
    let here = subst (λ (known : Option Content). IfSome known (λ content. (next : Desc → Plan) → Stops s (outcome_of content (describing config (slice_index_or config.parts i d) next)))) same stops in
    λ next.
    let rest : Desc → Plan = λ desc. imaging config (drop (i + 1) config.parts) (done ++ desc ∷ []) next in
    stops_alike s _ _ ((goes next).comes_to ∙ ap (outcome_of content) (from_here config i d done next few)) (here rest)

pub needs_further : (config : Config) (i : ℕ) (d : PartDef) (done : List Desc) (blamed : List ℕ) (before after : Option Content) → i < length config.parts → after ≡ before
    → IfSome before (GoesSo config i done)
    → IfSome after (λ content. (next : Desc → Plan) → Contains (needs_of content (describing config (slice_index_or config.parts i d) next)) blamed)
    → IfSome before (λ content. (next : List Desc → Plan) → Contains (needs_of content (imaging config config.parts [] next)) blamed)
needs_further config i d done blamed None after few same goes needed = tt
needs_further config i d done blamed (Some content) after few same goes needed =
    let here = subst (λ (known : Option Content). IfSome known (λ content. (next : Desc → Plan) → Contains (needs_of content (describing config (slice_index_or config.parts i d) next)) blamed)) same needed in
    λ next.
    let rest : Desc → Plan = λ desc. imaging config (drop (i + 1) config.parts) (done ++ desc ∷ []) next in
    (goes next).needs blamed (subst (λ (plan : Plan). Contains (needs_of content plan) blamed) (sym (from_here config i d done next few)) (here rest))

-- behind the last image
pub goes_whole : (config : Config) (i : ℕ) (done : List Desc) (known : Option Content) → length config.parts ≤ i → IfSome known (GoesSo config i done)
    → IfSome known (λ content. (next : List Desc → Plan) → GoesOn content (imaging config config.parts [] next) (next done))
goes_whole config i done None past goes = tt
goes_whole config i done (Some content) past goes =
    let none : drop i config.parts ≡ [] = drop_all i config.parts past in
    λ next. subst (λ (parts : List PartDef). GoesOn content (imaging config config.parts [] next) (imaging config parts done next)) none (goes next)
