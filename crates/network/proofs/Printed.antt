-- A partition's lines of the report are the text of its own moves.
use Rattle.std.proofs.Common.{◌≡◌, ℕ, zero, suc, ◌+◌, ◌<◌, ◌==◌, Bool, true, false, ◌&&◌, ◌||◌, List, [], ◌∷◌, ◌++◌, Option, Some, None, length, refl, sym, ap, ◌∙◌, ◌⊎◌, ⊎_elim, append_assoc, append-nil, if◌then◌else◌, arith}
use Rattle.std.proofs.lemmas.Bool.{eqb-true, eqb-false, cases_order, and_parts}
use Rattle.std.specs.Prelude.{codes, bytes_eq, flat_map, decimal, slice_index_or}
use Rattle.std.specs.List.{list_all}
use Rattle.std.specs.Int.{w32, to_be_bytes}
use Rattle.hex.specs.Hex.{encode_lower}
use Rattle.machine_desc.specs.declared.desc.Desc.{Desc}
use Rattle.machine_desc.specs.declared.act.State.{State}
use Rattle.machine_desc.specs.declared.act.State.TheVariants as state
use Rattle.trace_text.specs.Acts.{load_digit}
use Rattle.trace_text.specs.Ends.{state_word}
use Rattle.copy_lists.specs.Pieces.{size_of}
use Rattle.partition.specs.Act.{Act, Nothing, Sent, Took, Rang, Start, Stop, Restart, CopyTo, CopyFrom, SelfStop, SelfRestart, Faulted}
use Rattle.partition.specs.Machine.{Machine, fresh}
use Rattle.network.specs.Network.{Network, no_desc, desc_at}
use Rattle.network.specs.Change.{Traced, trace_of}
use Rattle.network.specs.World.{World, Counts, Line, Passage, machine_at, counts_at, trace_in, moves_of}
use Rattle.network.specs.Entering.{waiting}
use Rattle.network.specs.Report.{act_line, traced_line, act_lines, machine_line, machine_lines, counts_lines, end_lines, text_of, trace_lines, own_text}
use Rattle.network.specs.Lines.{begins_with, ends_with, lines_of}
use Rattle.network.specs.Laws.{FollowsMoves, IsNamed, is_word}
use Rattle.network.proofs.Reading.{spelled, text, are_plain, all_plain, is_line, are_lines, picked, read_back, decimal_plain, hex_plain}
use Rattle.network.proofs.Names.{same_bytes, swapped, IsName, name_at, word_plain, names_differ, no_name}

-- ---- the words of each line

-- of an act, behind the name and the step, where it has a line
abbrev act_words : Act → Option (List (List ℕ))
act_words Nothing = None
act_words (Sent handle bytes) = Some (codes "sent" ∷ (decimal handle ∷ (encode_lower bytes ∷ [])))
act_words (Took handle count) = None
act_words (Rang handle) = Some (codes "ring" ∷ (decimal handle ∷ []))
act_words (Start handle entry load) = Some (codes "start" ∷ (decimal handle ∷ (encode_lower (to_be_bytes w32 entry) ∷ (load_digit load ∷ []))))
act_words (Stop handle) = Some (codes "stop" ∷ (decimal handle ∷ []))
act_words (Restart handle) = Some (codes "restart" ∷ (decimal handle ∷ []))
act_words (CopyTo handle pieces) = Some (codes "copy" ∷ (codes "to" ∷ (decimal handle ∷ (decimal (size_of pieces) ∷ []))))
act_words (CopyFrom handle count) = Some (codes "copy" ∷ (codes "from" ∷ (decimal handle ∷ (decimal count ∷ []))))
act_words SelfStop = Some (codes "stop" ∷ (codes "self" ∷ []))
act_words SelfRestart = Some (codes "restart" ∷ (codes "self" ∷ []))
act_words Faulted = Some (codes "faulted" ∷ [])

abbrev line_words : List ℕ → ℕ → Option (List (List ℕ)) → List (List (List ℕ))
line_words name step None = []
line_words name step (Some words) = (name ∷ (decimal step ∷ words)) ∷ []

abbrev traced_words : List ℕ → Traced → List (List (List ℕ))
traced_words name one = line_words name one.step (act_words one.act)

abbrev all_words : Network → List Line → List (List (List ℕ))
all_words network lines = flat_map (λ (line : Line). traced_words (desc_at network line.part).name line.traced) lines

abbrev end_words : List ℕ → Machine → List (List ℕ)
end_words name machine = codes "end" ∷ (name ∷ (state_word machine.inner.state ∷ (decimal machine.inner.steps ∷ [])))

abbrev ends_words : ℕ → List Desc → List Machine → List (List (List ℕ))
ends_words part [] machines = []
ends_words part (desc ∷ descs) machines = end_words desc.name (machine_at machines part) ∷ ends_words (part + 1) descs machines

abbrev console_words : List ℕ → Counts → ℕ → List (List ℕ)
console_words name counts waits = codes "console" ∷ (name ∷ (decimal counts.printed ∷ (decimal counts.entered ∷ (decimal waits ∷ []))))

abbrev consoles_words : ℕ → List (List ℕ) → (ℕ → List ℕ) → List Counts → List (List (List ℕ))
consoles_words console [] given consoles = []
consoles_words console (name ∷ names) given consoles =
    console_words name (counts_at consoles console) (length (waiting (given console) consoles console)) ∷ consoles_words (console + 1) names given consoles

abbrev behind_words : Network → (ℕ → List ℕ) → World → List (List (List ℕ))
behind_words network given world = ends_words 0 network.descs world.machines ++ consoles_words 0 network.wiring.consoles given world.consoles

-- ---- the lines are spelled from them

text_both : (a b : List (List (List ℕ))) → text (a ++ b) ≡ text a ++ text b
text_both [] b = refl
text_both (line ∷ a) b = ap (λ (l : List ℕ). spelled line ++ l) (text_both a b) ∙ sym (append_assoc (spelled line) (text a) (text b))

abbrev spelled_by : List ℕ → ℕ → Option (List (List ℕ)) → List ℕ
spelled_by name step None = []
spelled_by name step (Some words) = spelled (name ∷ (decimal step ∷ words))

act_spelled : (name : List ℕ) (step : ℕ) (act : Act) → act_line name step act ≡ spelled_by name step (act_words act)
act_spelled name step Nothing = refl
act_spelled name step (Sent handle bytes) = refl
act_spelled name step (Took handle count) = refl
act_spelled name step (Rang handle) = refl
act_spelled name step (Start handle entry load) = refl
act_spelled name step (Stop handle) = refl
act_spelled name step (Restart handle) = refl
act_spelled name step (CopyTo handle pieces) = refl
act_spelled name step (CopyFrom handle count) = refl
act_spelled name step SelfStop = refl
act_spelled name step SelfRestart = refl
act_spelled name step Faulted = refl

line_text : (name : List ℕ) (step : ℕ) (words : Option (List (List ℕ))) → spelled_by name step words ≡ text (line_words name step words)
line_text name step None = refl
line_text name step (Some words) = sym (append-nil (spelled (name ∷ (decimal step ∷ words))))

traced_text : (name : List ℕ) (one : Traced) → traced_line name one ≡ text (traced_words name one)
traced_text name one = act_spelled name one.step one.act ∙ line_text name one.step (act_words one.act)

acts_text : (network : Network) (lines : List Line) → act_lines network lines ≡ text (all_words network lines)
acts_text network [] = refl
acts_text network (line ∷ lines) =
    let name : List ℕ = (desc_at network line.part).name in
    ap (λ (l : List ℕ). l ++ act_lines network lines) (traced_text name line.traced)
    ∙ (ap (λ (l : List ℕ). text (traced_words name line.traced) ++ l) (acts_text network lines) ∙ sym (text_both (traced_words name line.traced) (all_words network lines)))

trace_text : (name : List ℕ) (trace : List Traced) → trace_lines name trace ≡ text (flat_map (traced_words name) trace)
trace_text name [] = refl
trace_text name (one ∷ trace) =
    ap (λ (l : List ℕ). l ++ trace_lines name trace) (traced_text name one)
    ∙ (ap (λ (l : List ℕ). text (traced_words name one) ++ l) (trace_text name trace) ∙ sym (text_both (traced_words name one) (flat_map (traced_words name) trace)))

ends_text : (part : ℕ) (descs : List Desc) (machines : List Machine) → machine_lines part descs machines ≡ text (ends_words part descs machines)
ends_text part [] machines = refl
ends_text part (desc ∷ descs) machines = ap (λ (l : List ℕ). machine_line desc.name (machine_at machines part) ++ l) (ends_text (part + 1) descs machines)

consoles_text : (console : ℕ) (names : List (List ℕ)) (given : ℕ → List ℕ) (consoles : List Counts)
    → counts_lines console names given consoles ≡ text (consoles_words console names given consoles)
consoles_text console [] given consoles = refl
consoles_text console (name ∷ names) given consoles =
    ap (λ (l : List ℕ). spelled (console_words name (counts_at consoles console) (length (waiting (given console) consoles console))) ++ l)
    (consoles_text (console + 1) names given consoles)

behind_text : (network : Network) (given : ℕ → List ℕ) (world : World) → end_lines network given world ≡ text (behind_words network given world)
behind_text network given world =
    ap (λ (l : List ℕ). l ++ counts_lines 0 network.wiring.consoles given world.consoles) (ends_text 0 network.descs world.machines)
    ∙ (ap (λ (l : List ℕ). text (ends_words 0 network.descs world.machines) ++ l) (consoles_text 0 network.wiring.consoles given world.consoles)
    ∙ sym (text_both (ends_words 0 network.descs world.machines) (consoles_words 0 network.wiring.consoles given world.consoles)))

-- ---- every line is a line

record Plain (words : List (List ℕ)) : Type 0 where
  is : all_plain words ≡ true

-- no more words
nil : Plain []
nil = record { is = refl }

-- one word before others: a literal, a number, bytes in hexadecimal
word : (first : List ℕ) {words : List (List ℕ)} → are_plain first ≡ true → Plain words → Plain (first ∷ words)
word first {words} h k = record { is = ap (λ (b : Bool). b && all_plain words) h ∙ k.is }

num : (n : ℕ) {words : List (List ℕ)} → Plain words → Plain (decimal n ∷ words)
num n k = word (decimal n) (decimal_plain n) k

hexed : (bytes : List ℕ) {words : List (List ℕ)} → Plain words → Plain (encode_lower bytes ∷ words)
hexed bytes k = word (encode_lower bytes) (hex_plain bytes) k

record Lines (lines : List (List (List ℕ))) : Type 0 where
  are : are_lines lines ≡ true

one_line : (first : List ℕ) {words : List (List ℕ)} → Plain (first ∷ words) → Lines ((first ∷ words) ∷ [])
one_line first k = record { are = ap (λ (b : Bool). b && true) k.is }

abbrev ArePlain : Option (List (List ℕ)) → Type 0
ArePlain None = Unit {0}
ArePlain (Some words) = Plain words

load_plain : (load : Bool) → are_plain (load_digit load) ≡ true
load_plain true = refl
load_plain false = refl

act_plain : (act : Act) → ArePlain (act_words act)
act_plain Nothing = tt
act_plain (Sent handle bytes) = word (codes "sent") refl (num handle (hexed bytes nil))
act_plain (Took handle count) = tt
act_plain (Rang handle) = word (codes "ring") refl (num handle nil)
act_plain (Start handle entry load) = word (codes "start") refl (num handle (hexed (to_be_bytes w32 entry) (word (load_digit load) (load_plain load) nil)))
act_plain (Stop handle) = word (codes "stop") refl (num handle nil)
act_plain (Restart handle) = word (codes "restart") refl (num handle nil)
act_plain (CopyTo handle pieces) = word (codes "copy") refl (word (codes "to") refl (num handle (num (size_of pieces) nil)))
act_plain (CopyFrom handle count) = word (codes "copy") refl (word (codes "from") refl (num handle (num count nil)))
act_plain SelfStop = word (codes "stop") refl (word (codes "self") refl nil)
act_plain SelfRestart = word (codes "restart") refl (word (codes "self") refl nil)
act_plain Faulted = word (codes "faulted") refl nil

line_is : (name : List ℕ) (step : ℕ) (words : Option (List (List ℕ))) → are_plain name ≡ true → ArePlain words → Lines (line_words name step words)
line_is name step None h k = record { are = refl }
line_is name step (Some words) h k = one_line name (word name h (num step k))

lines_both : (a b : List (List (List ℕ))) → Lines a → Lines b → Lines (a ++ b)
lines_both [] b h k = k
lines_both (line ∷ a) b h k =
    let p = and_parts (is_line line) (are_lines a) h.are in
    record { are = ap (λ (c : Bool). c && are_lines (a ++ b)) p.0 ∙ (lines_both a b (record { are = p.1 }) k).are }

acts_are : (network : Network) → ((part : ℕ) → are_plain (desc_at network part).name ≡ true) → (lines : List Line) → Lines (all_words network lines)
acts_are network plain [] = record { are = refl }
acts_are network plain (line ∷ lines) =
    let name : List ℕ = (desc_at network line.part).name in
    lines_both (traced_words name line.traced) (all_words network lines) (line_is name line.traced.step (act_words line.traced.act) (plain line.part) (act_plain line.traced.act))
    (acts_are network plain lines)

state_plain : (s : State) → are_plain (state_word s) ≡ true
state_plain state.Running = refl
state_plain state.Stopped = refl
state_plain state.Faulted = refl

end_is : (name : List ℕ) (machine : Machine) → are_plain name ≡ true → Lines (end_words name machine ∷ [])
end_is name machine h = one_line (codes "end") (word (codes "end") refl (word name h (word (state_word machine.inner.state) (state_plain machine.inner.state) (num machine.inner.steps nil))))

ends_are : (part : ℕ) (descs : List Desc) (machines : List Machine) → ((i : ℕ) → are_plain (slice_index_or descs i no_desc).name ≡ true) → Lines (ends_words part descs machines)
ends_are part [] machines h = record { are = refl }
ends_are part (desc ∷ descs) machines h =
    lines_both (end_words desc.name (machine_at machines part) ∷ []) (ends_words (part + 1) descs machines) (end_is desc.name (machine_at machines part) (h 0))
    (ends_are (part + 1) descs machines (λ i. h (suc i)))

consoles_are : (console : ℕ) (names : List (List ℕ)) (given : ℕ → List ℕ) (consoles : List Counts) → list_all is_word names ≡ true → Lines (consoles_words console names given consoles)
consoles_are console [] given consoles h = record { are = refl }
consoles_are console (name ∷ names) given consoles h =
    let p = and_parts (is_word name) (list_all is_word names) h in
    let counts : Counts = counts_at consoles console in
    let waits : ℕ = length (waiting (given console) consoles console) in
    lines_both (console_words name counts waits ∷ []) (consoles_words (console + 1) names given consoles)
    (one_line (codes "console") (word (codes "console") refl (word name (word_plain name p.0) (num counts.printed (num counts.entered (num waits nil))))))
    (consoles_are (console + 1) names given consoles p.1)

-- ---- which lines are of a name

picked_both : (name : List ℕ) (a b : List (List (List ℕ))) → flat_map (picked name) (a ++ b) ≡ flat_map (picked name) a ++ flat_map (picked name) b
picked_both name [] b = refl
picked_both name (line ∷ a) b =
    ap (λ (l : List ℕ). picked name line ++ l) (picked_both name a b) ∙ sym (append_assoc (picked name line) (flat_map (picked name) a) (flat_map (picked name) b))

-- a line that begins with the name
picked_own : (name : List ℕ) (words : List (List ℕ)) → picked name (name ∷ words) ≡ spelled (name ∷ words)
picked_own name words =
    ap (λ (b : Bool). if b then spelled (name ∷ words) else []) (ap (λ (b : Bool). b || ends_with name (name ∷ words)) (same_bytes name))

-- a line that begins with another word
picked_other : (name other : List ℕ) (words : List (List ℕ)) → bytes_eq other name ≡ false → bytes_eq other (codes "end") ≡ false → picked name (other ∷ words) ≡ []
picked_other name other words h k =
    ap (λ (b : Bool). if b then spelled (other ∷ words) else [])
    (ap (λ (b : Bool). b || ends_with name (other ∷ words)) h ∙ ap (λ (b : Bool). b && begins_with name words) k)

line_own : (name : List ℕ) (step : ℕ) (words : Option (List (List ℕ))) → flat_map (picked name) (line_words name step words) ≡ text (line_words name step words)
line_own name step None = refl
line_own name step (Some words) = ap (λ (l : List ℕ). l ++ []) (picked_own name (decimal step ∷ words))

line_other : (name other : List ℕ) (step : ℕ) (words : Option (List (List ℕ))) → bytes_eq other name ≡ false → bytes_eq other (codes "end") ≡ false
    → flat_map (picked name) (line_words other step words) ≡ []
line_other name other step None h k = refl
line_other name other step (Some words) h k = ap (λ (l : List ℕ). l ++ []) (picked_other name other (decimal step ∷ words) h k)

-- no other partition's lines are of the name
record Differs (name other : List ℕ) : Type 0 where
  name_differs : bytes_eq other name ≡ false
  not_end : bytes_eq other (codes "end") ≡ false

no_name_differs : (name other : List ℕ) → IsName name → other ≡ [] → Differs name other
no_name_differs name other is none = record {
  name_differs = ap (λ (n : List ℕ). bytes_eq n name) none ∙ (swapped [] name ∙ is.some);
  not_end = ap (λ (n : List ℕ). bytes_eq n (codes "end")) none;
}

differs : (network : Network) (part other : ℕ) → IsNamed network → part < length network.descs → (other ≡ part → ⊥) → Differs (desc_at network part).name (desc_at network other).name
differs network part other named here ne =
    let is = name_at network.descs part named.names here in
    let beyond = λ (h : other < length network.descs → ⊥). no_name_differs (desc_at network part).name (desc_at network other).name is (no_name network.descs other h) in
    ⊎_elim (λ (same : other ≡ length network.descs). beyond (λ l. absurd (omega arith)))
    (
    λ (apart : (other < length network.descs) ⊎ (length network.descs < other)). ⊎_elim
    (
    λ (l : other < length network.descs). record {
      name_differs = names_differ network.descs other part named.apart l here ne;
      not_end = (name_at network.descs other named.names l).not_end;
    }
    )
    (λ (g : length network.descs < other). beyond (λ l. absurd (omega arith))) apart
    )
    (cases_order other (length network.descs))

-- the lines of one partition among those of all
one_more : (network : Network) → IsNamed network → (part : ℕ) → part < length network.descs → (line : Line) (trace : List Traced) (rest : List ℕ) (b : Bool) → (line.part == part) ≡ b
    → rest ≡ text (flat_map (traced_words (desc_at network part).name) trace)
    → flat_map (picked (desc_at network part).name) (traced_words (desc_at network line.part).name line.traced) ++ rest
    ≡ text (flat_map (traced_words (desc_at network part).name) (if b then line.traced ∷ trace else trace))
one_more network named part here line trace rest true e h =
    let name : List ℕ = (desc_at network part).name in
    let q = ap (λ (n : ℕ). (desc_at network n).name) (eqb-true line.part part e) in
    ap (λ (n : List ℕ). flat_map (picked name) (traced_words n line.traced) ++ rest) q
    ∙ (ap (λ (l : List ℕ). l ++ rest) (line_own name line.traced.step (act_words line.traced.act))
    ∙ (ap (λ (l : List ℕ). text (traced_words name line.traced) ++ l) h ∙ sym (text_both (traced_words name line.traced) (flat_map (traced_words name) trace))))
one_more network named part here line trace rest false e h =
    let d = differs network part line.part named here (eqb-false line.part part e) in
    ap (λ (l : List ℕ). l ++ rest) (line_other (desc_at network part).name (desc_at network line.part).name line.traced.step (act_words line.traced.act) d.name_differs d.not_end) ∙ h

picked_acts : (network : Network) → IsNamed network → (part : ℕ) → part < length network.descs → (lines : List Line)
    → flat_map (picked (desc_at network part).name) (all_words network lines) ≡ text (flat_map (traced_words (desc_at network part).name) (trace_in part lines))
picked_acts network named part here [] = refl
picked_acts network named part here (line ∷ lines) =
    picked_both (desc_at network part).name (traced_words (desc_at network line.part).name line.traced) (all_words network lines)
    ∙ one_more network named part here line (trace_in part lines) (flat_map (picked (desc_at network part).name) (all_words network lines)) (line.part == part) refl
    (picked_acts network named part here lines)

-- an end line is of the partition that it names
end_picked : (name own : List ℕ) (machine : Machine) (b : Bool) → bytes_eq name (codes "end") ≡ false → bytes_eq own name ≡ b
    → picked name (end_words own machine) ≡ (if b then spelled (end_words own machine) else [])
end_picked name own machine b h e =
    ap (λ (c : Bool). if c then spelled (end_words own machine) else []) (ap (λ (c : Bool). c || bytes_eq own name) (swapped (codes "end") name ∙ h) ∙ e)

no_ends : (name : List ℕ) (first : ℕ) (descs : List Desc) (machines : List Machine) → bytes_eq name (codes "end") ≡ false
    → ((other : ℕ) → other < length descs → bytes_eq (slice_index_or descs other no_desc).name name ≡ false) → flat_map (picked name) (ends_words first descs machines) ≡ []
no_ends name first [] machines h differ = refl
no_ends name first (desc ∷ descs) machines h differ =
    ap (λ (l : List ℕ). l ++ flat_map (picked name) (ends_words (first + 1) descs machines)) (end_picked name desc.name (machine_at machines first) false h (differ 0 (omega arith)))
    ∙ no_ends name (first + 1) descs machines h (λ other l. differ (suc other) (omega arith))

-- the end line of one partition among those of all
picked_ends : (name : List ℕ) (first : ℕ) (descs : List Desc) (part at : ℕ) (machines : List Machine) → part < length descs → at ≡ first + part
    → name ≡ (slice_index_or descs part no_desc).name → bytes_eq name (codes "end") ≡ false
    → ((other : ℕ) → other < length descs → (other ≡ part → ⊥) → bytes_eq (slice_index_or descs other no_desc).name name ≡ false)
    → flat_map (picked name) (ends_words first descs machines) ≡ spelled (end_words name (machine_at machines at))
picked_ends name first [] part at machines here place is h differ = absurd (omega arith)
picked_ends name first (desc ∷ descs) zero at machines here place is h differ =
    ap (λ (l : List ℕ). l ++ flat_map (picked name) (ends_words (first + 1) descs machines))
    (end_picked name desc.name (machine_at machines first) true h (ap (λ (n : List ℕ). bytes_eq n name) (sym is) ∙ same_bytes name))
    ∙ (ap (λ (l : List ℕ). spelled (end_words desc.name (machine_at machines first)) ++ l)
    (no_ends name (first + 1) descs machines h (λ other l. differ (suc other) (omega arith) (λ q. absurd (omega arith))))
    ∙ (append-nil (spelled (end_words desc.name (machine_at machines first)))
    ∙ (ap (λ (n : List ℕ). spelled (end_words n (machine_at machines first))) (sym is) ∙ ap (λ (n : ℕ). spelled (end_words name (machine_at machines n))) (omega arith))))
picked_ends name first (desc ∷ descs) (suc part) at machines here place is h differ =
    ap (λ (l : List ℕ). l ++ flat_map (picked name) (ends_words (first + 1) descs machines))
    (end_picked name desc.name (machine_at machines first) false h (differ 0 (omega arith) (λ q. absurd (omega arith))))
    ∙ picked_ends name (first + 1) descs part at machines (omega arith) (omega arith) is h (λ other l ne. differ (suc other) (omega arith) (λ q. ne (omega arith)))

no_consoles : (name : List ℕ) (console : ℕ) (names : List (List ℕ)) (given : ℕ → List ℕ) (consoles : List Counts) → bytes_eq (codes "console") name ≡ false
    → flat_map (picked name) (consoles_words console names given consoles) ≡ []
no_consoles name console [] given consoles h = refl
no_consoles name console (other ∷ names) given consoles h =
    let counts : Counts = counts_at consoles console in
    let waits : ℕ = length (waiting (given console) consoles console) in
    ap (λ (l : List ℕ). l ++ flat_map (picked name) (consoles_words (console + 1) names given consoles))
    (picked_other name (codes "console") (other ∷ (decimal counts.printed ∷ (decimal counts.entered ∷ (decimal waits ∷ [])))) h refl)
    ∙ no_consoles name (console + 1) names given consoles h

-- the partition's end line
picked_last : (network : Network) (given : ℕ → List ℕ) (part : ℕ) (world : World) → IsNamed network → part < length network.descs
    → flat_map (picked (desc_at network part).name) (behind_words network given world) ≡ machine_line (desc_at network part).name (machine_at world.machines part)
picked_last network given part world named here =
    let name : List ℕ = (desc_at network part).name in
    let is = name_at network.descs part named.names here in
    let stops : List (List (List ℕ)) = ends_words 0 network.descs world.machines in
    let consoles : List (List (List ℕ)) = consoles_words 0 network.wiring.consoles given world.consoles in
    picked_both name stops consoles
    ∙ (ap (λ (l : List ℕ). l ++ flat_map (picked name) consoles)
    (picked_ends name 0 network.descs part part world.machines here (omega arith) refl is.not_end (λ other l ne. names_differ network.descs other part named.apart l here ne))
    ∙ (ap (λ (l : List ℕ). spelled (end_words name (machine_at world.machines part)) ++ l)
    (no_consoles name 0 network.wiring.consoles given world.consoles (swapped (codes "console") name ∙ is.not_console))
    ∙ append-nil (spelled (end_words name (machine_at world.machines part)))))

-- ---- the whole

plain_names : (network : Network) → IsNamed network → (part : ℕ) → are_plain (desc_at network part).name ≡ true
plain_names network named part =
    let beyond = λ (h : part < length network.descs → ⊥). ap are_plain (no_name network.descs part h) in
    ⊎_elim (λ (same : part ≡ length network.descs). beyond (λ l. absurd (omega arith)))
    (
    λ (apart : (part < length network.descs) ⊎ (length network.descs < part)). ⊎_elim
    (λ (l : part < length network.descs). (name_at network.descs part named.names l).plain)
    (λ (g : length network.descs < part). beyond (λ l. absurd (omega arith))) apart
    )
    (cases_order part (length network.descs))

text_is : (network : Network) (given : ℕ → List ℕ) (done : Passage) → text_of network given done ≡ text (all_words network done.lines ++ behind_words network given done.after)
unfolding text_of
text_is network given done =
    let acts : List (List (List ℕ)) = all_words network done.lines in
    let last : List (List (List ℕ)) = behind_words network given done.after in
    ap (λ (l : List ℕ). l ++ end_lines network given done.after) (acts_text network done.lines)
    ∙ (ap (λ (l : List ℕ). text acts ++ l) (behind_text network given done.after) ∙ sym (text_both acts last))

all_are : (network : Network) (given : ℕ → List ℕ) (done : Passage) → IsNamed network → Lines (all_words network done.lines ++ behind_words network given done.after)
all_are network given done named =
    let plain = plain_names network named in
    lines_both (all_words network done.lines) (behind_words network given done.after) (acts_are network plain done.lines)
    (
    lines_both (ends_words 0 network.descs done.after.machines) (consoles_words 0 network.wiring.consoles given done.after.consoles) (ends_are 0 network.descs done.after.machines plain)
    (consoles_are 0 network.wiring.consoles given done.after.consoles named.consoles)
    )

pub lines_are_own : (network : Network) (given : ℕ → List ℕ) (part : ℕ) (done : Passage) → IsNamed network → part < length network.descs → FollowsMoves network part done
    → lines_of (desc_at network part).name (text_of network given done) ≡ own_text (desc_at network part) (moves_of part done.log)
unfolding own_text
lines_are_own network given part done named here follows =
    let d : Desc = desc_at network part in
    let name : List ℕ = d.name in
    let acts : List (List (List ℕ)) = all_words network done.lines in
    let last : List (List (List ℕ)) = behind_words network given done.after in
    ap (lines_of name) (text_is network given done)
    ∙ (read_back name (acts ++ last) (all_are network given done named).are
    ∙ (picked_both name acts last
    ∙ (ap (λ (l : List ℕ). l ++ flat_map (picked name) last) (picked_acts network named part here done.lines ∙ sym (trace_text name (trace_in part done.lines)))
    ∙ (ap (λ (l : List ℕ). trace_lines name (trace_in part done.lines) ++ l) (picked_last network given part done.after named here)
    ∙ (ap (λ (t : List Traced). trace_lines name t ++ machine_line name (machine_at done.after.machines part)) follows.trace
    ∙ ap (λ (m : Machine). trace_lines name (trace_of d (moves_of part done.log) (fresh d)) ++ machine_line name m) follows.machine)))))
