-- The lines behind the last turn, and what else callers read.
use Rattle.std.proofs.Common.{◌≡◌, ℕ, suc, ◌+◌, ◌<◌, ◌≤◌, Bool, not, ◌&&◌, List, [], ◌∷◌, ◌++◌, drop, drop-cons, add-one, length, slice_index_or, Option, Result, Ok, Err, IsErr, refl, sym, ap, subst, ◌∙◌, arith}
use Rattle.std.specs.List.{list_all}
use Rattle.std.specs.Io.KnownBytes.{Appends}
use Rattle.std.proofs.KnownBytes.{Appends-trans}
use Rattle.std.proofs.lemmas.List.{length-map, get_or-map, get_or_default}
use Rattle.outside.specs.Fault.{Rose}
use Rattle.outside.specs.Taken.{AppendsFront}
use Rattle.outside.specs.Pieces.{Writes}
use Rattle.outside.proofs.PiecesSoFar.{front_within, front_behind, writes_front}
use Rattle.trace_text.specs.Ends.{state_word, end_line, console_line}
use Rattle.machine_desc.specs.declared.act.State.{State}
use Rattle.machine_desc.specs.declared.desc.Desc.{Desc}
use Rattle.partition.specs.Machine.{Inner, Machine, fresh}
use Rattle.partition.specs.Lending.{Part}
use Rattle.network.specs.Network.{Network, no_desc, desc_at}
use Rattle.network.specs.World.{Counts, Line, machine_at, no_counts, counts_at}
use Rattle.network.specs.Entering.{waiting}
use Rattle.network.specs.Tally.{Tally}
use Rattle.network.specs.Turn.{is_running}
use Rattle.network.specs.Laws.{is_at_rest, are_at_rest}
use Rattle.network.specs.Report.{act_lines, machine_lines, counts_line, counts_lines, end_lines}
use Rattle.system.specs.declared.deed.Deed.{Deed}
use Rattle.system.specs.declared.show.Show.{Show}
use Rattle.system.specs.declared.show.Show.TheVariants.{Acts, Quiet}
use Rattle.system.specs.Shown.{Waits, shown, deed_line, shown_deed, part_lines, console_lines}
use Rattle.system.specs.System.{Held, Snapshot, no_part, part_at, descs_of, machines_of, world_of, network_of, snapshot_of, are_parts_at_rest, IsSystem}
use Rattle.system.proofs.Opened.{machine_there, machines_length}

-- ---- partitions

inner_of : (held : Held) (part : ℕ) → part < length held.parts → (machine_at (machines_of held) part).inner ≡ (part_at held.parts part).inner
inner_of held part there = ap (λ (m : Machine). m.inner) (machine_there held part (fresh no_desc) there)

part_lines_from : (parts : List Part) (first : ℕ) (machines : List Machine) → ((i : ℕ) → i < length parts → (machine_at machines (first + i)).inner ≡ (part_at parts i).inner)
    → part_lines parts ≡ machine_lines first (descs_of parts) machines
part_lines_from [] first machines h = refl
part_lines_from (part ∷ parts) first machines h =
    let here : first ≡ first + 0 = omega arith in
    let inner : part.inner ≡ (machine_at machines first).inner = sym (ap (λ (n : ℕ). (machine_at machines n).inner) here ∙ h 0 (omega arith)) in
    let tail = part_lines_from parts (first + 1) machines (λ i there.
    let on : (first + 1) + i ≡ first + suc i = omega arith in
    ap (λ (n : ℕ). (machine_at machines n).inner) on ∙ h (suc i) (omega (arith, there))) in
    ap (λ (own : Inner). end_line part.desc.name (state_word own.state) own.steps ++ part_lines parts) inner
    ∙ ap (λ (l : List ℕ). end_line part.desc.name (state_word (machine_at machines first).inner.state) (machine_at machines first).inner.steps ++ l) tail

part_lines_are : (held : Held) → part_lines held.parts ≡ machine_lines 0 (descs_of held.parts) (machines_of held)
part_lines_are held = part_lines_from held.parts 0 (machines_of held) (λ i there.
    let same : 0 + i ≡ i = omega arith in
    ap (λ (n : ℕ). (machine_at (machines_of held) n).inner) same ∙ inner_of held i there)

-- the line of the next partition, and those behind it
pub next_part : (parts : List Part) (i : ℕ) (d own : Part) (name : List ℕ) (state : State) (steps : ℕ) → i < length parts → own ≡ slice_index_or parts i d → name ≡ own.desc.name → state ≡ own.inner.state
    → steps ≡ own.inner.steps → part_lines (drop i parts) ≡ end_line name (state_word state) steps ++ part_lines (drop (i + 1) parts)
next_part parts i d own name state steps there is n s k =
    ap part_lines (drop-cons parts i d there)
    ∙ (ap (λ (m : ℕ). part_lines (slice_index_or parts i d ∷ drop m parts)) (sym (add-one i))
    ∙ (ap (λ (p : Part). part_lines (p ∷ drop (i + 1) parts)) (sym is)
    ∙ (ap (λ (m : List ℕ). end_line m (state_word own.inner.state) own.inner.steps ++ part_lines (drop (i + 1) parts)) (sym n)
    ∙ (ap (λ (t : State). end_line name (state_word t) own.inner.steps ++ part_lines (drop (i + 1) parts)) (sym s)
    ∙ ap (λ (m : ℕ). end_line name (state_word state) m ++ part_lines (drop (i + 1) parts)) (sym k)))))

-- ---- consoles

-- the line of the next console, and those behind it
next_console : (name : List ℕ) (names : List (List ℕ)) (counts : List Counts) (waits : List ℕ) (k : ℕ) → k < length counts → k < length waits
    → console_lines (name ∷ names) (drop k counts) (drop k waits) ≡ counts_line name (counts_at counts k) (slice_index_or waits k 0) ++ console_lines names (drop (k + 1) counts) (drop (k + 1) waits)
next_console name names counts waits k here there =
    ap (λ (cs : List Counts). console_lines (name ∷ names) cs (drop k waits)) (drop-cons counts k no_counts here)
    ∙ (ap (λ (ws : List ℕ). console_lines (name ∷ names) (counts_at counts k ∷ drop (suc k) counts) ws) (drop-cons waits k 0 there)
    ∙ ap (λ (n : ℕ). counts_line name (counts_at counts k) (slice_index_or waits k 0) ++ console_lines names (drop n counts) (drop n waits)) (sym (add-one k)))

-- by what the program read of it
pub console_read : (names : List (List ℕ)) (counts : List Counts) (waits : List ℕ) (k : ℕ) (d name : List ℕ) (e own : Counts) (printed entered : ℕ) → k < length names → length counts ≡ length names → length waits ≡ length names
    → name ≡ slice_index_or names k d → own ≡ slice_index_or counts k e → printed ≡ own.printed → entered ≡ own.entered
    → console_lines (drop k names) (drop k counts) (drop k waits)
    ≡ console_line name printed entered (slice_index_or waits k 0) ++ console_lines (drop (k + 1) names) (drop (k + 1) counts) (drop (k + 1) waits)
console_read names counts waits k d name e own printed entered there long same n c p q =
    let here : k < length counts = omega (arith, there, long) in
    let is : counts_at counts k ≡ own = get_or_default counts k no_counts e here ∙ sym c in
    ap (λ (ns : List (List ℕ)). console_lines ns (drop k counts) (drop k waits)) (drop-cons names k d there ∙ ap (λ (m : ℕ). slice_index_or names k d ∷ drop m names) (sym (add-one k)))
    ∙ (next_console (slice_index_or names k d) (drop (k + 1) names) counts waits k here (omega (arith, there, same))
    ∙ (ap (λ (m : List ℕ). counts_line m (counts_at counts k) (slice_index_or waits k 0) ++ console_lines (drop (k + 1) names) (drop (k + 1) counts) (drop (k + 1) waits)) (sym n)
    ∙ (ap (λ (m : ℕ). console_line name m (counts_at counts k).entered (slice_index_or waits k 0) ++ console_lines (drop (k + 1) names) (drop (k + 1) counts) (drop (k + 1) waits)) (ap (λ (o : Counts). o.printed) is ∙ sym p)
    ∙ ap (λ (m : ℕ). console_line name printed m (slice_index_or waits k 0) ++ console_lines (drop (k + 1) names) (drop (k + 1) counts) (drop (k + 1) waits)) (ap (λ (o : Counts). o.entered) is ∙ sym q))))

console_lines_from : (names : List (List ℕ)) (counts : List Counts) (waits : List ℕ) (given : ℕ → List ℕ) (first : ℕ) → first + length names ≡ length counts → length waits ≡ length counts
    → ((k : ℕ) → k < length counts → slice_index_or waits k 0 ≡ length (waiting (given k) counts k))
    → console_lines names (drop first counts) (drop first waits) ≡ counts_lines first names given counts
console_lines_from [] counts waits given first long same h = refl
console_lines_from (name ∷ names) counts waits given first long same h =
    next_console name names counts waits first (omega (arith, long)) (omega (arith, long, same))
    ∙ (ap (λ (n : ℕ). counts_line name (counts_at counts first) n ++ console_lines names (drop (first + 1) counts) (drop (first + 1) waits)) (h first (omega (arith, long)))
    ∙ ap (λ (l : List ℕ). counts_line name (counts_at counts first) (length (waiting (given first) counts first)) ++ l) (console_lines_from names counts waits given (first + 1) (omega (arith, long)) same h))

-- ---- all of them

end_lines_held : (held : Held) (given : ℕ → List ℕ) (waits : List ℕ) → IsSystem held → length waits ≡ length held.wiring.consoles → Waits (network_of held) given (world_of held) waits
    → part_lines held.parts ++ console_lines held.wiring.consoles held.counts waits ≡ end_lines (network_of held) given (world_of held)
end_lines_held held given waits kept long h =
    let counts = kept.counts in
    ap (λ (l : List ℕ). l ++ console_lines held.wiring.consoles held.counts waits) (part_lines_are held)
    ∙ ap (λ (l : List ℕ). machine_lines 0 (descs_of held.parts) (machines_of held) ++ l)
    (console_lines_from held.wiring.consoles held.counts waits given 0 (omega (arith, counts)) (omega (arith, long, counts)) (λ k there. h k (omega (arith, there, counts))))

pub end_lines_are : {tally : Tally} (held : Held) (now : Snapshot) (given : ℕ → List ℕ) (waits : List ℕ) → snapshot_of tally held ≡ now → IsSystem held → length waits ≡ length now.network.wiring.consoles
    → Waits now.network given now.world waits → part_lines held.parts ++ console_lines held.wiring.consoles held.counts waits ≡ end_lines now.network given now.world
end_lines_are held now given waits view kept =
    subst
    (λ (s : Snapshot).
    length waits ≡ length s.network.wiring.consoles → Waits s.network given s.world waits → part_lines held.parts ++ console_lines held.wiring.consoles held.counts waits ≡ end_lines s.network given s.world)
    view (end_lines_held held given waits kept)

-- ---- what else callers read

same_all : {X Y : Type 0} (f : X → Bool) (g : Y → Bool) (xs : List X) (ys : List Y) (d : X) (e : Y) → length xs ≡ length ys
    → ((i : ℕ) → i < length xs → f (slice_index_or xs i d) ≡ g (slice_index_or ys i e)) → list_all f xs ≡ list_all g ys
same_all f g [] [] d e long h = refl
same_all f g [] (y ∷ ys) d e long h = absurd (omega (arith, long))
same_all f g (x ∷ xs) [] d e long h = absurd (omega (arith, long))
same_all f g (x ∷ xs) (y ∷ ys) d e long h =
    ap (λ (b : Bool). b && list_all f xs) (h 0 (omega arith)) ∙ ap (λ (b : Bool). g y && b) (same_all f g xs ys d e (omega (arith, long)) (λ i there. h (suc i) (omega (arith, there))))

rest_is : (held : Held) → are_parts_at_rest held.parts ≡ are_at_rest (machines_of held)
rest_is held =
    let long = machines_length held in
    same_all (λ (part : Part). not (is_running part.inner.state)) is_at_rest held.parts (machines_of held) no_part (fresh no_desc) (sym long)
    (λ i there. ap (λ (own : Inner). not (is_running own.state)) (sym (inner_of held i there)))

pub rests_as : {tally : Tally} (held : Held) (now : Snapshot) (parts : List Part) (rests : Bool) → snapshot_of tally held ≡ now → parts ≡ held.parts → rests ≡ are_parts_at_rest parts → rests ≡ are_at_rest now.world.machines
rests_as held now parts rests view same e = e ∙ (ap are_parts_at_rest same ∙ (rest_is held ∙ ap (λ (s : Snapshot). are_at_rest s.world.machines) view))

pub desc_there : {tally : Tally} (held : Held) (now : Snapshot) (part : ℕ) → snapshot_of tally held ≡ now → part < length held.parts → (part_at held.parts part).desc ≡ desc_at now.network part
desc_there held now part view there =
    sym (get_or-map (λ (p : Part). p.desc) held.parts part no_part no_desc there) ∙ ap (λ (s : Snapshot). desc_at s.network part) view

pub there_in : {tally : Tally} (held : Held) (now : Snapshot) (part : ℕ) → snapshot_of tally held ≡ now → part < length now.network.descs → part < length held.parts
there_in held now part view here =
    let within : part < length (descs_of held.parts) = subst (λ (s : Snapshot). part < length s.network.descs) (sym view) here in
    let descs = length-map held.parts (λ (p : Part). p.desc) in
    omega (arith, within, descs)

-- what is shown of a turn
pub shown_as : (show : Show) (network : Network) (lines : List Line) (descs : List Desc) (deed : Option Deed) → descs ≡ network.descs → deed_line network.descs deed ≡ act_lines network lines
    → shown_deed show descs deed ≡ shown show network lines
shown_as Acts network lines descs deed same e = ap (λ (ds : List Desc). deed_line ds deed) same ∙ e
shown_as Quiet network lines descs deed same e = refl

-- ---- one text behind another

-- a text was written whole, and then another as far as the sink took it
pub writes_on : {T E : Type 0} (r : Result T E) (a b c : Option (List ℕ)) (before mid now : ℕ) (one other : List ℕ)
    → Appends a b one → before ≤ mid → Writes r b c mid now other → Writes r a c before now (one ++ other)
writes_on (Ok v) a b c before mid now one other first rose more = record {
  whole = Appends-trans a b c one other first more.whole;
  front = front_behind a b c one other first more.front;
  counted = omega (arith, more.counted);
  failed = tt;
}
writes_on (Err e) a b c before mid now one other first rose more = record {
  whole = tt;
  front = front_behind a b c one other first more.front;
  counted = omega (arith, more.counted);
  failed = omega (arith, more.failed);
}

-- the first failed
pub writes_first : {T E : Type 0} (r : Result T E) (a b : Option (List ℕ)) (before now : ℕ) (one other : List ℕ) → IsErr r → AppendsFront a b one → before ≤ now → Rose before now
    → Writes r a b before now (one ++ other)
writes_first r a b before now one other fails front counted rose = writes_front r a b before now (one ++ other) fails (front_within a b one other front) counted rose
