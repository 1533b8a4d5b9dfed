-- What a ring brings each partition.
use Rattle.std.proofs.Common.{◌≡◌, ℕ, zero, suc, ◌+◌, ◌<◌, ◌==◌, Bool, true, false, cond, if◌then◌else◌, List, [], ◌∷◌, ◌++◌, length, map, filter, slice_index_or, refl, sym, ap, subst, ◌∙◌, arith, add-one, append-nil}
use Rattle.std.specs.List.{range_with_len}
use Rattle.std.proofs.lemmas.Bool.{eqb-true, eq-eqb}
use Rattle.std.proofs.lemmas.List.{length-map, map-append}
use Rattle.std.proofs.lemmas.List.Elements.{filter-append}
use Rattle.std.proofs.lemmas.List.FromFn.{map-range_with_len_more}
use Rattle.core_step.specs.declared.answer.Wrote.{Wrote}
use Rattle.machine_desc.specs.declared.act.Act.{Act as Told}
use Rattle.machine_desc.specs.declared.desc.Desc.{Desc}
use Rattle.machine_desc.specs.declared.wiring.Bell.{Bell}
use Rattle.machine_desc.specs.declared.wiring.PortRef.{PortRef}
use Rattle.partition.specs.Event.{apply}
use Rattle.partition.specs.Machine.{Machine}
use Rattle.partition.specs.Lending.{Part}
use Rattle.network.specs.Network.{Network, no_desc, desc_at, ref_to, hears, handles_of, handles_from, receivers_of}
use Rattle.network.specs.Change.{Change, changed, after_changes}
use Rattle.network.specs.World.{Counts, Entry, delivered, machine_at, after_log, changes_of}
use Rattle.network.specs.Effects.{ring_at}
use Rattle.network.proofs.Logs.{follows_changes}
use Rattle.system.specs.Board.{Lines}
use Rattle.system.specs.System.{Held, part_at, descs_of, network_of, machine_by, machines_of}
use Rattle.system.specs.Turning.{rung_if, rung_upto, Rings}
use Rattle.system.proofs.Rung.{keeps_desc}
use Rattle.system.proofs.Shown.{after_shown}
use Rattle.system.proofs.Fed.{desc_there}
use Rattle.system.proofs.Told.{IsHeard, heard_long, heard_desc, own_told, other_told, all_machines, shown_length}
use Rattle.system.proofs.Acts.{left_by}

-- ---- logs of rings

abbrev rings_of : (PortRef → Bool) → List PortRef → List Entry
rings_of test refs = map delivered (map ring_at (filter test refs))

changes_both : (part : ℕ) (a b : List Entry) → changes_of part (a ++ b) ≡ changes_of part a ++ changes_of part b
changes_both part [] b = refl
changes_both part (entry ∷ a) b = by_place (entry.part == part) refl (changes_both part a b)
  where
    by_place : (c : Bool) → (entry.part == part) ≡ c → changes_of part (a ++ b) ≡ changes_of part a ++ changes_of part b
        → (if entry.part == part then entry.change ∷ changes_of part (a ++ b) else changes_of part (a ++ b)) ≡ (if entry.part == part then entry.change ∷ changes_of part a else changes_of part a) ++ changes_of part b
    by_place true e rest = rw e (ap (λ (l : List Change). entry.change ∷ l) rest)
    by_place false e rest = rw e rest

changes_on : (desc : Desc) (a b : List Change) (machine : Machine) → after_changes desc (a ++ b) machine ≡ after_changes desc b (after_changes desc a machine)
changes_on desc [] b machine = refl
changes_on desc (change ∷ a) b machine = changes_on desc a b (changed desc change machine)

rings_both : (test : PortRef → Bool) (a b : List PortRef) → rings_of test (a ++ b) ≡ rings_of test a ++ rings_of test b
rings_both test a b =
    ap (λ (l : List PortRef). map delivered (map ring_at l)) (filter-append test a b)
    ∙ (ap (map delivered) (map-append ring_at (filter test a) (filter test b)) ∙ map-append delivered (map ring_at (filter test a)) (map ring_at (filter test b)))

-- ---- whose they are

elsewhere : (test : PortRef → Bool) (part other : ℕ) (handles : List ℕ) → (other == part) ≡ false → changes_of part (rings_of test (map (ref_to other) handles)) ≡ []
elsewhere test part other [] ne = refl
elsewhere test part other (handle ∷ handles) ne = by_test (test (ref_to other handle)) refl (elsewhere test part other handles ne)
  where
    by_test : (b : Bool) → test (ref_to other handle) ≡ b → changes_of part (rings_of test (map (ref_to other) handles)) ≡ [] → changes_of part (rings_of test (ref_to other handle ∷ map (ref_to other) handles)) ≡ []
    by_test true e rest = rw (e, ne) rest
    by_test false e rest = rw e rest

before_all : (test : PortRef → Bool) (part first : ℕ) (descs : List Desc) → part < first → changes_of part (rings_of test (handles_from first descs)) ≡ []
before_all test part first [] h = refl
before_all test part first (desc ∷ descs) h =
    let ne : first ≡ part → ⊥ = λ q. omega (arith, h, q) in
    ap (changes_of part) (rings_both test (handles_of first desc) (handles_from (first + 1) descs))
    ∙ (changes_both part (rings_of test (handles_of first desc)) (rings_of test (handles_from (first + 1) descs))
    ∙ (ap (λ (l : List Change). l ++ changes_of part (rings_of test (handles_from (first + 1) descs))) (elsewhere test part first (range_with_len 1 (length desc.ports)) (not_same first part ne))
    ∙ before_all test part (first + 1) descs (omega (arith, h))))
  where
    not_same : (a b : ℕ) → (a ≡ b → ⊥) → (a == b) ≡ false
    not_same a b ne = by_case (a == b) refl
      where
        by_case : (c : Bool) → (a == b) ≡ c → (a == b) ≡ false
        by_case false e = e
        by_case true e = absurd (ne (eqb-true a b e))

own_rings : (test : PortRef → Bool) (first place part : ℕ) (descs : List Desc) → place < length descs → part ≡ first + place
    → changes_of part (rings_of test (handles_from first descs)) ≡ changes_of part (rings_of test (handles_of part (slice_index_or descs place no_desc)))
own_rings test first place part [] there at = absurd (omega arith)
own_rings test first zero part (desc ∷ descs) there at =
    let same : first ≡ part = omega (arith, at) in
    ap (changes_of part) (rings_both test (handles_of first desc) (handles_from (first + 1) descs))
    ∙ (changes_both part (rings_of test (handles_of first desc)) (rings_of test (handles_from (first + 1) descs))
    ∙ (ap (λ (l : List Change). changes_of part (rings_of test (handles_of first desc)) ++ l) (before_all test part (first + 1) descs (omega (arith, at)))
    ∙ (append-nil (changes_of part (rings_of test (handles_of first desc))) ∙ ap (λ (n : ℕ). changes_of part (rings_of test (handles_of n desc))) same)))
own_rings test first (suc place) part (desc ∷ descs) there at =
    ap (changes_of part) (rings_both test (handles_of first desc) (handles_from (first + 1) descs))
    ∙ (changes_both part (rings_of test (handles_of first desc)) (rings_of test (handles_from (first + 1) descs))
    ∙ (ap (λ (l : List Change). l ++ changes_of part (rings_of test (handles_from (first + 1) descs))) (elsewhere test part first (range_with_len 1 (length desc.ports)) (by_case (first == part) refl))
    ∙ own_rings test (first + 1) place part descs (omega arith) (omega (arith, at))))
  where
    by_case : (c : Bool) → (first == part) ≡ c → (first == part) ≡ false
    by_case false e = e
    by_case true e = let q = eqb-true first part e in absurd (omega (arith, q, at))

-- ---- one partition

pub one_ring : (bells : List Bell) (sender : PortRef) (number handle : ℕ) (desc : Desc) (part : Part) (lines : Lines) (memory : List (List ℕ)) → desc ≡ part.desc
    → after_changes desc (changes_of number (rings_of (hears bells sender) (ref_to number handle ∷ []))) (machine_by part lines memory number)
    ≡ machine_by (rung_if (hears bells sender (ref_to number handle)) handle part) lines memory number
unfolding changed apply
one_ring bells sender number handle desc part lines memory d = by_test (hears bells sender (ref_to number handle)) refl
  where
    by_test : (b : Bool) → hears bells sender (ref_to number handle) ≡ b
        → after_changes desc (changes_of number (rings_of (hears bells sender) (ref_to number handle ∷ []))) (machine_by part lines memory number)
        ≡ machine_by (rung_if (hears bells sender (ref_to number handle)) handle part) lines memory number
    by_test true e = subst (λ (x : Desc). after_changes x (changes_of number (rings_of (hears bells sender) (ref_to number handle ∷ []))) (machine_by part lines memory number)
        ≡ machine_by (rung_if (hears bells sender (ref_to number handle)) handle part) lines memory number) (sym d) (rw (e, eq-eqb number number refl) refl)
    by_test false e =
        ap (λ (c : Bool). after_changes desc (changes_of number (map delivered (map ring_at (cond c (ref_to number handle ∷ []) [])))) (machine_by part lines memory number)) e
        ∙ ap (λ (c : Bool). machine_by (rung_if c handle part) lines memory number) (sym e)

-- the first handles of one partition, one after another
pub rung_on : (bells : List Bell) (sender : PortRef) (number count : ℕ) (desc : Desc) (part : Part) (lines : Lines) (memory : List (List ℕ)) → desc ≡ part.desc
    → after_changes desc (changes_of number (rings_of (hears bells sender) (map (ref_to number) (range_with_len 1 count)))) (machine_by part lines memory number)
    ≡ machine_by (rung_upto bells sender number count part) lines memory number
rung_on bells sender number zero desc part lines memory d = refl
rung_on bells sender number (suc count) desc part lines memory d =
    let test : PortRef → Bool = hears bells sender in
    let first : List PortRef = map (ref_to number) (range_with_len 1 count) in
    let last : PortRef = ref_to number (suc count) in
    let more : map (ref_to number) (range_with_len 1 (suc count)) ≡ first ++ last ∷ [] =
    ap (λ (n : ℕ). map (ref_to number) (range_with_len 1 n)) (sym (add-one count)) ∙ map-range_with_len_more (ref_to number) 1 count (suc count) (omega arith) in
    ap (λ (l : List PortRef). after_changes desc (changes_of number (rings_of test l)) (machine_by part lines memory number)) more
    ∙ (ap (λ (l : List Entry). after_changes desc (changes_of number l) (machine_by part lines memory number)) (rings_both test first (last ∷ []))
    ∙ (ap (λ (l : List Change). after_changes desc l (machine_by part lines memory number)) (changes_both number (rings_of test first) (rings_of test (last ∷ [])))
    ∙ (changes_on desc (changes_of number (rings_of test first)) (changes_of number (rings_of test (last ∷ []))) (machine_by part lines memory number)
    ∙ (ap (after_changes desc (changes_of number (rings_of test (last ∷ [])))) (rung_on bells sender number count desc part lines memory d)
    ∙ one_ring bells sender number (suc count) desc (rung_upto bells sender number count part) lines memory (d ∙ sym (keeps_desc bells sender number count part))))))

-- ---- all partitions

abbrev pub sender_of : Held → ℕ → PortRef
sender_of held handle = ref_to held.lines.who handle

pub rung_machines : (held : Held) (stepped heard rung : List Part) (memory : List (List ℕ)) (core : ℕ) (act : Told) (ranges : List Wrote) (counts : List Counts) (handle : ℕ)
    → IsHeard held stepped heard memory held.lines core act ranges → Rings held.wiring.bells (sender_of held handle) heard rung
    → machines_of (left_by held rung memory held.lines counts)
    ≡ after_log (network_of held) (map delivered (map ring_at (receivers_of (network_of held) held.lines.who handle))) (after_shown (network_of held) (machines_of held) held.lines.who core)
rung_machines held stepped heard rung memory core act ranges counts handle h rings =
    let network : Network = network_of held in
    let machines : List Machine = after_shown network (machines_of held) held.lines.who core in
    let log : List Entry = map delivered (map ring_at (receivers_of network held.lines.who handle)) in
    let long = heard_long held stepped heard memory held.lines core act ranges h in
    let count = rings.count in
    let shown_long = shown_length held held.lines.who core in
    all_machines (left_by held rung memory held.lines counts) network log machines (omega (arith, count, long, shown_long)) (λ part there. one part (omega (arith, there, shown_long)))
  where
    bells : List Bell
    bells = held.wiring.bells

    sender : PortRef
    sender = sender_of held handle

    told : (part : ℕ) → part < length held.parts → (b : Bool) → (part == held.lines.who) ≡ b
        → machine_at (after_shown (network_of held) (machines_of held) held.lines.who core) part ≡ machine_by (part_at heard part) held.lines memory part
    told part there false e = other_told held stepped heard memory held.lines core act ranges part h there e
    told part there true e =
        subst (λ (n : ℕ). machine_at (after_shown (network_of held) (machines_of held) held.lines.who core) n ≡ machine_by (part_at heard n) held.lines memory n) (sym (eqb-true part held.lines.who e))
        (own_told held stepped heard memory held.lines core act ranges h)

    one : (part : ℕ) → part < length held.parts
        → machine_by (part_at rung part) held.lines memory part
        ≡ machine_at (after_log (network_of held) (map delivered (map ring_at (receivers_of (network_of held) held.lines.who handle))) (after_shown (network_of held) (machines_of held) held.lines.who core)) part
    one part there =
        let network : Network = network_of held in
        let machines : List Machine = after_shown network (machines_of held) held.lines.who core in
        let log : List Entry = map delivered (map ring_at (receivers_of network held.lines.who handle)) in
        let long = heard_long held stepped heard memory held.lines core act ranges h in
        let shown_long = shown_length held held.lines.who core in
        let descs : length (descs_of held.parts) ≡ length held.parts = length-map held.parts (λ (p : Part). p.desc) in
        let desc : Desc = desc_at network part in
        let same : desc ≡ (part_at heard part).desc = desc_there held part there ∙ sym (heard_desc held stepped heard memory held.lines core act ranges part h there) in
        let mine : changes_of part log ≡ changes_of part (rings_of (hears bells sender) (handles_of part desc)) =
        own_rings (hears bells sender) 0 part part (descs_of held.parts) (omega (arith, there, descs)) (omega arith) in
        sym
        ((follows_changes network part log machines (omega (arith, there, shown_long))).machine
        ∙ (ap (λ (l : List Change). after_changes desc l (machine_at machines part)) mine
        ∙ (ap (after_changes desc (changes_of part (rings_of (hears bells sender) (handles_of part desc)))) (told part there (part == held.lines.who) refl)
        ∙ (rung_on bells sender part (length desc.ports) desc (part_at heard part) held.lines memory same
        ∙ (ap (λ (d : Desc). machine_by (rung_upto bells sender part (length d.ports) (part_at heard part)) held.lines memory part) same
        ∙ ap (λ (p : Part). machine_by p held.lines memory part) (sym (rings.each part (omega (arith, there, long)))))))))
