-- A run's machines and lines are those of its log, and each partition's are those of its own changes.
use Rattle.std.proofs.Common.{◌≡◌, ◌≢◌, ℕ, ◌<◌, ◌==◌, Bool, true, false, subst, List, [], ◌∷◌, ◌++◌, length, refl, sym, ap, ◌∙◌, append_assoc, length-set}
use Rattle.std.proofs.lemmas.List.{get_or-set_same, get_or-set_other}
use Rattle.std.proofs.lemmas.Bool.{eqb-true, eqb-false, eq-eqb}
use Rattle.machine_desc.specs.declared.desc.Desc.{Desc}
use Rattle.partition.specs.Machine.{Machine, fresh}
use Rattle.network.specs.Network.{Network, no_desc, desc_at}
use Rattle.network.specs.Change.{Change, Moves, Shared, Traced, changed, traced, after_changes}
use Rattle.network.specs.World.{World, Entry, entry_for, machine_at, after_entry, after_log, changes_of, Line, line_of, trace_in, Passage, passed, and_then}

-- ---- what a log tells

-- what a change tells of its partition
abbrev pub traced_by : Desc → Change → Machine → List Traced
traced_by desc (Moves move) machine = traced desc move machine
traced_by desc (Shared regions memory stored) machine = []

abbrev pub trace_by : Desc → List Change → Machine → List Traced
trace_by desc [] machine = []
trace_by desc (change ∷ changes) machine = traced_by desc change machine ++ trace_by desc changes (changed desc change machine)

abbrev pub lines_for : ℕ → List Traced → List Line
lines_for part [] = []
lines_for part (one ∷ trace) = line_of part one ∷ lines_for part trace

abbrev pub lines_by : Network → List Entry → List Machine → List Line
lines_by network [] machines = []
lines_by network (entry ∷ log) machines =
    lines_for entry.part (traced_by (desc_at network entry.part) entry.change (machine_at machines entry.part)) ++ lines_by network log (after_entry network entry machines)

-- what a passage says of machines and lines is what its log does
pub record IsLogged (network : Network) (world : World) (done : Passage) : Type 0 where
  pub machines : done.after.machines ≡ after_log network done.log world.machines
  pub lines : done.lines ≡ lines_by network done.log world.machines

pub after_both : (network : Network) (a b : List Entry) (machines : List Machine) → after_log network (a ++ b) machines ≡ after_log network b (after_log network a machines)
after_both network [] b machines = refl
after_both network (entry ∷ a) b machines = after_both network a b (after_entry network entry machines)

pub lines_both : (network : Network) (a b : List Entry) (machines : List Machine)
    → lines_by network (a ++ b) machines ≡ lines_by network a machines ++ lines_by network b (after_log network a machines)
lines_both network [] b machines = refl
lines_both network (entry ∷ a) b machines =
    let own : List Line = lines_for entry.part (traced_by (desc_at network entry.part) entry.change (machine_at machines entry.part)) in
    ap (λ (l : List Line). own ++ l) (lines_both network a b (after_entry network entry machines)) ∙ sym (append_assoc own _ _)

pub logged_passed : (network : Network) (world : World) → IsLogged network world (passed world)
logged_passed network world = record { machines = refl; lines = refl }

pub logged_then : (network : Network) (world : World) (first : Passage) (rest : World → Passage) → IsLogged network world first → IsLogged network first.after (rest first.after)
    → IsLogged network world (and_then first rest)
logged_then network world first rest g h = record {
  machines = h.machines ∙ (ap (after_log network (rest first.after).log) g.machines ∙ sym (after_both network first.log (rest first.after).log world.machines));
  lines = ap (λ (l : List Line). first.lines ++ l) (h.lines ∙ ap (lines_by network (rest first.after).log) g.machines)
      ∙ (ap (λ (l : List Line). l ++ lines_by network (rest first.after).log (after_log network first.log world.machines)) g.lines
      ∙ sym (lines_both network first.log (rest first.after).log world.machines));
}

-- ---- one partition

own_line : (part : ℕ) (one : Traced) (lines : List Line) → trace_in part (line_of part one ∷ lines) ≡ one ∷ trace_in part lines
own_line part one lines = rw (eq-eqb part part refl) refl

own_trace : (part : ℕ) (trace : List Traced) (lines : List Line) → trace_in part (lines_for part trace ++ lines) ≡ trace ++ trace_in part lines
own_trace part [] lines = refl
own_trace part (one ∷ trace) lines = own_line part one (lines_for part trace ++ lines) ∙ ap (λ (l : List Traced). one ∷ l) (own_trace part trace lines)

other_trace : (part other : ℕ) (trace : List Traced) (lines : List Line) → (other == part) ≡ false → trace_in part (lines_for other trace ++ lines) ≡ trace_in part lines
other_trace part other [] lines h = refl
other_trace part other (one ∷ trace) lines h = rw h (other_trace part other trace lines h)

pub record FollowsChanges (network : Network) (part : ℕ) (log : List Entry) (machines : List Machine) : Type 0 where
  pub machine : machine_at (after_log network log machines) part ≡ after_changes (desc_at network part) (changes_of part log) (machine_at machines part)
  pub trace : trace_in part (lines_by network log machines) ≡ trace_by (desc_at network part) (changes_of part log) (machine_at machines part)

own_changes : (part : ℕ) (change : Change) (log : List Entry) → changes_of part (entry_for part change ∷ log) ≡ change ∷ changes_of part log
own_changes part change log = rw (eq-eqb part part refl) refl

other_changes : (part other : ℕ) (change : Change) (log : List Entry) → (other == part) ≡ false → changes_of part (entry_for other change ∷ log) ≡ changes_of part log
other_changes part other change log h = rw h refl

own_entry : (network : Network) (part : ℕ) (change : Change) (machines : List Machine) → part < length machines
    → machine_at (after_entry network (entry_for part change) machines) part ≡ changed (desc_at network part) change (machine_at machines part)
own_entry network part change machines h = get_or-set_same machines part _ (fresh no_desc) h

other_entry : (network : Network) (part other : ℕ) (change : Change) (machines : List Machine) → part ≢ other
    → machine_at (after_entry network (entry_for other change) machines) part ≡ machine_at machines part
other_entry network part other change machines h = get_or-set_other machines other part _ (fresh no_desc) h

own : (network : Network) (part : ℕ) (change : Change) (log : List Entry) (machines : List Machine) → part < length machines
    → FollowsChanges network part log (after_entry network (entry_for part change) machines) → FollowsChanges network part (entry_for part change ∷ log) machines
own network part change log machines h p =
    let d : Desc = desc_at network part in
    let e = own_entry network part change machines h in
    record {
      machine = p.machine ∙ (ap (after_changes d (changes_of part log)) e ∙ ap (λ (l : List Change). after_changes d l (machine_at machines part)) (sym (own_changes part change log)));
      trace = own_trace part (traced_by d change (machine_at machines part)) (lines_by network log (after_entry network (entry_for part change) machines))
          ∙ (ap (λ (l : List Traced). traced_by d change (machine_at machines part) ++ l) (p.trace ∙ ap (trace_by d (changes_of part log)) e)
          ∙ ap (λ (l : List Change). trace_by d l (machine_at machines part)) (sym (own_changes part change log)));
    }

not_own : (network : Network) (part other : ℕ) (change : Change) (log : List Entry) (machines : List Machine) → part ≢ other → (other == part) ≡ false
    → FollowsChanges network part log (after_entry network (entry_for other change) machines) → FollowsChanges network part (entry_for other change ∷ log) machines
not_own network part other change log machines h f p =
    let d : Desc = desc_at network part in
    let e = other_entry network part other change machines h in
    record {
      machine = p.machine ∙ (ap (after_changes d (changes_of part log)) e ∙ ap (λ (l : List Change). after_changes d l (machine_at machines part)) (sym (other_changes part other change log f)));
      trace = other_trace part other (traced_by (desc_at network other) change (machine_at machines other)) (lines_by network log (after_entry network (entry_for other change) machines)) f
          ∙ (p.trace ∙ (ap (trace_by d (changes_of part log)) e ∙ ap (λ (l : List Change). trace_by d l (machine_at machines part)) (sym (other_changes part other change log f))));
    }

by_part : (network : Network) (part : ℕ) (entry : Entry) (log : List Entry) (machines : List Machine) → part < length machines
    → FollowsChanges network part log (after_entry network entry machines) → (b : Bool) → (entry.part == part) ≡ b → FollowsChanges network part (entry ∷ log) machines
by_part network part entry log machines h p true e =
    let q : part ≡ entry.part = sym (eqb-true entry.part part e) in
    subst (λ (n : ℕ). FollowsChanges network part log (after_entry network (entry_for n entry.change) machines) → FollowsChanges network part (entry_for n entry.change ∷ log) machines)
    q (own network part entry.change log machines h) p
by_part network part entry log machines h p false e =
    not_own network part entry.part entry.change log machines (λ q. eqb-false entry.part part e (sym q)) e p

-- a partition's machine and trace are those of its own changes
pub follows_changes : (network : Network) (part : ℕ) (log : List Entry) (machines : List Machine) → part < length machines → FollowsChanges network part log machines
follows_changes network part [] machines h = record { machine = refl; trace = refl }
follows_changes network part (entry ∷ log) machines h =
    by_part network part entry log machines h (follows_changes network part log (after_entry network entry machines) (rw (length-set machines entry.part _) h)) (entry.part == part) refl
