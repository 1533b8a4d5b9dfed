-- What events and acts change at a partition's ends.
use Rattle.std.proofs.Common.{◌≡◌, ℕ, zero, suc, ◌+◌, ◌-◌, ◌<◌, ◌≤◌, ◌==◌, Bool, true, false, List, [], ◌∷◌, ◌++◌, length, drop, Some, None, refl, sym, ap, subst, ◌∙◌, if◌then◌else◌, arith, length-set, length-append, length-drop}
use Rattle.std.specs.Prelude.{slice_get, slice_index_or}
use Rattle.std.proofs.lemmas.Bool.{eqb-true, eqb-false}
use Rattle.std.proofs.lemmas.List.{length-map, get_or-set_same, get_or-set_other}
use Rattle.machine_desc.specs.declared.desc.Desc.{Desc}
use Rattle.machine_desc.specs.declared.desc.Port.{Port}
use Rattle.machine_desc.specs.Private.{is_private_range}
use Rattle.partition.specs.declared.kind.Kind.{Kind}
use Rattle.partition.specs.declared.kind.Kind.TheVariants as kind
use Rattle.partition.specs.Port.{End, empty_end, kinds_of, end_at, with_end, emptied}
use Rattle.partition.specs.Machine.{Machine}
use Rattle.partition.specs.Act.{Act, Nothing, Sent, Took, Rang, Start as Starts, Stop as Stops, Restart as Restarts, CopyTo, CopyFrom, SelfStop, SelfRestart, Faulted, ports_after}
use Rattle.partition.specs.Acting.{MayAct}
use Rattle.partition.specs.Event.{Event, Bytes, Room, Ring, Tells, Start, Stop, Restart, CopyIn, apply}
use Rattle.recording.specs.Fits.{kind_of}

-- ---- handles

-- a handle that there is counts from 1, and has its end
pub record IsHandle (desc : Desc) (handle : ℕ) : Type 0 where
  pub first : 0 < handle
  pub last : handle - 1 < length desc.ports

some_there : (ports : List Port) (i : ℕ) (kind : Kind) → slice_get (kinds_of ports) i ≡ Some kind → i < length ports
some_there [] i kind h = absurd (let e = h in cc)
some_there (port ∷ ports) zero kind h = omega arith
some_there (port ∷ ports) (suc i) kind h = let k = some_there ports i kind h in omega (arith, k)

by_zero : (desc : Desc) (handle : ℕ) (kind : Kind) (b : Bool) → (handle == 0) ≡ b → (if b then None else slice_get (kinds_of desc.ports) (handle - 1)) ≡ Some kind → IsHandle desc handle
by_zero desc handle kind true e h = absurd (let f = h in cc)
by_zero desc handle kind false e h = record { first = (let k = eqb-false handle 0 e in omega (arith, k)); last = some_there desc.ports (handle - 1) kind h }

pub named : (desc : Desc) (handle : ℕ) (kind : Kind) → kind_of desc handle ≡ Some kind → IsHandle desc handle
named desc handle kind h = by_zero desc handle kind (handle == 0) refl h

-- ---- an end that is written

same_there : (ends : List End) (handle : ℕ) (it : End) → handle - 1 < length ends → end_at (with_end ends handle it) handle ≡ it
same_there ends handle it h = get_or-set_same ends (handle - 1) it empty_end h

other_there : (ends : List End) (handle other : ℕ) (it : End) → 0 < handle → 0 < other → (handle ≡ other → ⊥) → end_at (with_end ends handle it) other ≡ end_at ends other
other_there ends handle other it h k ne = get_or-set_other ends (handle - 1) (other - 1) it empty_end (λ q. ne (omega (arith, h, k, q)))

-- one field of an end after a write: that of the new end there, that of the old one elsewhere
written : {A : Type 0} (f : End → A) (ends : List End) (handle other : ℕ) (it : End) → 0 < handle → handle - 1 < length ends → 0 < other → (b : Bool) → (handle == other) ≡ b
    → f (end_at (with_end ends handle it) other) ≡ (if b then f it else f (end_at ends other))
written f ends handle other it h l k true e =
    let q : handle ≡ other = eqb-true handle other e in ap (λ (n : ℕ). f (end_at (with_end ends handle it) n)) (sym q) ∙ ap f (same_there ends handle it l)
written f ends handle other it h l k false e = ap f (other_there ends handle other it h k (eqb-false handle other e))

-- the same there and elsewhere
same_cond : {A : Type 0} (g : ℕ → A) (handle other : ℕ) (b : Bool) → (handle == other) ≡ b → (if b then g handle else g other) ≡ g other
same_cond g handle other true e = ap g (eqb-true handle other e)
same_cond g handle other false e = refl

pub plus_none : (n : ℕ) → n ≡ n + 0
plus_none n = omega arith

pub less_none : (n : ℕ) → n ≡ n - 0
less_none n = omega arith

-- ---- what is seen of a machine's ends

abbrev pub received_at : Machine → ℕ → ℕ
received_at machine handle = length (end_at machine.ports handle).received

abbrev pub outstanding_at : Machine → ℕ → ℕ
outstanding_at machine handle = (end_at machine.ports handle).outstanding

abbrev pub runs_at : Machine → ℕ → Bool
runs_at machine handle = (end_at machine.ports handle).runs

-- ---- events that aren't commands

-- how many bytes an event brings to an end, and how much room
abbrev pub came_by : Event → ℕ → ℕ
came_by (Bytes handle bytes) other = if handle == other then length bytes else 0
came_by _ other = 0

abbrev pub gone_by : Event → ℕ → ℕ
gone_by (Room handle count) other = if handle == other then count else 0
gone_by _ other = 0

abbrev pub runs_by : Event → ℕ → Bool → Bool
runs_by (Tells handle runs) other old = if handle == other then runs else old
runs_by _ other old = old

-- at handles of their kinds, or into private memory
abbrev pub IsLight : Desc → Event → Type 0
IsLight desc (Bytes handle bytes) = kind_of desc handle ≡ Some kind.Channel
IsLight desc (Room handle count) = kind_of desc handle ≡ Some kind.Channel
IsLight desc (Ring handle) = kind_of desc handle ≡ Some kind.Receive
IsLight desc (Tells handle runs) = kind_of desc handle ≡ Some kind.Manage
IsLight desc (CopyIn piece) = is_private_range desc.regions piece.at (length piece.bytes) ≡ true
IsLight desc _ = ⊥

pub record Lightly (event : Event) (old new : Machine) : Type 0 where
  pub length_same : length new.ports ≡ length old.ports
  pub state_same : new.inner.state ≡ old.inner.state
  pub came : (handle : ℕ) → 0 < handle → received_at new handle ≡ received_at old handle + came_by event handle
  pub gone : (handle : ℕ) → 0 < handle → outstanding_at new handle ≡ outstanding_at old handle - gone_by event handle
  pub runs : (handle : ℕ) → 0 < handle → runs_at new handle ≡ runs_by event handle (runs_at old handle)

came_cond : (ends : List End) (bytes : List ℕ) (handle other : ℕ) (b : Bool) → (handle == other) ≡ b
    → (if b then length ((end_at ends handle).received ++ bytes) else length (end_at ends other).received) ≡ length (end_at ends other).received + (if b then length bytes else 0)
came_cond ends bytes handle other true e = length-append (end_at ends handle).received bytes ∙ ap (λ (n : ℕ). length (end_at ends n).received + length bytes) (eqb-true handle other e)
came_cond ends bytes handle other false e = plus_none (length (end_at ends other).received)

gone_cond : (ends : List End) (count handle other : ℕ) (b : Bool) → (handle == other) ≡ b
    → (if b then (end_at ends handle).outstanding - count else (end_at ends other).outstanding) ≡ (end_at ends other).outstanding - (if b then count else 0)
gone_cond ends count handle other true e = ap (λ (n : ℕ). (end_at ends n).outstanding - count) (eqb-true handle other e)
gone_cond ends count handle other false e = less_none (end_at ends other).outstanding

pub lightly : (desc : Desc) (event : Event) (machine : Machine) → IsLight desc event → length machine.ports ≡ length desc.ports → Lightly event machine (apply desc machine event)
unfolding apply
lightly desc (Bytes handle bytes) machine light fits =
    let ends : List End = machine.ports in
    let it : End = record (end_at ends handle) { received = (end_at ends handle).received ++ bytes } in
    let h = named desc handle kind.Channel light in
    let l : handle - 1 < length ends = let k = h.last in omega (arith, k, fits) in
    record {
      length_same = length-set ends (handle - 1) it;
      state_same = refl;
      came = λ other k. written (λ (p : End). length p.received) ends handle other it h.first l k (handle == other) refl ∙ came_cond ends bytes handle other (handle == other) refl;
      gone = λ other k. written (λ (p : End). p.outstanding) ends handle other it h.first l k (handle == other) refl ∙ (same_cond (λ (n : ℕ). (end_at ends n).outstanding) handle other (handle == other) refl ∙ less_none _);
      runs = λ other k. written (λ (p : End). p.runs) ends handle other it h.first l k (handle == other) refl ∙ same_cond (λ (n : ℕ). (end_at ends n).runs) handle other (handle == other) refl;
    }
lightly desc (Room handle count) machine light fits =
    let ends : List End = machine.ports in
    let it : End = record (end_at ends handle) { outstanding = (end_at ends handle).outstanding - count } in
    let h = named desc handle kind.Channel light in
    let l : handle - 1 < length ends = let k = h.last in omega (arith, k, fits) in
    record {
      length_same = length-set ends (handle - 1) it;
      state_same = refl;
      came = λ other k. written (λ (p : End). length p.received) ends handle other it h.first l k (handle == other) refl ∙ (same_cond (λ (n : ℕ). length (end_at ends n).received) handle other (handle == other) refl ∙ plus_none _);
      gone = λ other k. written (λ (p : End). p.outstanding) ends handle other it h.first l k (handle == other) refl ∙ gone_cond ends count handle other (handle == other) refl;
      runs = λ other k. written (λ (p : End). p.runs) ends handle other it h.first l k (handle == other) refl ∙ same_cond (λ (n : ℕ). (end_at ends n).runs) handle other (handle == other) refl;
    }
lightly desc (Tells handle runs) machine light fits =
    let ends : List End = machine.ports in
    let it : End = record (end_at ends handle) { runs = runs } in
    let h = named desc handle kind.Manage light in
    let l : handle - 1 < length ends = let k = h.last in omega (arith, k, fits) in
    record {
      length_same = length-set ends (handle - 1) it;
      state_same = refl;
      came = λ other k. written (λ (p : End). length p.received) ends handle other it h.first l k (handle == other) refl ∙ (same_cond (λ (n : ℕ). length (end_at ends n).received) handle other (handle == other) refl ∙ plus_none _);
      gone = λ other k. written (λ (p : End). p.outstanding) ends handle other it h.first l k (handle == other) refl ∙ (same_cond (λ (n : ℕ). (end_at ends n).outstanding) handle other (handle == other) refl ∙ less_none _);
      runs = λ other k. written (λ (p : End). p.runs) ends handle other it h.first l k (handle == other) refl;
    }
lightly desc (Ring handle) machine light fits = record { length_same = refl; state_same = refl; came = λ other k. plus_none _; gone = λ other k. less_none _; runs = λ other k. refl }
lightly desc (CopyIn piece) machine light fits = record { length_same = refl; state_same = refl; came = λ other k. plus_none _; gone = λ other k. less_none _; runs = λ other k. refl }
lightly desc (Start entry load) machine light fits = absurd light
lightly desc Stop machine light fits = absurd light
lightly desc Restart machine light fits = absurd light

-- ---- acts

abbrev pub sent_by : Act → ℕ → ℕ
sent_by (Sent handle bytes) other = if handle == other then length bytes else 0
sent_by _ other = 0

abbrev pub took_by : Act → ℕ → ℕ
took_by (Took handle count) other = if handle == other then count else 0
took_by _ other = 0

abbrev pub is_emptying : Act → Bool
is_emptying SelfRestart = true
is_emptying _ = false

abbrev pub runs_after : Act → ℕ → Bool → Bool
runs_after (Starts handle entry load) other old = if handle == other then true else old
runs_after (Stops handle) other old = if handle == other then false else old
runs_after (Restarts handle) other old = if handle == other then true else old
runs_after _ other old = old

pub record Acted (act : Act) (old new : List End) : Type 0 where
  pub length_same : length new ≡ length old
  pub recv : (handle : ℕ) → 0 < handle → length (end_at new handle).received ≡ (if is_emptying act then 0 else length (end_at old handle).received - took_by act handle)
  pub outs : (handle : ℕ) → 0 < handle → (end_at new handle).outstanding ≡ (end_at old handle).outstanding + sent_by act handle
  pub runs : (handle : ℕ) → 0 < handle → (end_at new handle).runs ≡ runs_after act handle (end_at old handle).runs

sent_cond : (ends : List End) (count handle other : ℕ) (b : Bool) → (handle == other) ≡ b
    → (if b then (end_at ends handle).outstanding + count else (end_at ends other).outstanding) ≡ (end_at ends other).outstanding + (if b then count else 0)
sent_cond ends count handle other true e = ap (λ (n : ℕ). (end_at ends n).outstanding + count) (eqb-true handle other e)
sent_cond ends count handle other false e = plus_none (end_at ends other).outstanding

took_cond : (ends : List End) (count handle other : ℕ) (b : Bool) → (handle == other) ≡ b
    → (if b then length (drop count (end_at ends handle).received) else length (end_at ends other).received) ≡ length (end_at ends other).received - (if b then count else 0)
took_cond ends count handle other true e = length-drop count (end_at ends handle).received ∙ ap (λ (n : ℕ). length (end_at ends n).received - count) (eqb-true handle other e)
took_cond ends count handle other false e = less_none (length (end_at ends other).received)

pub empty_length : (ends : List End) → length (emptied ends) ≡ length ends
empty_length ends = length-map ends (λ (it : End). record it { received = [] })

pub empty_at : (ends : List End) (i : ℕ) → slice_index_or (emptied ends) i empty_end ≡ record (slice_index_or ends i empty_end) { received = [] }
empty_at [] i = refl
empty_at (it ∷ ends) zero = refl
empty_at (it ∷ ends) (suc i) = empty_at ends i

unchanged : (act : Act) (ends : List End) → ports_after act ends ≡ ends → is_emptying act ≡ false → ((handle : ℕ) → sent_by act handle ≡ 0) → ((handle : ℕ) → took_by act handle ≡ 0)
    → ((handle : ℕ) (old : Bool) → runs_after act handle old ≡ old) → Acted act ends (ports_after act ends)
unchanged act ends e f s t r = subst (Acted act ends) (sym e) (record {
  length_same = refl;
  recv = λ handle h. less_none _ ∙ (ap (λ (n : ℕ). length (end_at ends handle).received - n) (sym (t handle)) ∙ ap (λ (b : Bool). if b then 0 else length (end_at ends handle).received - took_by act handle) (sym f));
  outs = λ handle h. plus_none _ ∙ ap (λ (n : ℕ). (end_at ends handle).outstanding + n) (sym (s handle));
  runs = λ handle h. sym (r handle (end_at ends handle).runs);
})

-- a command that a manager gives
told : (desc : Desc) (ends : List End) (handle : ℕ) (runs : Bool) (act : Act) → kind_of desc handle ≡ Some kind.Manage → length ends ≡ length desc.ports
    → ports_after act ends ≡ with_end ends handle (record (end_at ends handle) { runs = runs }) → is_emptying act ≡ false → ((other : ℕ) → sent_by act other ≡ 0) → ((other : ℕ) → took_by act other ≡ 0)
    → ((other : ℕ) (old : Bool) → runs_after act other old ≡ (if handle == other then runs else old)) → Acted act ends (ports_after act ends)
told desc ends handle runs act manage fits e f s t r =
    let it : End = record (end_at ends handle) { runs = runs } in
    let h = named desc handle kind.Manage manage in
    let l : handle - 1 < length ends = let k = h.last in omega (arith, k, fits) in
    subst (Acted act ends) (sym e) (record {
      length_same = length-set ends (handle - 1) it;
      recv = λ other k.
          written (λ (p : End). length p.received) ends handle other it h.first l k (handle == other) refl ∙ (same_cond (λ (n : ℕ). length (end_at ends n).received) handle other (handle == other) refl
          ∙ (less_none _ ∙ (ap (λ (n : ℕ). length (end_at ends other).received - n) (sym (t other)) ∙ ap (λ (b : Bool). if b then 0 else length (end_at ends other).received - took_by act other) (sym f))));
      outs = λ other k.
          written (λ (p : End). p.outstanding) ends handle other it h.first l k (handle == other) refl ∙ (same_cond (λ (n : ℕ). (end_at ends n).outstanding) handle other (handle == other) refl
          ∙ (plus_none _ ∙ ap (λ (n : ℕ). (end_at ends other).outstanding + n) (sym (s other))));
      runs = λ other k. written (λ (p : End). p.runs) ends handle other it h.first l k (handle == other) refl ∙ sym (r other (end_at ends other).runs);
    })

pub acted : (desc : Desc) (ends : List End) (act : Act) → MayAct desc.ports ends act → length ends ≡ length desc.ports → Acted act ends (ports_after act ends)
acted desc ends (Sent handle bytes) may fits =
    let it : End = record (end_at ends handle) { outstanding = (end_at ends handle).outstanding + length bytes } in
    let h = named desc handle kind.Channel may.0 in
    let l : handle - 1 < length ends = let k = h.last in omega (arith, k, fits) in
    record {
      length_same = length-set ends (handle - 1) it;
      recv = λ other k. written (λ (p : End). length p.received) ends handle other it h.first l k (handle == other) refl ∙ (same_cond (λ (n : ℕ). length (end_at ends n).received) handle other (handle == other) refl ∙ less_none _);
      outs = λ other k. written (λ (p : End). p.outstanding) ends handle other it h.first l k (handle == other) refl ∙ sent_cond ends (length bytes) handle other (handle == other) refl;
      runs = λ other k. written (λ (p : End). p.runs) ends handle other it h.first l k (handle == other) refl ∙ same_cond (λ (n : ℕ). (end_at ends n).runs) handle other (handle == other) refl;
    }
acted desc ends (Took handle count) may fits =
    let it : End = record (end_at ends handle) { received = drop count (end_at ends handle).received } in
    let h = named desc handle kind.Channel may.0 in
    let l : handle - 1 < length ends = let k = h.last in omega (arith, k, fits) in
    record {
      length_same = length-set ends (handle - 1) it;
      recv = λ other k. written (λ (p : End). length p.received) ends handle other it h.first l k (handle == other) refl ∙ took_cond ends count handle other (handle == other) refl;
      outs = λ other k. written (λ (p : End). p.outstanding) ends handle other it h.first l k (handle == other) refl ∙ (same_cond (λ (n : ℕ). (end_at ends n).outstanding) handle other (handle == other) refl ∙ plus_none _);
      runs = λ other k. written (λ (p : End). p.runs) ends handle other it h.first l k (handle == other) refl ∙ same_cond (λ (n : ℕ). (end_at ends n).runs) handle other (handle == other) refl;
    }
acted desc ends (Starts handle entry load) may fits = told desc ends handle true (Starts handle entry load) may.0 fits refl refl (λ h. refl) (λ h. refl) (λ h old. refl)
acted desc ends (Stops handle) may fits = told desc ends handle false (Stops handle) may.0 fits refl refl (λ h. refl) (λ h. refl) (λ h old. refl)
acted desc ends (Restarts handle) may fits = told desc ends handle true (Restarts handle) may.0 fits refl refl (λ h. refl) (λ h. refl) (λ h old. refl)
acted desc ends SelfRestart may fits = record {
  length_same = empty_length ends;
  recv = λ handle h. ap (λ (p : End). length p.received) (empty_at ends (handle - 1));
  outs = λ handle h. ap (λ (p : End). p.outstanding) (empty_at ends (handle - 1)) ∙ plus_none _;
  runs = λ handle h. ap (λ (p : End). p.runs) (empty_at ends (handle - 1));
}
acted desc ends Nothing may fits = unchanged Nothing ends refl refl (λ h. refl) (λ h. refl) (λ h o. refl)
acted desc ends (Rang handle) may fits = unchanged (Rang handle) ends refl refl (λ h. refl) (λ h. refl) (λ h o. refl)
acted desc ends (CopyTo handle pieces) may fits = unchanged (CopyTo handle pieces) ends refl refl (λ h. refl) (λ h. refl) (λ h o. refl)
acted desc ends (CopyFrom handle count) may fits = unchanged (CopyFrom handle count) ends refl refl (λ h. refl) (λ h. refl) (λ h o. refl)
acted desc ends SelfStop may fits = unchanged SelfStop ends refl refl (λ h. refl) (λ h. refl) (λ h o. refl)
acted desc ends Faulted may fits = unchanged Faulted ends refl refl (λ h. refl) (λ h. refl) (λ h o. refl)

-- what is taken was there, and what is sent has room
took_if : (ends : List End) (count handle other : ℕ) (b : Bool) → (handle == other) ≡ b → count ≤ length (end_at ends handle).received → (if b then count else 0) ≤ length (end_at ends other).received
took_if ends count handle other true e h = subst (λ (n : ℕ). count ≤ length (end_at ends n).received) (eqb-true handle other e) h
took_if ends count handle other false e h = omega arith

pub took_there : (desc : Desc) (ends : List End) (act : Act) → MayAct desc.ports ends act → (handle : ℕ) → took_by act handle ≤ length (end_at ends handle).received
took_there desc ends (Took other count) may handle = took_if ends count other handle (other == handle) refl may.1
took_there desc ends (Sent other bytes) may handle = omega arith
took_there desc ends Nothing may handle = omega arith
took_there desc ends (Rang other) may handle = omega arith
took_there desc ends (Starts other entry load) may handle = omega arith
took_there desc ends (Stops other) may handle = omega arith
took_there desc ends (Restarts other) may handle = omega arith
took_there desc ends (CopyTo other pieces) may handle = omega arith
took_there desc ends (CopyFrom other count) may handle = omega arith
took_there desc ends SelfStop may handle = omega arith
took_there desc ends SelfRestart may handle = omega arith
took_there desc ends Faulted may handle = omega arith

sent_if : (ends : List End) (count handle other : ℕ) (b : Bool) → (handle == other) ≡ b → (end_at ends handle).outstanding + count ≤ 256 → (end_at ends other).outstanding ≤ 256
    → (end_at ends other).outstanding + (if b then count else 0) ≤ 256
sent_if ends count handle other true e h k = subst (λ (n : ℕ). (end_at ends n).outstanding + count ≤ 256) (eqb-true handle other e) h
sent_if ends count handle other false e h k = omega (arith, k)

pub sent_fits : (desc : Desc) (ends : List End) (act : Act) → MayAct desc.ports ends act → (handle : ℕ) → (end_at ends handle).outstanding ≤ 256 → (end_at ends handle).outstanding + sent_by act handle ≤ 256
sent_fits desc ends (Sent other bytes) may handle h = sent_if ends (length bytes) other handle (other == handle) refl may.1 h
sent_fits desc ends (Took other count) may handle h = omega (arith, h)
sent_fits desc ends Nothing may handle h = omega (arith, h)
sent_fits desc ends (Rang other) may handle h = omega (arith, h)
sent_fits desc ends (Starts other entry load) may handle h = omega (arith, h)
sent_fits desc ends (Stops other) may handle h = omega (arith, h)
sent_fits desc ends (Restarts other) may handle h = omega (arith, h)
sent_fits desc ends (CopyTo other pieces) may handle h = omega (arith, h)
sent_fits desc ends (CopyFrom other count) may handle h = omega (arith, h)
sent_fits desc ends SelfStop may handle h = omega (arith, h)
sent_fits desc ends SelfRestart may handle h = omega (arith, h)
sent_fits desc ends Faulted may handle h = omega (arith, h)
