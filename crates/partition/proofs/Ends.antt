-- The ends of ports in memory.
use Rattle.std.proofs.Common.{◌≡◌, ℕ, ◌+◌, ◌-◌, ◌<◌, get_or-set_same, ◌==◌, Bool, true, false, cond, List, [], ◌∷◌, length, map, slice_index_or, slice_set, zero, suc, Some, None, refl, sym, ap, ◌∙◌, arith}
use Rattle.std.specs.List.{slice_get}
use Rattle.std.proofs.lemmas.Bool.{eqb-false}
use Rattle.std.proofs.lemmas.List.{length-map, length-append, length-drop, get_or-map}
use Rattle.std.proofs.lemmas.Option.{slice_get_within}
use Rattle.byte_channel.specs.Waiting.{Waiting, after_send, after_receive}
use Rattle.byte_channel.specs.declared.side.Side.TheVariants.{A, B}
use Rattle.partition.specs.declared.kind.Kind.{Kind}
use Rattle.partition.specs.declared.mem_end.MemEnd.{MemEnd}
use Rattle.machine_desc.specs.declared.act.Act.{Act as Told}
use Rattle.machine_desc.specs.declared.act.Act.TheVariants as told
use Rattle.partition.specs.declared.kind.Kind.TheVariants.{Channel}
use Rattle.partition.specs.Act.{act_of, ports_after}
use Rattle.partition.specs.Lending.{HasHandle, IsOutstanding}
use Rattle.partition.specs.Port.{End, kind_at, end_at, with_end, sent_on, freed_on, told_on, emptied, empty_end}
use Rattle.partition.specs.MemPorts.{end_of, ends_of, sorts_of, mem_end_at, no_end, with_channel, emptied_end}

-- a handle of some kind is one of the list
pub record IsThere (ends : List MemEnd) (handle : ℕ) : Type 0 where
  pub some : 0 < handle
  pub there : handle - 1 < length ends

pub is_there : (ends : List MemEnd) (handle : ℕ) (kind : Kind) → kind_at (sorts_of ends) handle ≡ Some kind → IsThere ends handle
is_there ends handle kind e = by_zero (handle == 0) refl
  where
    by_zero : (b : Bool) → (handle == 0) ≡ b → IsThere ends handle
    by_zero true z = absurd (let f : None ≡ Some kind = sym (ap (λ (b : Bool). cond b None (slice_get (sorts_of ends) (handle - 1))) z) ∙ e in cc)
    by_zero false z =
        let found : slice_get (sorts_of ends) (handle - 1) ≡ Some kind = sym (ap (λ (b : Bool). cond b None (slice_get (sorts_of ends) (handle - 1))) z) ∙ e in
        let apart = eqb-false handle 0 z in
        record { some = omega (arith, apart); there = omega (arith, slice_get_within (sorts_of ends) (handle - 1) kind found, length-map ends (λ (it : MemEnd). it.kind)) }

-- what the machine has of it
pub end_there : (ends : List MemEnd) (handle : ℕ) → handle - 1 < length ends → end_at (ends_of ends) handle ≡ end_of (mem_end_at ends handle)
end_there ends handle there = get_or-map end_of ends (handle - 1) no_end empty_end there

map_set : {X Y : Type 0} (f : X → Y) (xs : List X) (i : ℕ) (x : X) → map f (slice_set xs i x) ≡ slice_set (map f xs) i (f x)
map_set f [] i x = refl
map_set f (y ∷ ys) zero x = refl
map_set f (y ∷ ys) (suc i) x = ap (λ rest. f y ∷ rest) (map_set f ys i x)

pub ends_put : (ends : List MemEnd) (handle : ℕ) (channel : Waiting) → ends_of (with_channel ends handle channel) ≡ with_end (ends_of ends) handle (end_of (record (mem_end_at ends handle) { channel = channel }))
ends_put ends handle channel = map_set end_of ends (handle - 1) (record (mem_end_at ends handle) { channel = channel })

same_set : {X : Type 0} (xs : List X) (i : ℕ) (d : X) → slice_set xs i (slice_index_or xs i d) ≡ xs
same_set [] i d = refl
same_set (x ∷ xs) zero d = refl
same_set (x ∷ xs) (suc i) d = ap (λ rest. x ∷ rest) (same_set xs i d)

kind_there : (ends : List MemEnd) (handle : ℕ) → handle - 1 < length ends → slice_index_or (sorts_of ends) (handle - 1) no_end.kind ≡ (mem_end_at ends handle).kind
kind_there ends handle there = get_or-map (λ (it : MemEnd). it.kind) ends (handle - 1) no_end no_end.kind there

pub sorts_put : (ends : List MemEnd) (handle : ℕ) (channel : Waiting) → handle - 1 < length ends → sorts_of (with_channel ends handle channel) ≡ sorts_of ends
sorts_put ends handle channel there =
    map_set (λ (it : MemEnd). it.kind) ends (handle - 1) (record (mem_end_at ends handle) { channel = channel })
    ∙ ap (slice_set (sorts_of ends) (handle - 1)) (sym (kind_there ends handle there))
    ∙ same_set (sorts_of ends) (handle - 1) no_end.kind

-- bytes that were sent are outstanding too
pub sent_end : (ends : List MemEnd) (handle : ℕ) (piece : List ℕ) → handle - 1 < length ends
    → ends_of (with_channel ends handle (after_send A piece (mem_end_at ends handle).channel)) ≡ sent_on (ends_of ends) handle (length piece)
sent_end ends handle piece there =
    let it : MemEnd = mem_end_at ends handle in
    ends_put ends handle (after_send A piece it.channel)
    ∙ ap (λ (n : ℕ). with_end (ends_of ends) handle (record { received = it.channel.at_a; outstanding = n; runs = it.runs })) (length-append it.channel.at_b piece)
    ∙ ap (λ (e : End). with_end (ends_of ends) handle (record e { outstanding = e.outstanding + length piece })) (sym (end_there ends handle there))

-- and those that were taken aren't any more
pub freed_end : (ends : List MemEnd) (handle count : ℕ) → handle - 1 < length ends
    → ends_of (with_channel ends handle (after_receive B count (mem_end_at ends handle).channel)) ≡ freed_on (ends_of ends) handle count
freed_end ends handle count there =
    let it : MemEnd = mem_end_at ends handle in
    ends_put ends handle (after_receive B count it.channel)
    ∙ ap (λ (n : ℕ). with_end (ends_of ends) handle (record { received = it.channel.at_a; outstanding = n; runs = it.runs })) (length-drop count it.channel.at_b)
    ∙ ap (λ (e : End). with_end (ends_of ends) handle (record e { outstanding = e.outstanding - count })) (sym (end_there ends handle there))

-- ---- what their lender does

-- of a managed partition it is told whether it runs
pub ends_told : (ends : List MemEnd) (handle : ℕ) (runs : Bool) → handle - 1 < length ends
    → ends_of (slice_set ends (handle - 1) (record (mem_end_at ends handle) { runs = runs })) ≡ told_on (ends_of ends) handle runs
ends_told ends handle runs there =
    map_set end_of ends (handle - 1) (record (mem_end_at ends handle) { runs = runs })
    ∙ ap (λ (e : End). with_end (ends_of ends) handle (record e { runs = runs })) (sym (end_there ends handle there))

pub sorts_told : (ends : List MemEnd) (handle : ℕ) (runs : Bool) → handle - 1 < length ends → sorts_of (slice_set ends (handle - 1) (record (mem_end_at ends handle) { runs = runs })) ≡ sorts_of ends
sorts_told ends handle runs there =
    map_set (λ (it : MemEnd). it.kind) ends (handle - 1) (record (mem_end_at ends handle) { runs = runs })
    ∙ ap (slice_set (sorts_of ends) (handle - 1)) (sym (kind_there ends handle there))
    ∙ same_set (sorts_of ends) (handle - 1) no_end.kind

-- what was received is gone
pub ends_emptied : (ends : List MemEnd) → ends_of (map emptied_end ends) ≡ emptied (ends_of ends)
ends_emptied [] = refl
ends_emptied (it ∷ ends) = ap (λ (rest : List End). end_of (emptied_end it) ∷ rest) (ends_emptied ends)

pub sorts_emptied : (ends : List MemEnd) → sorts_of (map emptied_end ends) ≡ sorts_of ends
sorts_emptied [] = refl
sorts_emptied (it ∷ ends) = ap (λ (rest : List Kind). it.kind ∷ rest) (sorts_emptied ends)

-- ---- what was sent is outstanding

in_list : (kinds : List Kind) (handle : ℕ) (kind : Kind) → kind_at kinds handle ≡ Some kind → handle - 1 < length kinds
in_list kinds handle kind e = by_zero (handle == 0) refl
  where
    by_zero : (b : Bool) → (handle == 0) ≡ b → handle - 1 < length kinds
    by_zero true z = absurd (let f : None ≡ Some kind = sym (ap (λ (b : Bool). cond b None (slice_get kinds (handle - 1))) z) ∙ e in cc)
    by_zero false z = slice_get_within kinds (handle - 1) kind (sym (ap (λ (b : Bool). cond b None (slice_get kinds (handle - 1))) z) ∙ e)

pub is_outstanding : (ends : List MemEnd) (kinds : List Kind) (new : List End) (act : Told) → sorts_of ends ≡ kinds → HasHandle kinds act → new ≡ ports_after (act_of [] act) (ends_of ends) → IsOutstanding act new
is_outstanding ends kinds new (told.Sent handle bytes) same has e =
    let there : handle - 1 < length (ends_of ends) = omega (arith, in_list kinds handle Channel has, ap length (sym same), length-map ends (λ (it : MemEnd). it.kind), length-map ends end_of) in
    let is : end_at new handle ≡ record (end_at (ends_of ends) handle) { outstanding = (end_at (ends_of ends) handle).outstanding + length bytes.items } =
    ap (λ (es : List End). end_at es handle) e ∙ get_or-set_same (ends_of ends) (handle - 1) _ empty_end there in
    omega (arith, ap (λ (e : End). e.outstanding) is)
is_outstanding ends kinds new _ same has e = tt
