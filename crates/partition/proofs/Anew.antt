-- A partition that is started or restarted, from what its loop and its loading leave.
use Rattle.std.proofs.Common.{◌≡◌, ℕ, zero, suc, ◌+◌, ◌-◌, ◌<◌, ◌==◌, ◌&&◌, Bool, true, false, cond, List, [], ◌∷◌, ◌++◌, drop, length, map, slice_set, refl, sym, ap, ◌∙◌, arith, add-one}
use Rattle.std.specs.List.{range_with_len}
use Rattle.std.proofs.lemmas.Bool.{or_from, and_right, eqb-true}
use Rattle.std.proofs.lemmas.List.{append_assoc, append-nil, set-append_right}
use Rattle.std.proofs.lemmas.List.FromFn.{length-map-range_with_len, map-range_with_len_more}
use Rattle.ground.specs.Extents.{extent_at}
use Rattle.ground.specs.Own.{own_of, IsForeign}
use Rattle.machine_desc.specs.declared.act.Act.{Act as Told}
use Rattle.machine_desc.specs.declared.act.Act.TheVariants as told
use Rattle.machine_desc.specs.declared.desc.Desc.{Desc}
use Rattle.machine_desc.specs.declared.desc.Region.{Region}
use Rattle.fresh_load.specs.Fresh.{reloaded}
use Rattle.fresh_load.specs.Placed.{ArePlaced, extents_of, is_private_extent, sizes_of}
use Rattle.partition.specs.Port.{End, emptied}
use Rattle.partition.specs.Anew.{started_inner}
use Rattle.partition.specs.Event.{Start, Restart, apply}
use Rattle.partition.specs.Act.{act_of}
use Rattle.partition.specs.Machine.{Machine}
use Rattle.partition.specs.Lending.{Part, machine_of, Reloads, inner_after}

-- ---- one place after another gets what its number says

set_first : {X : Type 0} (xs : List X) (k : ℕ) (x : X) → k < length xs → slice_set (drop k xs) 0 x ≡ x ∷ drop (suc k) xs
set_first [] k x there = absurd (omega arith)
set_first (y ∷ xs) zero x there = refl
set_first (y ∷ xs) (suc k) x there = set_first xs k x (omega arith)

pub one_booted : {X : Type 0} (f : ℕ → X) (xs now : List X) (k : ℕ) (x : X) → k < length xs → now ≡ map f (range_with_len 0 k) ++ drop k xs → x ≡ f k
    → slice_set now k x ≡ map f (range_with_len 0 (k + 1)) ++ drop (k + 1) xs
one_booted f xs now k x there e is =
    let done : List _ = map f (range_with_len 0 k) in
    let long : length done ≡ k = length-map-range_with_len f 0 k in
    let none : k - k ≡ 0 = omega arith in
    ap (λ (l : List _). slice_set l k x) e
    ∙ set-append_right done (drop k xs) k k x long (omega arith)
    ∙ ap (λ (i : ℕ). done ++ slice_set (drop k xs) i x) none
    ∙ ap (λ (l : List _). done ++ l) (set_first xs k x there)
    ∙ sym (append_assoc done (x ∷ []) (drop (suc k) xs))
    ∙ ap (λ (y : _). (done ++ y ∷ []) ++ drop (suc k) xs) is
    ∙ ap (λ (l : List _). l ++ drop (suc k) xs) (sym (map-range_with_len_more f 0 k k (omega arith)))
    ∙ ap (λ (n : ℕ). map f (range_with_len 0 (k + 1)) ++ drop n xs) (sym (add-one k))

drop-all : {X : Type 0} (xs : List X) → drop (length xs) xs ≡ []
drop-all [] = refl
drop-all (x ∷ xs) = drop-all xs

pub none_left : {X : Type 0} (f : ℕ → X) (xs : List X) (k : ℕ) → k ≡ length xs → map f (range_with_len 0 k) ++ drop k xs ≡ map f (range_with_len 0 (length xs))
none_left f xs k last =
    ap (λ (n : ℕ). map f (range_with_len 0 n) ++ drop n xs) last
    ∙ (ap (λ (l : List _). map f (range_with_len 0 (length xs)) ++ l) (drop-all xs) ∙ append-nil (map f (range_with_len 0 (length xs))))

-- ---- loading

pub loads_anew : (desc : Desc) (before after : List (List ℕ)) → own_of (extents_of desc.regions) after ≡ reloaded desc.pieces desc.regions (own_of (extents_of desc.regions) before)
    → ((extent : ℕ) → is_private_extent desc.regions extent ≡ false → extent_at after extent ≡ extent_at before extent) → sizes_of after ≡ sizes_of before → ArePlaced after desc.regions
    → Reloads true desc before after
loads_anew desc before after own others sizes placed = record { own = own; others = others; kept = λ e. absurd (cc); sizes = sizes; placed = placed }

pub stays_loaded : (desc : Desc) (before : List (List ℕ)) → ArePlaced before desc.regions → Reloads false desc before before
stays_loaded desc before placed = record { own = refl; others = λ extent h. refl; kept = λ e. refl; sizes = refl; placed = placed }

-- the machine that is restarted
pub restarted_machine : (old new : Part) (before after : List (List ℕ)) (ends : List End) → new ≡ record old { inner = started_inner old.desc old.desc.entry old.inner }
    → Reloads true old.desc before after → machine_of new (emptied ends) after ≡ apply old.desc (machine_of old ends before) Restart
unfolding apply
restarted_machine old new before after ends e loads =
    let desc : new.desc ≡ old.desc = ap (λ (p : Part). p.desc) e in
    let own : own_of (extents_of new.desc.regions) after ≡ reloaded old.desc.pieces old.desc.regions (own_of (extents_of old.desc.regions) before) =
    ap (λ (d : Desc). own_of (extents_of d.regions) after) desc ∙ loads.own in
    let inner : new.inner ≡ started_inner old.desc old.desc.entry old.inner = ap (λ (p : Part). p.inner) e in
    λ i. record { inner = inner i; ports = emptied ends; memory = own i }

-- the machine that is started
pub started_machine : (old new : Part) (before after : List (List ℕ)) (ends : List End) (entry : ℕ) (load : Bool) → new ≡ record old { inner = started_inner old.desc entry old.inner }
    → Reloads load old.desc before after → machine_of new (emptied ends) after ≡ apply old.desc (machine_of old ends before) (Start entry load)
unfolding apply
started_machine old new before after ends entry load e loads =
    let desc : new.desc ≡ old.desc = ap (λ (p : Part). p.desc) e in
    let own : own_of (extents_of new.desc.regions) after ≡ cond load (reloaded old.desc.pieces old.desc.regions (own_of (extents_of old.desc.regions) before)) (own_of (extents_of old.desc.regions) before) =
    ap (λ (d : Desc). own_of (extents_of d.regions) after) desc ∙ loads.own in
    let inner : new.inner ≡ started_inner old.desc entry old.inner = ap (λ (p : Part). p.inner) e in
    λ i. record { inner = inner i; ports = emptied ends; memory = own i }

-- an extent that is none of the regions' is none of the private ones'
pub foreign_private : (regions : List Region) (extent : ℕ) → IsForeign (extents_of regions) extent → is_private_extent regions extent ≡ false
foreign_private [] extent foreign = refl
foreign_private (region ∷ regions) extent foreign =
    or_from (region.private && region.extent == extent) (is_private_extent regions extent)
    (and_right region.private (region.extent == extent) (not_same (region.extent == extent) refl))
    (foreign_private regions extent (λ k below. foreign (suc k) (omega (arith, below))))
  where
    not_same : (b : Bool) → (region.extent == extent) ≡ b → b ≡ false
    not_same false e = refl
    not_same true e = absurd (foreign 0 (omega arith) (eqb-true region.extent extent e))

-- a partition that restarts itself
pub restarted_part : (old counted new : Part) (before after : List (List ℕ)) (act : Told) → act ≡ told.SelfRestart → counted ≡ record old { inner = record old.inner { steps = old.inner.steps + 1 } }
    → ((ends : List End) → machine_of new (emptied ends) after ≡ apply counted.desc (machine_of counted ends before) Restart) → new.desc ≡ counted.desc
    → new ≡ record old { inner = inner_after old.desc (act_of [] act) old.inner }
unfolding apply
restarted_part old counted new before after act is count restarted desc =
    let next : Part = record old { inner = record old.inner { steps = old.inner.steps + 1 } } in
    let inner : new.inner ≡ started_inner old.desc old.desc.entry next.inner =
    ap (λ (m : Machine). m.inner) (restarted []) ∙ ap (λ (p : Part). started_inner p.desc p.desc.entry p.inner) count in
    let same : new.desc ≡ old.desc = desc ∙ ap (λ (p : Part). p.desc) count in
    let by : inner_after old.desc (act_of [] told.SelfRestart) old.inner ≡ inner_after old.desc (act_of [] act) old.inner = ap (λ (a : Told). inner_after old.desc (act_of [] a) old.inner) (sym is) in
    let all = inner ∙ by in
    λ i. record { desc = same i; inner = all i }
