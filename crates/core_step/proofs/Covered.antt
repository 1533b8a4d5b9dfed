-- A part of one 4 KiB page lies in the page that is found for it.
use Rattle.std.proofs.Common.{◌≡◌, ℕ, zero, suc, ◌+◌, ◌-◌, ◌*◌, ◌/◌, ◌%◌, ◌<◌, ◌≤◌, ◌^◌, Bool, true, false, cond, List, Option, Some, None, Result, Err, IfOk, IfSome, not, refl, sym, ap, ◌∙◌, arith}
use Rattle.std.proofs.Math.Nat.{div-add-mod', mul_assoc}
use Rattle.core_step.specs.declared.look.Page.{Page}
use Rattle.core_step.specs.declared.access.Part.{Part}
use Rattle.core_step.specs.declared.access.Place.{Place}
use Rattle.core_step.specs.declared.access.Fault.{Fault}
use Rattle.core_step.specs.Access.{place_in, place_or_fault, allows, IsInside}
use Rattle.core_step.specs.Pages.{page_size, IsBacked}

-- a page of the standard has 4 KiB, so many times
sizes : (t : ℕ) → 1 ≤ t → (m : ℕ) × (4 ^ t * 1024 ≡ m * 4096)
sizes zero e = absurd (omega arith)
sizes (suc t) e = (4 ^ t, omega arith)

multiple : (n k m : ℕ) → k ≡ m * 4096 → n % k ≡ 0 → (x : ℕ) × (n ≡ x * 4096)
multiple n k m e f =
    let whole : n ≡ n / k * k = sym (div-add-mod' n k) ∙ ap (λ r. n / k * k + r) f ∙ omega arith in
    (n / k * m, whole ∙ ap (λ z. n / k * z) e ∙ sym (mul_assoc (n / k) m 4096))

end_inside : (ea len page_ea size x m : ℕ) → page_ea ≡ x * 4096 → size ≡ m * 4096 → page_ea ≤ ea → ea < page_ea + size → ea % 4096 + len ≤ 4096 → ea - page_ea + len ≤ size
end_inside ea len page_ea size x m e f begins ends fits = omega (arith, e, f, begins, ends, fits)

or_fault : (P : Place → Type 0) (b : Bool) (fault : Fault) (r : Result Place Fault) → IfOk r P → IfOk (cond b (Err fault) r) P
or_fault P true fault r h = tt
or_fault P false fault r h = h

pub inside_of : (memory : List (List ℕ)) (permission : ℕ) (part : Part) (page : Option Page) → IfSome page (IsBacked memory part.ea) → part.ea % 4096 + part.len ≤ 4096
    → IfOk (place_or_fault permission part page) (IsInside memory)
unfolding place_or_fault place_in
inside_of memory permission part None h fits = tt
inside_of memory permission part (Some page) h fits =
    let size = sizes page.tsize h.some_size in
    let front = multiple page.ea (page_size page) size.0 size.1 h.aligned in
    let end : part.ea - page.ea + part.len ≤ page_size page = end_inside part.ea part.len page.ea (page_size page) front.0 size.0 front.1 size.1 h.begins h.ends fits in
    or_fault _ (not (allows page permission)) _ _ (or_fault _ page.little _ _ (h.exists, omega (arith, end, h.within)))

pub whole_of : (permission : ℕ) (part : Part) (page : Option Page) → IfOk (place_or_fault permission part page) (λ place. place.len ≡ part.len)
unfolding place_or_fault place_in
whole_of permission part None = tt
whole_of permission part (Some page) = or_fault _ (not (allows page permission)) _ _ (or_fault _ page.little _ _ refl)
