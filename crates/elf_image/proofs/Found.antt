-- What a segment that was found keeps.
use Rattle.std.proofs.Common.{◌≡◌, ℕ, ◌≤◌, true, false, cond, subst, List, [], ◌∷◌, Some, refl, arith}
use Rattle.std.specs.Prelude.{find}
use Rattle.std.proofs.lemmas.Bool.Decides.{nat_tests}
use Rattle.elf_image.specs.declared.segment.Segment.{Segment}
use Rattle.elf_image.specs.Image.{has_address}

here : (address : ℕ) (segment : Segment) → has_address address segment ≡ true → segment.virtual_at ≤ address
here address segment has = grind (arith, nat_tests)

-- it begins at the address or below
pub below : (address : ℕ) (segments : List Segment) (found : Segment) → find (has_address address) segments ≡ Some found → found.virtual_at ≤ address
below address [] found e = absurd cc
below address (segment ∷ segments) found e =
    elim (has_address address segment) as (λ b. has_address address segment ≡ b → cond b (Some segment) (find (has_address address) segments) ≡ Some found → found.virtual_at ≤ address)
    [ true ↦ λ has is. let same : segment ≡ found = cc in subst (λ (s : Segment). s.virtual_at ≤ address) same (here address segment has) | false ↦ λ _ rest. below address segments found rest ] refl e
