-- What outlives a restart.
use Rattle.std.proofs.Common.{◌≡◌, ℕ, Bool, true, false, cond, List, [], ◌∷◌, ◌++◌, length, refl, ap, arith}
use Rattle.machine_desc.specs.declared.desc.Piece.{Piece}
use Rattle.machine_desc.specs.declared.desc.Region.{Region}
use Rattle.fresh_load.specs.Fresh.{fresh_bytes, reloaded}
use Rattle.partition.specs.Port.{End, emptied}
use Rattle.partition.specs.Anew.{started_inner}
use Rattle.partition.specs.Event.{apply}
use Rattle.partition.specs.Forgets.{outstanding_of, running_of, shared_bytes, RestartsForget}

ends_alike : (one other : List End) → outstanding_of one ≡ outstanding_of other → running_of one ≡ running_of other → emptied one ≡ emptied other
ends_alike [] [] e f = refl
ends_alike [] (it ∷ other) e f = absurd (cc)
ends_alike (it ∷ one) [] e f = absurd (cc)
ends_alike (it ∷ one) (its ∷ other) e f =
    let count : it.outstanding ≡ its.outstanding = cc in
    let counts : outstanding_of one ≡ outstanding_of other = cc in
    let runs : it.runs ≡ its.runs = cc in
    let all_run : running_of one ≡ running_of other = cc in
    let rest = ends_alike one other counts all_run in
    λ i. record { received = []; outstanding = count i; runs = runs i } ∷ rest i

region_alike : (private : Bool) (bytes other loaded : List ℕ) (memory others again more : List (List ℕ))
    → (cond private [] (bytes ∷ []) ++ memory) ≡ (cond private [] (other ∷ []) ++ others) → (memory ≡ others → again ≡ more)
    → (cond private loaded bytes ∷ again) ≡ (cond private loaded other ∷ more)
region_alike true bytes other loaded memory others again more e rest = ap (λ (all : List (List ℕ)). loaded ∷ all) (rest e)
region_alike false bytes other loaded memory others again more e rest =
    let same : bytes ≡ other = cc in
    let behind : memory ≡ others = cc in
    let all = rest behind in
    λ i. same i ∷ all i

memory_alike : (pieces : List Piece) (regions : List Region) (one other : List (List ℕ)) → length one ≡ length regions → length other ≡ length regions
    → shared_bytes regions one ≡ shared_bytes regions other → reloaded pieces regions one ≡ reloaded pieces regions other
memory_alike pieces [] [] [] c d e = refl
memory_alike pieces [] (bytes ∷ one) other c d e = absurd (omega (arith, c))
memory_alike pieces [] [] (bytes ∷ other) c d e = absurd (omega (arith, d))
memory_alike pieces (region ∷ regions) [] other c d e = absurd (omega (arith, c))
memory_alike pieces (region ∷ regions) (bytes ∷ one) [] c d e = absurd (omega (arith, d))
memory_alike pieces (region ∷ regions) (bytes ∷ one) (others ∷ other) c d e =
    region_alike region.private bytes others (fresh_bytes pieces region) (shared_bytes regions one) (shared_bytes regions other) (reloaded pieces regions one) (reloaded pieces regions other) e
    (memory_alike pieces regions one other (omega (arith, c)) (omega (arith, d)))

pub forgets : RestartsForget
unfolding apply
forgets desc one other alike =
    let inner = ap (λ (steps : ℕ). started_inner desc desc.entry (record one.inner { steps = steps })) alike.steps in
    let ends = ends_alike one.ports other.ports alike.outstanding alike.running in
    let bytes = memory_alike desc.pieces desc.regions one.memory other.memory alike.count alike.other_count alike.shared in
    λ i. record { inner = inner i; ports = ends i; memory = bytes i }
