-- A list after one of its elements was set.
use Rattle.std.proofs.Common.{ℕ, zero, suc, List, [], ◌∷◌, slice_index, slice_set}

-- what holds of each element still does, where it holds of the new one
pub each_set : (P : ℕ → Type 0) (value : ℕ) (values : List ℕ) (n : ℕ) → P value → ((k : ℕ) → P (slice_index values k)) → (k : ℕ) → P (slice_index (slice_set values n value) k)
each_set P value [] n new each k = each k
each_set P value (x ∷ values) zero new each zero = new
each_set P value (x ∷ values) zero new each (suc k) = each (suc k)
each_set P value (x ∷ values) (suc n) new each zero = each zero
each_set P value (x ∷ values) (suc n) new each (suc k) = each_set P value values n new (λ j. each (suc j)) k
