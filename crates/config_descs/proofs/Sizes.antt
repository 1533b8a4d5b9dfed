-- One area's size is no more than the sum.
use Rattle.std.proofs.Common.{ℕ, ◌+◌, ◌≤◌, true, false, cond, List, [], ◌∷◌, Some, sum_by, arith}
use Rattle.std.specs.Prelude.{find}
use Rattle.std.specs.Option.{option_map_or}
use Rattle.std.specs.Str.{bytes_eq}
use Rattle.std.proofs.lemmas.List.Sums.{sum_by-cons}
use Rattle.hv_config.specs.declared.config.AreaDef.{AreaDef}
use Rattle.config_checks.specs.Found.{is_area, size_of}

pub size_of-small : (areas : List AreaDef) (name : List ℕ) → size_of areas name ≤ sum_by (λ (area : AreaDef). area.size) areas
size_of-small [] name = omega arith
size_of-small (area ∷ areas) name =
    rw (sum_by-cons (λ (area : AreaDef). area.size) area areas)
    (elim (bytes_eq area.name name) as (λ b. option_map_or (λ (a : AreaDef). a.size) (cond b (Some area) (find (is_area name) areas)) 0 ≤ area.size + sum_by (λ (a : AreaDef). a.size) areas)
    [ true ↦ omega arith | false ↦ let h = size_of-small areas name in omega (arith, h) ])
