-- Handles that are there.
use Rattle.std.proofs.Common.{◌≡◌, ℕ, zero, suc, ◌-◌, ◌<◌, ◌==◌, Bool, true, false, cond, List, [], ◌∷◌, length, map, slice_index_or, Some, None, refl, sym, ap, ◌∙◌, arith}
use Rattle.std.specs.List.{slice_get}
use Rattle.std.proofs.lemmas.Bool.{eqb-false}
use Rattle.std.proofs.lemmas.List.{length-map}
use Rattle.std.proofs.lemmas.Option.{slice_get_within}
use Rattle.partition.specs.declared.kind.Kind.{Kind}
use Rattle.partition.specs.Port.{kind_at}
use Rattle.system.specs.declared.wire.Wire.{Wire}
use Rattle.system.specs.Board.{kind_of, no_wire, wire_at, wires_at}

kind_there : (wires : List Wire) (place : ℕ) (kind : Kind) → place < length wires → slice_get (map kind_of wires) place ≡ Some kind → kind_of (slice_index_or wires place no_wire) ≡ kind
kind_there [] place kind there e = absurd (omega arith)
kind_there (wire ∷ wires) zero kind there e = cc
kind_there (wire ∷ wires) (suc place) kind there e = kind_there wires place kind (omega arith) e

-- a handle of a kind is one of the list, and its wire is of that kind
pub record IsThere (wires : List Wire) (handle : ℕ) (kind : Kind) : Type 0 where
  pub some : 0 < handle
  pub there : handle - 1 < length wires
  pub is : kind_of (wire_at wires handle) ≡ kind

pub is_there : (wires : List Wire) (handle : ℕ) (kind : Kind) → kind_at (map kind_of wires) handle ≡ Some kind → IsThere wires handle kind
is_there wires handle kind e = by_zero (handle == 0) refl
  where
    by_zero : (b : Bool) → (handle == 0) ≡ b → IsThere wires handle kind
    by_zero true z = absurd (let f : None ≡ Some kind = sym (ap (λ (b : Bool). cond b None (slice_get (map kind_of wires) (handle - 1))) z) ∙ e in cc)
    by_zero false z =
        let found : slice_get (map kind_of wires) (handle - 1) ≡ Some kind = sym (ap (λ (b : Bool). cond b None (slice_get (map kind_of wires) (handle - 1))) z) ∙ e in
        let apart = eqb-false handle 0 z in
        let there : handle - 1 < length wires = omega (arith, slice_get_within (map kind_of wires) (handle - 1) kind found, length-map wires kind_of) in
        record { some = omega (arith, apart); there = there; is = kind_there wires (handle - 1) kind there found }

-- so the partition is there too
pub is_lent : (wires : List (List Wire)) (who handle : ℕ) → handle - 1 < length (wires_at wires who) → who < length wires
is_lent [] who handle h = absurd (omega arith)
is_lent (own ∷ wires) zero handle h = omega arith
is_lent (own ∷ wires) (suc who) handle h = let there = is_lent wires who handle h in omega arith
