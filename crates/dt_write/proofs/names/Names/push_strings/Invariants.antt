use Rattle.std.proofs.Common.{◌≡◌, ◌++◌, List, ℕ, map}
use Rattle.std.specs.Borrow.{Bor}
use Rattle.dt_model.specs.Canonical.{strings_of}
use Rattle.dt_write.proofs.names.Names.push_strings.Given as goal

abbrev pub invariant-loop-name : goal.invariant-loop-name
invariant-loop-name l =
    l.out.items ++ strings_of (map (λ (key : Bor (List ℕ)). key.now) l.name-iterator) ≡ l.fn.out.items ++ strings_of l.self
