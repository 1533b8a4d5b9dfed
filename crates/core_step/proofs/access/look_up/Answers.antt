use Rattle.std.proofs.Common.{◌≡◌, IfSome, IfOk, subst, sym}
use Rattle.core_step.specs.Pages.{IsBacked}
use Rattle.core_step.specs.Access.{IsInside}
use Rattle.core_step.proofs.Covered.{inside_of, whole_of}
use Rattle.core_step.proofs.access.look_up.Goals as goal

pub place_or_fault-requires-clause-backed : goal.place_or_fault-requires-clause-backed
place_or_fault-requires-clause-backed g c =
    subst (λ p. IfSome p (IsBacked c.args.ground.now c.args.part.ea)) (sym c.hit.ensures) (c.requires.backed c.args.space c.args.pid c.args.part.ea)

pub returns-clause-inside : goal.returns-clause-inside
returns-clause-inside g c = λ fits.
    subst (λ r. IfOk r (IsInside c.args.ground.now)) (sym c.place_or_fault.ensures)
    (inside_of c.args.ground.now c.args.permission c.args.part c.hit.result
    (subst (λ p. IfSome p (IsBacked c.args.ground.now c.args.part.ea)) (sym c.hit.ensures) (c.requires.backed c.args.space c.args.pid c.args.part.ea)) fits)

pub returns-clause-whole : goal.returns-clause-whole
returns-clause-whole g c = subst (λ r. IfOk r (λ place. place.len ≡ c.args.part.len)) (sym c.place_or_fault.ensures) (whole_of c.args.permission c.args.part c.hit.result)
