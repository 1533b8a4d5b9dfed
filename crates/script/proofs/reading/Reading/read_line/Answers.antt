use Rattle.std.proofs.Common.{◌≡◌, Option, Some, None, ap, sym, subst}
use Rattle.script.specs.declared.line.Line.{Line}
use Rattle.script.specs.Fault.{fault_of}
use Rattle.script.specs.Kept.{Kept}
use Rattle.script.specs.Steps.{CanBeKept}
use Rattle.script.proofs.Keeping.{can_keep, fault_told, nothing_told}
use Rattle.script.proofs.reading.Reading.read_line.Goals as goal

pub returns-in-Some-clause-broken : goal.returns-in-Some-clause-broken
returns-in-Some-clause-broken c =
    let fault = subst (λ (one : Option Line). fault_of c.args.self.now one ≡ Some c.in-Some.number) c.in_ok-said.ensures (sym c.in-Some.ensures) in
    fault_told c.args.self.now _ c.in-Some.number c.self.inside.place fault (ap (λ (kept : Kept). kept.place) (sym c.self.view_is))

pub take-requires : goal.take-requires
take-requires c =
    let fault = subst (λ (one : Option Line). fault_of c.args.self.now one ≡ None) c.in_ok-said.ensures (sym c.in_default.ensures) in
    subst (CanBeKept c.args.self.now) (sym c.in_ok-said.ensures) (can_keep c.args.names.now c.args.self.now c.args.line.now c.requires fault)

pub returns-clause-fine : goal.returns-clause-fine
returns-clause-fine c =
    let fault = subst (λ (one : Option Line). fault_of c.args.self.now one ≡ None) c.in_ok-said.ensures (sym c.in_default.ensures) in
    nothing_told c.args.self.now _ fault
