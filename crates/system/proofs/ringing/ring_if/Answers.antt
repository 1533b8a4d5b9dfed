use Rattle.std.proofs.Common.{Bool, sym, ap, ◌∙◌}
use Rattle.system.specs.Turning.{rung_if}
use Rattle.system.proofs.Rung.{rung_is}
use Rattle.system.proofs.ringing.ring_if.Goals as goal

-- src/ringing.rt:21:1
pub returns-then-rings : goal.returns-then-rings
returns-then-rings c =
    rung_is c.args.part.now c.ring.new.self c.args.handle c.ring.ensures.desc c.ring.ensures.rung ∙ ap (λ (b : Bool). rung_if b c.args.handle c.args.part.now) (sym c.if-rings.true)
