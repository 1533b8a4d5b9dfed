use Rattle.std.proofs.Common.{ℕ, subst}
use Rattle.system.specs.Turning.{Hears}
use Rattle.system.proofs.Turned.{heard_asks}
use Rattle.system.proofs.turning.follow.Goals as goal

pub settle-requires : goal.settle-requires
settle-requires c = record {
  asks = heard_asks c.args.wiring.now c.args.act.now c.args.parts.now.items c.tell_stored.new.parts.items c.args.memory.now c.args.board.now c.args.counts.now.items c.args.stored.now c.requires.asks
      (subst (λ (who : ℕ). Hears who c.args.stored.now c.args.parts.now.items c.tell_stored.new.parts.items) c.who.ensures c.tell_stored.ensures);
}

pub returns : goal.returns
returns c = record {
  heard = c.tell_stored.new.parts.items;
  hears = subst (λ (who : ℕ). Hears who c.args.stored.now c.args.parts.now.items c.tell_stored.new.parts.items) c.who.ensures c.tell_stored.ensures;
  settles = c.settle.ensures;
}
