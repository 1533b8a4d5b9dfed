use Rattle.std.proofs.Common.{◌≡◌}
use Rattle.gen_load.specs.Draws.{state_after, drawn}
use Rattle.gen_load.proofs.draws.drawn.Given as goal

abbrev pub invariant-loop-place : goal.invariant-loop-place
invariant-loop-place l = record {
  state : l.state ≡ state_after l._place l.initial.state;
  list : l.list.items ≡ drawn l.initial.state l._place l.modulus;
}
