use Rattle.std.proofs.Common.{◌%◌, refl, sym, ap, ◌∙◌}
use Rattle.gen_load.specs.Draws.{next, state_after, drawn}
use Rattle.gen_load.proofs.Drawing.{state-more, drawn-push}
use Rattle.gen_load.proofs.draws.drawn.Goals as goal

pub loop-place-init : goal.loop-place-init
unfolding state_after drawn
loop-place-init c = record { state = refl; list = c.new-list.ensures.items }

pub loop-place-preserved : goal.loop-place-preserved
loop-place-preserved c =
    let now = c.next.ensures ∙ ap next c.loop-place.invariant.state ∙ sym (state-more c.loop-place._place c.args.state.now) in
    record {
      state = now;
      list = drawn-push c.args.state.now c.loop-place._place c.args.modulus c.next.result _ _ _ c.loop-place.invariant.list now
          (λ i. c.given.ensures i % c.from.ensures i) c.in_ok-push.ensures.items;
    }
