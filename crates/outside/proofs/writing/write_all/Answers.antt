use Rattle.std.proofs.Common.{◌∙◌, ◌-◌, ◌≤◌, arith, ap, length, length-drop, rules}
use Rattle.std.proofs.lemmas.Grind.{common_steps}
use Rattle.outside.proofs.WrittenSoFar.{rest_further, taken_further, sure_further}
use Rattle.outside.proofs.writing.write_all.Goals as goal

pub loop-rest-preserved : goal.loop-rest-preserved
loop-rest-preserved g c =
    let piece = c.args.piece.now in
    let rest = c.loop-rest.rest.now in
    let count = c.in_ok-count.count in
    let kept = c.loop-rest.invariant in
    let wrote = c.in_ok-count.ensures in
    record {
      within = rw c.left_after-rest.ensures (omega (arith, length-drop count rest));
      rest_is = rw c.left_after-rest.ensures (rest_further piece rest count kept.within wrote.bound kept.rest_is);
      taken = rw c.left_after-rest.ensures (taken_further _ _ _ piece rest count kept.within wrote.bound kept.rest_is kept.taken wrote.bytes);
      counted = search rules;
      nothing = λ empty. grind (arith, common_steps, ap length empty);
      sure_count = λ n fits sure.
          let enough : length rest ≤ n - (length piece - length rest) = omega arith in
          wrote.sure_count _ enough (kept.sure_rest n fits sure) ∙ kept.sure_count n fits sure;
      sure_rest = λ n fits sure.
          let enough : length rest ≤ n - (length piece - length rest) = omega arith in
          rw c.left_after-rest.ensures
          (sure_further (g.S.Sink.SurelyTakes c.write.new.self) piece rest n count kept.within wrote.bound fits
          (wrote.sure_rest _ enough (kept.sure_rest n fits sure)));
    }
