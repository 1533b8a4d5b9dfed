use Rattle.std.proofs.Common.{◌≡◌, ℕ, ◌+◌, ◌<◌, List, [], ◌∷◌, ◌++◌, length, slice_index_or, sym, ap, subst, ◌∙◌, arith}
use Rattle.std.proofs.lemmas.List.{length-append}
use Rattle.network.specs.Entering.{waiting}
use Rattle.network.specs.Turn.{given_at}
use Rattle.topaz_run.specs.Reported.{given_by}
use Rattle.topaz_run.proofs.Rounds.{behind_all}
use Rattle.topaz_run.proofs.turns.waiting_at.Goals as goal

pub loop-console-preserved : goal.loop-console-preserved
loop-console-preserved c =
    let items = c.loop-console.waiting.items in
    let kept = c.loop-console.invariant in
    let console = c.loop-console.console in
    let count : ℕ → ℕ = λ console. length (waiting (given_at (given_by c.args.script.now) c.args.turns console) c.args.system.now.world.consoles console) in
    let pushed : c.push.new.self.items ≡ items ++ count console ∷ [] = c.in_ok-push.ensures.items ∙ ap (λ (bytes : List ℕ). items ++ length bytes ∷ []) c.waiting_bytes.ensures in
    record {
      count = ap length pushed ∙ length-append items (count console ∷ []) ∙ ap (λ (n : ℕ). n + 1) kept.count;
      each = subst (λ (items : List ℕ). (k : ℕ) → k < console + 1 → slice_index_or items k 0 ≡ count k) (sym pushed) (behind_all items console count kept.count kept.each);
    }

pub returns-clause-waiting : goal.returns-clause-waiting
returns-clause-waiting c = λ console few. c.loop-console.invariant.each console (omega (arith, few, c.loop-console-test.false, c.requires.system))
