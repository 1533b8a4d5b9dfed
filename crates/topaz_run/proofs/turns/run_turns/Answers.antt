use Rattle.std.proofs.Common.{◌≡◌, ℕ, ◌+◌, ◌-◌, ◌++◌, refl, sym, ap, ◌∙◌, arith}
use Rattle.network.specs.Network.{Network}
use Rattle.network.specs.World.{Passage, passed}
use Rattle.network.specs.Turn.{turn, turns_from, run}
use Rattle.network.specs.Tally.{no_tally, after_lines, tally_of}
use Rattle.system.specs.Shown.{shown}
use Rattle.topaz_run.specs.Reported.{given_by}
use Rattle.topaz_run.proofs.Rounds.{run_none, opening_steps, goes_on, ends_resting, none_waits}
use Rattle.topaz_run.proofs.Told.{shown_append, nothing_shown, counted_append}
use Rattle.topaz_run.proofs.turns.run_turns.Goals as goal

pub loop-done-init : goal.loop-done-init
loop-done-init c =
    let joined = c.args.system.now.network in
    let none = run_none joined (given_by c.args.script.now) in
    record {
      network = refl;
      world = c.requires.opening ∙ sym (ap (λ (p : Passage). p.after) none);
      steps = opening_steps joined c.args.system.now.world c.requires.opening;
      lines = c.requires.empty ∙ sym (ap (λ (p : Passage). shown c.args.show joined p.lines) none ∙ nothing_shown c.args.show joined);
      tally = c.requires.tally ∙ sym (ap (λ (p : Passage). tally_of p.lines) none);
    }

pub loop-done-preserved : goal.loop-done-preserved
loop-done-preserved c =
    let joined = c.args.system.now.network in
    let script = given_by c.args.script.now in
    let here = c.loop-done.system in
    let done = c.loop-done.done in
    let kept = c.loop-done.invariant in
    let did = c.in_ok-do_turn.ensures in
    let goes = goes_on joined script done here.world kept.world in
    record {
      network = did.network ∙ kept.network;
      world = did.world ∙ ap (λ (n : Network). (turn n script (done + 1) here.world).after) kept.network ∙ sym goes.after;
      steps = did.steps;
      lines = did.lines.whole ∙ (λ i. kept.lines i ++ shown c.args.show (kept.network i) (turn (kept.network i) script (done + 1) here.world).lines)
          ∙ sym (ap (shown c.args.show joined) goes.lines ∙ shown_append c.args.show joined (run joined script done).lines (turn joined script (done + 1) here.world).lines);
      tally = did.tally ∙ (λ i. after_lines (turn (kept.network i) script (done + 1) here.world).lines (kept.tally i))
          ∙ sym (ap tally_of goes.lines ∙ counted_append (run joined script done).lines (turn joined script (done + 1) here.world).lines no_tally);
    }

pub returns-then-rests-clause-world : goal.returns-then-rests-clause-world
returns-then-rests-clause-world c =
    let joined = c.args.system.now.network in
    let script = given_by c.args.script.now in
    let here = c.loop-done.system in
    let done = c.loop-done.done in
    let kept = c.loop-done.invariant in
    let passes : turns_from joined script (done + 1) (c.args.turns - done) here.world ≡ passed here.world =
    c.resting_networks_stay.ensures joined script (done + 1) (c.args.turns - done) here.world (c.rests.ensures.rest c.if-rests.true)
    (λ later console few. none_waits c.args.script.now here.world c.args.turns c.args.consoles c.requires.script (c.rests.ensures.entered c.if-rests.true) later console (omega (arith, few, c.loop-done-test.true))) in
    let whole : run joined script done ≡ run joined script c.args.turns = sym (ends_resting joined script done c.args.turns here.world (omega (arith, c.loop-done-test.true)) kept.world passes) in
    kept.world ∙ ap (λ (p : Passage). p.after) whole

pub returns-then-rests-clause-lines : goal.returns-then-rests-clause-lines
returns-then-rests-clause-lines c =
    let joined = c.args.system.now.network in
    let script = given_by c.args.script.now in
    let here = c.loop-done.system in
    let done = c.loop-done.done in
    let kept = c.loop-done.invariant in
    let passes : turns_from joined script (done + 1) (c.args.turns - done) here.world ≡ passed here.world =
    c.resting_networks_stay.ensures joined script (done + 1) (c.args.turns - done) here.world (c.rests.ensures.rest c.if-rests.true)
    (λ later console few. none_waits c.args.script.now here.world c.args.turns c.args.consoles c.requires.script (c.rests.ensures.entered c.if-rests.true) later console (omega (arith, few, c.loop-done-test.true))) in
    let whole : run joined script done ≡ run joined script c.args.turns = sym (ends_resting joined script done c.args.turns here.world (omega (arith, c.loop-done-test.true)) kept.world passes) in
    kept.lines ∙ ap (λ (p : Passage). shown c.args.show joined p.lines) whole

pub returns-then-rests-clause-tally : goal.returns-then-rests-clause-tally
returns-then-rests-clause-tally c =
    let joined = c.args.system.now.network in
    let script = given_by c.args.script.now in
    let here = c.loop-done.system in
    let done = c.loop-done.done in
    let kept = c.loop-done.invariant in
    let passes : turns_from joined script (done + 1) (c.args.turns - done) here.world ≡ passed here.world =
    c.resting_networks_stay.ensures joined script (done + 1) (c.args.turns - done) here.world (c.rests.ensures.rest c.if-rests.true)
    (λ later console few. none_waits c.args.script.now here.world c.args.turns c.args.consoles c.requires.script (c.rests.ensures.entered c.if-rests.true) later console (omega (arith, few, c.loop-done-test.true))) in
    let whole : run joined script done ≡ run joined script c.args.turns = sym (ends_resting joined script done c.args.turns here.world (omega (arith, c.loop-done-test.true)) kept.world passes) in
    kept.tally ∙ ap (λ (p : Passage). tally_of p.lines) whole
