use Rattle.std.proofs.Common.{◌≡◌, [], sym, ap, ◌∙◌}
use Rattle.network.specs.World.{World, Passage}
use Rattle.network.specs.Entering.{waiting}
use Rattle.network.specs.Turn.{given_at}
use Rattle.network.proofs.Resting.{nothing-enters}
use Rattle.topaz_run.specs.Reported.{given_by}
use Rattle.topaz_run.proofs.Rounds.{no_bytes}
use Rattle.topaz_run.proofs.turns.enter_at.Goals as goal

pub returns-else-not-is_empty : goal.returns-else-not-is_empty
returns-else-not-is_empty c =
    let system = c.args.system.now in
    let bytes = waiting (given_at (given_by c.args.script.now) c.args.turn c.args.console) system.world.consoles c.args.console in
    let none : bytes ≡ [] = sym c.waiting_bytes-bytes.ensures ∙ no_bytes c.waiting_bytes-bytes.result.now c.is_empty.result c.is_empty.ensures c.if-not-is_empty.false in
    ap (λ (world : World). record { network = system.network; world = world; tally = system.tally })
    (sym (ap (λ (p : Passage). p.after) (nothing-enters system.network c.args.console bytes system.world none)))
