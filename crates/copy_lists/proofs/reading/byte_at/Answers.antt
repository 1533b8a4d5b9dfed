use Rattle.std.proofs.Common.{sym, ◌∙◌, arith}
use Rattle.memory_areas.proofs.Places.{runs_have_bytes}
use Rattle.copy_lists.proofs.Places.{run_there}
use Rattle.copy_lists.proofs.reading.byte_at.Goals as goal

pub load8-requires : goal.load8-requires
load8-requires c =
    let found = sym c.find.ensures.place ∙ c.in-Some.is in
    let run = run_there c.args.map.now c.args.ground.now c.args.at c.in-Some.place c.requires found in
    (run.0, omega (arith, run.1, runs_have_bytes c.args.map.now c.args.at c.in-Some.place found))
