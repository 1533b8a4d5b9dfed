use Rattle.system.specs.System.{Held}
use Rattle.system.specs.Turning.{held_of}
use Rattle.system.proofs.Lined.{rests_as}
use Rattle.system.proofs.system.System.is_at_rest.Goals as goal

pub returns : goal.returns
returns c =
    let held : Held = held_of c.self.inside.parts.items c.self.inside.memory c.self.inside.board c.self.inside.wiring c.self.inside.counts.items in
    rests_as held c.args.self.now c.as_slice.result.now c.all_rest.result c.self.view_is c.as_slice.ensures.value c.all_rest.ensures
