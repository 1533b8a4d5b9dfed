use Rattle.std.proofs.Common.{◌≡◌, ◌+◌, length, sym, subst, arith}
use Rattle.vpic.proofs.Floor.{IsFloorOf, no_source, one_more, passed_over, all_sources}
use Rattle.vpic.proofs.controller.Vpic.floor.Goals as goal

pub loop-n-init : goal.loop-n-init
loop-n-init c =
    let machine = c.args.self.now in
    let none = c.next_in-n.ensures in
    let start = subst (IsFloorOf machine 0) (sym c.task-floor.ensures) (no_source machine) in
    record {
      floor = passed_over machine c.serving-serving.result c.next_in-n.result 0 c.task-floor.result c.serving-serving.ensures start none.after none.none;
      within = none.within;
    }

pub loop-n-preserved : goal.loop-n-preserved
loop-n-preserved c =
    let machine = c.args.self.now in
    let none = c.next_in-n-in-loop-n.ensures in
    let more = subst (IsFloorOf machine (c.loop-n.n + 1)) (sym c.raised-floor.ensures) (one_more machine c.loop-n.n c.loop-n.floor c.loop-n.invariant.floor) in
    record {
      floor = passed_over machine c.serving-serving.result c.next_in-n-in-loop-n.result (c.loop-n.n + 1) c.raised-floor.result c.serving-serving.ensures more none.after none.none;
      within = none.within;
    }

pub returns : goal.returns
returns c =
    let all : c.loop-n.n ≡ length c.args.self.now.sources = omega (arith, c.loop-n-test.false, c.loop-n.invariant.within, c.count-count.ensures.count) in
    all_sources c.args.self.now c.loop-n.n c.loop-n.floor all c.loop-n.invariant.floor
