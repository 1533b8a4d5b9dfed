use Rattle.std.proofs.Common.{◌≡◌, ◌+◌, length, None, refl, arith}
use Rattle.vpic.proofs.Ready.{none_yet, none_ready, better_more, passed_over, ready_chosen}
use Rattle.vpic.proofs.controller.Vpic.line.Goals as goal

pub returns-then-ready-eq0-clause-number : goal.returns-then-ready-eq0-clause-number
returns-then-ready-eq0-clause-number c =
    let machine = c.args.self.now in
    let set = c.ready-ready.result in
    ready_chosen machine c.args.levels set (length machine.sources) None c.ready-ready.ensures.ready c.ready-ready.ensures.numbers c.ready-ready.ensures.few refl
    (none_ready machine set (length machine.sources) c.if-ready-eq0.true)

pub loop-n-init : goal.loop-n-init
loop-n-init c =
    let none = c.next_in-n.ensures in
    record {
      best = passed_over c.args.self.now c.ready-ready.result c.next_in-n.result 0 None (none_yet c.args.self.now c.ready-ready.result) none.after none.none;
      range = tt;
      within = none.within;
    }

pub loop-n-preserved : goal.loop-n-preserved
loop-n-preserved c =
    let machine = c.args.self.now in
    let set = c.ready-ready.result in
    let none = c.next_in-n-in-loop-n.ensures in
    let more = better_more machine set c.loop-n.n c.loop-n.best c.better-best.result c.loop-n.invariant.best c.better-best.ensures.number in
    record {
      best = passed_over machine set c.next_in-n-in-loop-n.result (c.loop-n.n + 1) c.better-best.result more none.after none.none;
      range = c.better-best.ensures.range;
      within = none.within;
    }

pub returns-clause-number : goal.returns-clause-number
returns-clause-number c =
    let all : c.loop-n.n ≡ length c.args.self.now.sources = omega (arith, c.loop-n-test.false, c.loop-n.invariant.within, c.count-count.ensures.count) in
    ready_chosen c.args.self.now c.args.levels c.ready-ready.result c.loop-n.n c.loop-n.best c.ready-ready.ensures.ready c.ready-ready.ensures.numbers c.ready-ready.ensures.few all c.loop-n.invariant.best
