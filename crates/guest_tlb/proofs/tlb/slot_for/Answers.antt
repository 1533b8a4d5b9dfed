use Rattle.std.proofs.Common.{arith, ap, sym, ◌∙◌, ◌≡◌, ◌+◌, ◌-◌, take, drop, length}
use Rattle.guest_tlb.specs.Slots.{search_of}
use Rattle.guest_tlb.proofs.Windows.{found_within, not_within}
use Rattle.guest_tlb.proofs.tlb.slot_for.Goals as goal

pub returns-in-Some-clause-slot : goal.returns-in-Some-clause-slot
returns-in-Some-clause-slot c =
    let four : c.set_of-set.result + 4 - c.set_of-set.result ≡ 4 = omega arith in
    sym (found_within c.args.ts c.args.pid c.args.ea c.set_of-set.result 4 c.in-Some.way c.args.slots.now c.requires (omega (arith, c.set_of-set.ensures.bound))
    (ap (λ n. search_of c.args.ts c.args.pid c.args.ea (take n (drop c.set_of-set.result c.args.slots.now))) (sym four) ∙ (sym c.first_match.ensures.slot ∙ c.in-Some.is)))

pub returns-in_err-large-clause-slot : goal.returns-in_err-large-clause-slot
returns-in_err-large-clause-slot c =
    let four : c.set_of-set.result + 4 - c.set_of-set.result ≡ 4 = omega arith in
    let rest : length c.args.slots.now - 512 ≡ 64 = omega (arith, c.requires.count) in
    let small = ap (λ n. search_of c.args.ts c.args.pid c.args.ea (take n (drop c.set_of-set.result c.args.slots.now))) (sym four) ∙ (sym c.first_match.ensures.slot ∙ c.in_default.is) in
    let large = ap (λ n. search_of c.args.ts c.args.pid c.args.ea (take n (drop 512 c.args.slots.now))) (sym rest) ∙ (sym c.first_match-2.ensures.slot ∙ c.in_err-large.was) in
    c.from_residual.ensures
    ∙ sym (not_within c.args.ts c.args.pid c.args.ea c.set_of-set.result c.args.slots.now c.requires c.set_of-set.ensures.bound c.set_of-set.ensures.set small large)

pub returns-clause-slot : goal.returns-clause-slot
returns-clause-slot c =
    let rest : length c.args.slots.now - 512 ≡ 64 = omega (arith, c.requires.count) in
    sym (found_within c.args.ts c.args.pid c.args.ea 512 64 c.in_ok-large.large c.args.slots.now c.requires (omega arith)
    (ap (λ n. search_of c.args.ts c.args.pid c.args.ea (take n (drop 512 c.args.slots.now))) (sym rest) ∙ (sym c.first_match-2.ensures.slot ∙ c.in_ok-large.was)))
