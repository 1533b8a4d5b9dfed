use Rattle.std.proofs.Common.{◌≡◌, ℕ, ◌<◌, length, ◌∙◌, arith}
use Rattle.partition.specs.Machine.{booted}
use Rattle.partition.proofs.Anew.{one_booted, none_left}
use Rattle.partition.proofs.partition.reboot_all.Goals as goal

pub returns : goal.returns
returns c =
    let last : c.loop-core.core ≡ length c.args.cores.now.items = omega (arith, c.loop-core-test.false, c.loop-core.auto.core-end, c.len-core-end.ensures) in
    c.loop-core.invariant ∙ none_left (λ (number : ℕ). booted c.args.entry c.args.tree_at number) c.args.cores.now.items c.loop-core.core last

pub loop-core-preserved : goal.loop-core-preserved
loop-core-preserved c =
    let below : c.loop-core.core < length c.args.cores.now.items = omega (arith, c.loop-core-test.true, c.len-core-end.ensures) in
    one_booted (λ (number : ℕ). booted c.args.entry c.args.tree_at number) c.args.cores.now.items c.loop-core.cores.items c.loop-core.core c.reboot.new.self below c.loop-core.invariant c.reboot.ensures
