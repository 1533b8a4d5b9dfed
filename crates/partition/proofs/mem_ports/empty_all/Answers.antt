use Rattle.std.proofs.Common.{◌≡◌, length, ◌∙◌, arith}
use Rattle.partition.specs.MemPorts.{emptied_end}
use Rattle.partition.proofs.Written.{all_kept}
use Rattle.partition.proofs.mem_ports.empty_all.Goals as goal

pub returns : goal.returns
returns c =
    let last : c.loop-place.place ≡ length c.args.ends.now.items = omega (arith, c.loop-place-test.false, c.loop-place.auto.place-end, c.len-place-end.ensures) in
    c.loop-place.invariant ∙ all_kept emptied_end c.args.ends.now.items c.loop-place.place last
