use Rattle.std.proofs.Common.{◌≡◌, ◌*◌, drop, map}
use Rattle.std.specs.List.{range_with_len}
use Rattle.byteorder.specs.Endian.{big_number}
use Rattle.hv_config.proofs.form.cores_in.Given as goal

abbrev pub invariant-loop-k : goal.invariant-loop-k
invariant-loop-k l = l.cores.items ≡ map (λ k. big_number 4 (drop (k * 4) l.value)) (range_with_len 0 l.k)
