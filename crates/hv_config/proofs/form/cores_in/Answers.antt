use Rattle.std.proofs.Common.{rules, ◌≡◌, ◌*◌, ◌/◌, drop, length, arith}
use Rattle.std.proofs.lemmas.List.FromFn.{map-range_with_len_more}
use Rattle.byteorder.specs.Endian.{big_number}
use Rattle.hv_config.specs.Form.{cores_in}
use Rattle.hv_config.proofs.form.cores_in.Goals as goal

pub loop-k-preserved : goal.loop-k-preserved
loop-k-preserved c =
    let more = map-range_with_len_more (λ k. big_number 4 (drop (k * 4) c.args.value.now)) 0 c.loop-k.k c.loop-k.k (omega arith) in
    rw (more, ← c.loop-k.invariant, ← c.word_at.ensures) c.in_ok-push.ensures.items

pub returns : goal.returns
unfolding cores_in
returns c =
    let end : c.loop-k.k ≡ length c.args.value.now / 4 = search (rules, arith) in
    rw (← end) c.loop-k.invariant
