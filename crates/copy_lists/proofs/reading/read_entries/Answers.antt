use Rattle.std.proofs.Common.{◌≡◌, ℕ, ◌+◌, ◌*◌, length, ap, arith}
use Rattle.std.proofs.lemmas.List.FromFn.{length-map-range_with_len, map-range_with_len_more}
use Rattle.copy_lists.specs.declared.list.SgEntry.{SgEntry}
use Rattle.copy_lists.specs.Lists.{entry_at, entry_size}
use Rattle.copy_lists.specs.Moving.{byte_in}
use Rattle.copy_lists.proofs.reading.read_entries.Goals as goal

pub push-requires : goal.push-requires
push-requires c =
    let entry : ℕ → SgEntry = λ n. entry_at (byte_in c.args.map.now c.args.ground.now) (c.args.at + entry_size * n) in
    omega (arith, ap length c.loop-i.invariant, length-map-range_with_len entry 0 c.loop-i.i, c.requires.few, c.loop-i-test.true)

pub loop-i-preserved : goal.loop-i-preserved
loop-i-preserved c =
    let entry : ℕ → SgEntry = λ n. entry_at (byte_in c.args.map.now c.args.ground.now) (c.args.at + entry_size * n) in
    let same : 0 + c.loop-i.i ≡ c.loop-i.i = omega arith in
    let more = map-range_with_len_more entry 0 c.loop-i.i c.loop-i.i same in
    cc
