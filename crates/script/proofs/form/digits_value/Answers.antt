use Rattle.std.proofs.Common.{arith, sym}
use Rattle.script.proofs.Numerals.{is_small, next_value, is_digit_at}
use Rattle.script.proofs.form.digits_value.Goals as goal

pub overflow_mul-value : goal.overflow_mul-value
overflow_mul-value c = omega (arith, is_small c.args.word.now c.loop-byte.byte-index c.requires.digits c.requires.few)

pub overflow_add-value : goal.overflow_add-value
overflow_add-value c =
    omega (arith, is_small c.args.word.now c.loop-byte.byte-index c.requires.digits c.requires.few, is_digit_at c.args.word.now c.loop-byte.byte-index c.requires.digits c.loop-byte-test.true)

pub loop-byte-preserved : goal.loop-byte-preserved
loop-byte-preserved c =
    let next = next_value c.args.word.now c.loop-byte.byte-index c.requires.digits c.loop-byte-test.true in rw (c.from.ensures, c.loop-byte.invariant) (sym next)
