use Rattle.std.proofs.Common.{◌∙◌, ◌^◌, refl, arith}
use Rattle.std.proofs.lemmas.List.{drop_more}
use Rattle.dbe_num.proofs.Digits.{number_step, digits_step, has_room}
use Rattle.dbe_num.proofs.numeral.read_on.Goals as goal

pub overflow_mul-number : goal.overflow_mul-number
overflow_mul-number c =
    let next = drop_more c.args.digits.now c.loop-byte.byte-index 0 c.loop-byte-test.true in
    let room = has_room c.loop-byte.number _ _ (10 ^ 38) _ _ next refl c.loop-byte.invariant.digits
    c.loop-byte.invariant.fits in
    omega (arith, room.low)

pub overflow_add-number : goal.overflow_add-number
overflow_add-number c =
    let next = drop_more c.args.digits.now c.loop-byte.byte-index 0 c.loop-byte-test.true in
    let room = has_room c.loop-byte.number _ _ (10 ^ 38) _ _ next (c.from.ensures ∙ c.saturating_sub.ensures)
    c.loop-byte.invariant.digits c.loop-byte.invariant.fits in
    omega (arith, room.low)

pub loop-byte-preserved : goal.loop-byte-preserved
loop-byte-preserved c =
    let next = drop_more c.args.digits.now c.loop-byte.byte-index 0 c.loop-byte-test.true in
    let digit = c.from.ensures ∙ c.saturating_sub.ensures in
    record {
      so_far = number_step c.loop-byte.number _ c.from.result _ _ next digit ∙ c.loop-byte.invariant.so_far;
      digits = digits_step _ _ _ next c.loop-byte.invariant.digits;
      fits = (has_room c.loop-byte.number _ c.from.result (10 ^ 38) _ _ next digit c.loop-byte.invariant.digits
          c.loop-byte.invariant.fits).others;
    }
