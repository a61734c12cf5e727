use Rattle.std.proofs.Common.{◌∙◌, ◌^◌, arith}
use Rattle.std.proofs.lemmas.List.{drop_more}
use Rattle.dbe_num.proofs.Digits.{capped_number_step}
use Rattle.dbe_num.proofs.numeral.number_up_to_far.Goals as goal

pub loop-byte-preserved : goal.loop-byte-preserved
loop-byte-preserved c =
    let next = drop_more c.args.digits.now c.loop-byte.byte-index 0 c.loop-byte-test.true in
    record {
      so_far = capped_number_step c.loop-byte.number _ c.from.result c.min-number.result (2 ^ 70) _ _ next
          (c.from.ensures ∙ c.saturating_sub.ensures) c.min-number.ensures ∙ c.loop-byte.invariant.so_far;
      capped = omega arith;
    }
