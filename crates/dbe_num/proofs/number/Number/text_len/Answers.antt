use Rattle.std.proofs.Common.{ap, arith}
use Rattle.dbe_num.proofs.Lengths.{text_length_by}
use Rattle.dbe_num.proofs.number.Number.text_len.Goals as goal

pub returns : goal.returns
returns c =
    text_length_by c.args.self.now c.self.inside.negative c.self.inside.digits c.from-behind.result
    c.from-trailing.result c.digit_count.result c.max-digits.result c.from.result c.from-2.result
    (ap (λ d. d.negative) c.self.view_is) (ap (λ d. d.digits) c.self.view_is) (omega (
      arith,
      c.place.ensures,
      c.saturating_sub.ensures,
      c.from-behind.ensures,
    )) (omega (
      arith,
      c.place-2.ensures,
      c.saturating_sub-2.ensures,
      c.from-trailing.ensures,
    )) c.digit_count.ensures.count c.max-digits.ensures
    c.from.ensures c.from-2.ensures
