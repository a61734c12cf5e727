use Rattle.std.proofs.Common.{◌≡◌, ◌-◌, ℕ, ◌∙◌, ap, arith, length}
use Rattle.dbe_num.specs.NormalText.{whole_length}
use Rattle.dbe_num.proofs.Written.{text_written}
use Rattle.dbe_num.proofs.number.Number.text.Goals as goal

pub returns : goal.returns
returns c =
    let d = c.args.self.now in
    let split = c.split_at.ensures in
    let at_point : ℕ = length c.as_str-digits.result.now - c.from-behind.result in
    let place : at_point ≡ whole_length d = omega (
      arith,
      ap length (c.as_str-digits.ensures.value ∙
          c.in_ok-written.ensures.digits),
    ) in
    c.from_string.ensures
    ∙ text_written d _ c.split_at.result.0.now _ c.split_at.result.1.now _ c.as_str-digits.result.now at_point
    c.in_ok-push_fraction.ensures c.in_ok-push_str.ensures.bytes split.front split.back
    (c.as_str-digits.ensures.value ∙ c.in_ok-written.ensures.digits) place c.in_ok-text.ensures
