use Rattle.std.proofs.Common.{arith, length-append}
use Rattle.dbe_num.proofs.Parsed.{read_digits, read_missing, read_empty, read_found}
use Rattle.dbe_num.proofs.number.Number.parse.Goals as goal

pub returns-in_default : goal.returns-in_default
returns-in_default c =
    read_missing c.args.text.now _ _ _ _ _ _ c.as_bytes.ensures.value c.split_sign-negative.ensures.rest
    c.split_digits.ensures.digits c.split_digits.ensures.rest c.split_fraction.ensures.digits
    c.split_fraction.ensures.rest c.in_default.ensures

pub returns-then-whole-fraction-eq0 : goal.returns-then-whole-fraction-eq0
returns-then-whole-fraction-eq0 c =
    read_empty c.args.text.now _ _ _ _ _ _ c.as_bytes.ensures.value c.split_sign-negative.ensures.rest
    c.split_digits.ensures.digits c.split_digits.ensures.rest c.split_fraction.ensures.digits
    c.split_fraction.ensures.rest c.in-Some.shift c.in-Some.ensures c.if-whole-fraction-eq0.true

pub of_digits-requires-clause-digits : goal.of_digits-requires-clause-digits
of_digits-requires-clause-digits c =
    read_digits c.args.text.now _ _ _ _ _ _ c.as_bytes.ensures.value c.split_sign-negative.ensures.rest
    c.split_digits.ensures.digits c.split_digits.ensures.rest c.split_fraction.ensures.digits
    c.split_fraction.ensures.rest

pub returns : goal.returns
returns c =
    read_found c.args.text.now _ _ _ _ _ _ c.as_bytes.ensures.value c.split_sign-negative.ensures.rest
    c.split_digits.ensures.digits c.split_digits.ensures.rest c.split_fraction.ensures.digits
    c.split_fraction.ensures.rest c.in-Some.shift c.split_sign-negative.result.0 c.of_digits.result
    c.split_sign-negative.ensures.sign c.in-Some.ensures (omega arith) (omega (
      arith,
      length-append c.split_digits.result.0.now c.split_fraction.result.0.now,
    )) c.of_digits.ensures
