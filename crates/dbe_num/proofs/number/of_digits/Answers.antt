use Rattle.std.proofs.Common.{◌≡◌, ◌++◌, true, List, ℕ, length, ◌≤◌, arith, length-append}
use Rattle.std.specs.Str.{all_ascii_digits}
use Rattle.dbe_num.specs.Numeral.{without_front_zeros, without_end_zeros}
use Rattle.dbe_num.proofs.Significant.{digits_without_front, digits_without_end, significant_front}
use Rattle.dbe_num.proofs.Significant.{without_front_zeros_twice, without_end_zeros_twice, without_end_zeros_shorter}
use Rattle.dbe_num.proofs.number.of_digits.Goals as goal

-- what is left of the digits of a list, first at the front and then at the end
digits_kept : (all front kept : List ℕ) → front ≡ without_front_zeros all → kept ≡ without_end_zeros front →
    all_ascii_digits all ≡ true → all_ascii_digits kept ≡ true
digits_kept all front kept e f h = rw (f, e) (digits_without_end (without_front_zeros all) (digits_without_front all h))

front_kept : (all front kept : List ℕ) → front ≡ without_front_zeros all → kept ≡ without_end_zeros front →
    without_front_zeros kept ≡ kept
front_kept all front kept e f = rw (f, e) (significant_front (without_front_zeros all) (without_front_zeros_twice all))

end_kept : (front kept : List ℕ) → kept ≡ without_end_zeros front → without_end_zeros kept ≡ kept
end_kept front kept f = rw f (without_end_zeros_twice front)

shorter : (front kept : List ℕ) → kept ≡ without_end_zeros front → length kept ≤ length front
shorter front kept f = rw f (without_end_zeros_shorter front)

pub overflow_sub-idle : goal.overflow_sub-idle
overflow_sub-idle c =
    let front : List ℕ = c.without_leading.result.0.now ++ c.without_leading.result.1.now in
    let kept : List ℕ = c.without_trailing.result.0.now ++ c.without_trailing.result.1.now in
    omega (
      arith,
      shorter front kept c.without_trailing.ensures,
      length-append c.without_trailing.result.0.now c.without_trailing.result.1.now,
      length-append c.without_leading.result.0.now c.without_leading.result.1.now,
    )

pub of_significant-requires-clause-digits : goal.of_significant-requires-clause-digits
of_significant-requires-clause-digits c =
    digits_kept (c.args.whole.now ++ c.args.fraction.now) (c.without_leading.result.0.now ++
    c.without_leading.result.1.now) (c.without_trailing.result.0.now ++ c.without_trailing.result.1.now)
    c.without_leading.ensures c.without_trailing.ensures c.requires.digits

pub of_significant-requires-clause-front : goal.of_significant-requires-clause-front
of_significant-requires-clause-front c =
    front_kept (c.args.whole.now ++ c.args.fraction.now) (c.without_leading.result.0.now ++
    c.without_leading.result.1.now) (c.without_trailing.result.0.now ++ c.without_trailing.result.1.now)
    c.without_leading.ensures c.without_trailing.ensures

pub of_significant-requires-clause-end : goal.of_significant-requires-clause-end
of_significant-requires-clause-end c = end_kept (c.without_leading.result.0.now ++ c.without_leading.result.1.now)
    (c.without_trailing.result.0.now ++ c.without_trailing.result.1.now) c.without_trailing.ensures
