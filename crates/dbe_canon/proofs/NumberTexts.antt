-- The elements that are read of a set of numbers are texts of numbers.
use Rattle.std.proofs.Common.{◌≡◌, ℕ, zero, suc, List, [], ◌∷◌, Some, subst}
use Rattle.std.specs.List.{All}
use Rattle.std.proofs.lemmas.List.Elements.{All-nil, All-cons}
use Rattle.dbe_values.specs.Sets.{IsNumberText}
use Rattle.dbe_canon.specs.Reading.{◌>>=◌, string_at, many_at, element_at, number_text_in}
use Rattle.dbe_canon.proofs.Fields.{bind_some, some_is}
use Rattle.dbe_canon.proofs.ReadLeaves.{number_text_found}

number_text : (bytes x rest : List ℕ) → element_at number_text_in bytes ≡ Some (x, rest) → IsNumberText x
unfolding element_at
number_text bytes x rest e =
    let s = bind_some (string_at bytes) (λ s. number_text_in s.0 >>= λ y. Some (y, s.1)) (x, rest) e in
    let y = bind_some (number_text_in s.0.0) (λ y. Some (y, s.0.1)) (x, rest) s.2 in
    subst (λ (p : List ℕ × List ℕ). IsNumberText p.0) (some_is (y.0, s.0.1) (x, rest) y.2) (number_text_found s.0.0
    y.0 y.1).is

pub number_texts : (n : ℕ) (bytes : List ℕ) (xs : List (List ℕ)) (rest : List ℕ) →
    many_at (element_at number_text_in) n bytes ≡ Some (xs, rest) → All IsNumberText xs
unfolding many_at
number_texts zero bytes xs rest e = subst (λ (p : List (List ℕ) × List ℕ). All IsNumberText p.0) (some_is (
  [],
  bytes,
) (xs, rest) e) (All-nil IsNumberText)
number_texts (suc n) bytes xs rest e =
    let a = bind_some (element_at number_text_in bytes) (λ x. many_at (element_at number_text_in) n x.1 >>=
    λ ys. Some (x.0 ∷ ys.0, ys.1)) (xs, rest) e in
    let b = bind_some (many_at (element_at number_text_in) n a.0.1) (λ ys. Some (a.0.0 ∷ ys.0, ys.1)) (xs, rest) a.2 in
    subst (λ (p : List (List ℕ) × List ℕ). All IsNumberText p.0) (some_is (a.0.0 ∷ b.0.0, b.0.1) (xs, rest) b.2)
    (All-cons IsNumberText a.0.0 b.0.0 (number_text bytes a.0.0 a.0.1 a.1) (number_texts n a.0.1 b.0.0 b.0.1 b.1))
