-- What is printed is in the grammar, and is the condition.
use Rattle.std.proofs.Common.{◌≡◌, List, [], ◌∷◌, refl, ap, sym, ◌∙◌}
use Rattle.dbe_tokens.specs.declared.token.Token.{Token}
use Rattle.dbe_tokens.specs.declared.token.Token.TheVariants as t
use Rattle.dbe_grammar.specs.Form.{Form, Forms, not, and, or, none, some, IsLawful, AreLawful, HaveTwo}
use Rattle.dbe_grammar.specs.Form as form
use Rattle.dbe_grammar.specs.Grammar.{OrList, one_and, AndList, one_factor, Factor, negated, group, test, or_text}
use Rattle.dbe_grammar.specs.Grammar.{and_text, factor_text, or_form, or_members, and_form, and_members, factor_form}
use Rattle.dbe_grammar.specs.Grammar.{IsCond}
use Rattle.dbe_grammar.specs.Grammar as g
use Rattle.dbe_grammar.specs.Printed.{printed, and_printed, more_ands, or_printed, more_ors, in_parentheses, is_chain}
use Rattle.dbe_grammar.specs.Printed.{is_or}
use Rattle.dbe_grammar.proofs.Places.{some_name}

-- The parts that are printed. A node without members has none, and no lawful form has such a node.
abbrev mutual
  or_of : Form → OrList
  or_of (form.compare a op b) = one_and (one_factor (test a (g.compare op b)))
  or_of (form.between a low high) = one_and (one_factor (test a (g.between low high)))
  or_of (form.within a []) = one_and (one_factor (test a (g.within a [])))
  or_of (form.within a (b ∷ list)) = one_and (one_factor (test a (g.within b list)))
  or_of (form.begins name front) = one_and (one_factor (g.begins name front))
  or_of (form.exists name) = one_and (one_factor (g.exists name))
  or_of (form.lacks name) = one_and (one_factor (g.lacks name))
  or_of (not f) = one_and (one_factor (negated (factor_of f)))
  or_of (and fs) = one_and (and_all fs)
  or_of (or fs) = or_all fs

  factor_of : Form → Factor
  factor_of (form.compare a op b) = test a (g.compare op b)
  factor_of (form.between a low high) = test a (g.between low high)
  factor_of (form.within a []) = test a (g.within a [])
  factor_of (form.within a (b ∷ list)) = test a (g.within b list)
  factor_of (form.begins name front) = g.begins name front
  factor_of (form.exists name) = g.exists name
  factor_of (form.lacks name) = g.lacks name
  factor_of (not f) = negated (factor_of f)
  factor_of (and fs) = group (one_and (and_all fs))
  factor_of (or fs) = group (or_all fs)

  and_of : Form → AndList
  and_of (form.compare a op b) = one_factor (test a (g.compare op b))
  and_of (form.between a low high) = one_factor (test a (g.between low high))
  and_of (form.within a []) = one_factor (test a (g.within a []))
  and_of (form.within a (b ∷ list)) = one_factor (test a (g.within b list))
  and_of (form.begins name front) = one_factor (g.begins name front)
  and_of (form.exists name) = one_factor (g.exists name)
  and_of (form.lacks name) = one_factor (g.lacks name)
  and_of (not f) = one_factor (negated (factor_of f))
  and_of (and fs) = and_all fs
  and_of (or fs) = one_factor (group (or_all fs))

  and_all : Forms → AndList
  and_all none = one_factor (g.exists some_name)
  and_all (some f fs) = and_from fs (factor_of f)

  and_from : Forms → Factor → AndList
  and_from none n = one_factor n
  and_from (some f fs) n = g.and n (and_from fs (factor_of f))

  or_all : Forms → OrList
  or_all none = one_and (one_factor (g.exists some_name))
  or_all (some f fs) = or_from fs (and_of f)

  or_from : Forms → AndList → OrList
  or_from none a = one_and a
  or_from (some f fs) a = g.or a (or_from fs (and_of f))

mutual
  or_text-of : (f : Form) (k : List Token) → IsLawful f → or_text (or_of f) k ≡ printed f k
  or_text-of (form.compare a op b) k h = refl
  or_text-of (form.between a low high) k h = refl
  or_text-of (form.within a []) k h = absurd (h refl)
  or_text-of (form.within a (b ∷ list)) k h = refl
  or_text-of (form.begins name front) k h = refl
  or_text-of (form.exists name) k h = refl
  or_text-of (form.lacks name) k h = refl
  or_text-of (not f) k h = ap (λ x. t.Not ∷ x) (factor_text-of f k h)
  or_text-of (and fs) k h = and_text-all fs k h.0 h.1
  or_text-of (or fs) k h = or_text-all fs k h.0 h.1

  factor_text-of : (f : Form) (k : List Token) → IsLawful f →
      factor_text (factor_of f) k ≡ in_parentheses (is_chain f) (printed f) k
  factor_text-of (form.compare a op b) k h = refl
  factor_text-of (form.between a low high) k h = refl
  factor_text-of (form.within a []) k h = absurd (h refl)
  factor_text-of (form.within a (b ∷ list)) k h = refl
  factor_text-of (form.begins name front) k h = refl
  factor_text-of (form.exists name) k h = refl
  factor_text-of (form.lacks name) k h = refl
  factor_text-of (not f) k h = ap (λ x. t.Not ∷ x) (factor_text-of f k h)
  factor_text-of (and fs) k h = ap (λ x. t.Open ∷ x) (and_text-all fs (t.Close ∷ k) h.0 h.1)
  factor_text-of (or fs) k h = ap (λ x. t.Open ∷ x) (or_text-all fs (t.Close ∷ k) h.0 h.1)

  and_text-of : (f : Form) (k : List Token) → IsLawful f →
      and_text (and_of f) k ≡ in_parentheses (is_or f) (printed f) k
  and_text-of (form.compare a op b) k h = refl
  and_text-of (form.between a low high) k h = refl
  and_text-of (form.within a []) k h = absurd (h refl)
  and_text-of (form.within a (b ∷ list)) k h = refl
  and_text-of (form.begins name front) k h = refl
  and_text-of (form.exists name) k h = refl
  and_text-of (form.lacks name) k h = refl
  and_text-of (not f) k h = ap (λ x. t.Not ∷ x) (factor_text-of f k h)
  and_text-of (and fs) k h = and_text-all fs k h.0 h.1
  and_text-of (or fs) k h = ap (λ x. t.Open ∷ x) (or_text-all fs (t.Close ∷ k) h.0 h.1)

  and_text-all : (fs : Forms) (k : List Token) → HaveTwo fs → AreLawful fs → and_text (and_all fs) k ≡ and_printed fs k
  and_text-all none k w h = absurd w
  and_text-all (some f fs) k w h = and_text-from fs (factor_of f) k h.1 ∙ factor_text-of f (more_ands fs k) h.0

  and_text-from : (fs : Forms) (n : Factor) (k : List Token) → AreLawful fs →
      and_text (and_from fs n) k ≡ factor_text n (more_ands fs k)
  and_text-from none n k h = refl
  and_text-from (some f fs) n k h = ap (λ x. factor_text n (t.And ∷ x)) (and_text-from fs (factor_of f) k h.1 ∙
      factor_text-of f (more_ands fs k) h.0)

  or_text-all : (fs : Forms) (k : List Token) → HaveTwo fs → AreLawful fs → or_text (or_all fs) k ≡ or_printed fs k
  or_text-all none k w h = absurd w
  or_text-all (some f fs) k w h = or_text-from fs (and_of f) k h.1 ∙ and_text-of f (more_ors fs k) h.0

  or_text-from : (fs : Forms) (a : AndList) (k : List Token) → AreLawful fs →
      or_text (or_from fs a) k ≡ and_text a (more_ors fs k)
  or_text-from none a k h = refl
  or_text-from (some f fs) a k h = ap (λ x. and_text a (t.Or ∷ x)) (or_text-from fs (and_of f) k h.1 ∙
      and_text-of f (more_ors fs k) h.0)

mutual
  or_form-of : (f : Form) → IsLawful f → or_form (or_of f) ≡ f
  or_form-of (form.compare a op b) h = refl
  or_form-of (form.between a low high) h = refl
  or_form-of (form.within a []) h = absurd (h refl)
  or_form-of (form.within a (b ∷ list)) h = refl
  or_form-of (form.begins name front) h = refl
  or_form-of (form.exists name) h = refl
  or_form-of (form.lacks name) h = refl
  or_form-of (not f) h = ap not (factor_form-of f h)
  or_form-of (and fs) h = and_form-all fs h.0 h.1
  or_form-of (or fs) h = or_form-all fs h.0 h.1

  factor_form-of : (f : Form) → IsLawful f → factor_form (factor_of f) ≡ f
  factor_form-of (form.compare a op b) h = refl
  factor_form-of (form.between a low high) h = refl
  factor_form-of (form.within a []) h = absurd (h refl)
  factor_form-of (form.within a (b ∷ list)) h = refl
  factor_form-of (form.begins name front) h = refl
  factor_form-of (form.exists name) h = refl
  factor_form-of (form.lacks name) h = refl
  factor_form-of (not f) h = ap not (factor_form-of f h)
  factor_form-of (and fs) h = and_form-all fs h.0 h.1
  factor_form-of (or fs) h = or_form-all fs h.0 h.1

  and_form-of : (f : Form) → IsLawful f → and_form (and_of f) ≡ f
  and_form-of (form.compare a op b) h = refl
  and_form-of (form.between a low high) h = refl
  and_form-of (form.within a []) h = absurd (h refl)
  and_form-of (form.within a (b ∷ list)) h = refl
  and_form-of (form.begins name front) h = refl
  and_form-of (form.exists name) h = refl
  and_form-of (form.lacks name) h = refl
  and_form-of (not f) h = ap not (factor_form-of f h)
  and_form-of (and fs) h = and_form-all fs h.0 h.1
  and_form-of (or fs) h = or_form-all fs h.0 h.1

  and_form-all : (fs : Forms) → HaveTwo fs → AreLawful fs → and_form (and_all fs) ≡ and fs
  and_form-all none w h = absurd w
  and_form-all (some f none) w h = absurd w
  and_form-all (some f (some j fs)) w h =
      ap (λ x. and (some x (and_members (and_from fs (factor_of j))))) (factor_form-of f h.0) ∙
      ap (λ x. and (some f x)) (and_members-from fs (factor_of j) h.1.1 ∙
      ap (λ x. some x fs) (factor_form-of j h.1.0))

  and_members-from : (fs : Forms) (n : Factor) → AreLawful fs → and_members (and_from fs n) ≡ some (factor_form n) fs
  and_members-from none n h = refl
  and_members-from (some f fs) n h = ap (λ x. some (factor_form n) x) (and_members-from fs (factor_of f) h.1 ∙
      ap (λ x. some x fs) (factor_form-of f h.0))

  or_form-all : (fs : Forms) → HaveTwo fs → AreLawful fs → or_form (or_all fs) ≡ or fs
  or_form-all none w h = absurd w
  or_form-all (some f none) w h = absurd w
  or_form-all (some f (some j fs)) w h =
      ap (λ x. or (some x (or_members (or_from fs (and_of j))))) (and_form-of f h.0) ∙
      ap (λ x. or (some f x)) (or_members-from fs (and_of j) h.1.1 ∙ ap (λ x. some x fs) (and_form-of j h.1.0))

  or_members-from : (fs : Forms) (a : AndList) → AreLawful fs → or_members (or_from fs a) ≡ some (and_form a) fs
  or_members-from none a h = refl
  or_members-from (some f fs) a h = ap (λ x. some (and_form a) x) (or_members-from fs (and_of f) h.1 ∙
      ap (λ x. some x fs) (and_form-of f h.0))

pub printed_is : (f : Form) → IsLawful f → IsCond (printed f []) f
printed_is f h = record { parts = or_of f; text = sym (or_text-of f [] h); means = sym (or_form-of f h) }
