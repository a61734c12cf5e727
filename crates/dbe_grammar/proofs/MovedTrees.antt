-- The grammar does not look at the places of names and placeholders.
use Rattle.std.proofs.Common.{◌≡◌, List, [], ◌∷◌, map, refl, ap, sym, ◌∙◌}
use Rattle.dbe_tokens.specs.declared.token.Token.{Token}
use Rattle.dbe_tokens.specs.declared.token.Token.TheVariants as t
use Rattle.dbe_tokens.specs.declared.token.Operand.{Operand}
use Rattle.dbe_tokens.specs.declared.token.Span.{Span}
use Rattle.dbe_grammar.specs.Form.{Form, Forms, some}
use Rattle.dbe_grammar.specs.Form as form
use Rattle.dbe_grammar.specs.Grammar.{OrList, one_and, or, AndList, one_factor, and, Factor, negated, group, exists}
use Rattle.dbe_grammar.specs.Grammar.{lacks, begins, test, Tail, compare, between, within, tail_text, tail_form}
use Rattle.dbe_grammar.specs.Grammar.{comma_text, or_text, and_text, factor_text, or_form, or_members, and_form}
use Rattle.dbe_grammar.specs.Grammar.{and_members, factor_form, IsCond}
use Rattle.dbe_grammar.specs.Moved.{move_name, move_operand, move_token, move_form, move_forms}

abbrev move_tail : (Span → Span) → Tail → Tail
move_tail p (compare op right) = compare op (move_operand p right)
move_tail p (between low high) = between (move_operand p low) (move_operand p high)
move_tail p (within a list) = within (move_operand p a) (map (move_operand p) list)

abbrev mutual
  move_or : (Span → Span) → OrList → OrList
  move_or p (one_and a) = one_and (move_and p a)
  move_or p (or a q) = or (move_and p a) (move_or p q)

  move_and : (Span → Span) → AndList → AndList
  move_and p (one_factor n) = one_factor (move_factor p n)
  move_and p (and n a) = and (move_factor p n) (move_and p a)

  move_factor : (Span → Span) → Factor → Factor
  move_factor p (negated n) = negated (move_factor p n)
  move_factor p (group q) = group (move_or p q)
  move_factor p (exists name) = exists (move_name p name)
  move_factor p (lacks name) = lacks (move_name p name)
  move_factor p (begins name front) = begins (move_name p name) (move_operand p front)
  move_factor p (test a tail) = test (move_operand p a) (move_tail p tail)

comma_text-move : (p : Span → Span) (list : List Operand) (k : List Token) →
    comma_text (map (move_operand p) list) (map (move_token p) k) ≡ map (move_token p) (comma_text list k)
comma_text-move p [] k = refl
comma_text-move p (a ∷ list) k = ap (λ x. t.Comma ∷ t.Operand (move_operand p a) ∷ x) (comma_text-move p list k)

tail_text-move : (p : Span → Span) (tail : Tail) (k : List Token) →
    tail_text (move_tail p tail) (map (move_token p) k) ≡ map (move_token p) (tail_text tail k)
tail_text-move p (compare op right) k = refl
tail_text-move p (between low high) k = refl
tail_text-move p (within a list) k = ap (λ x. t.In ∷ t.Open ∷ t.Operand (move_operand p a) ∷ x)
    (comma_text-move p list (t.Close ∷ k))

mutual
  or_text-move : (p : Span → Span) (q : OrList) (k : List Token) → or_text (move_or p q) (map (move_token p) k) ≡ map
      (move_token p) (or_text q k)
  or_text-move p (one_and a) k = and_text-move p a k
  or_text-move p (or a q) k = ap (λ x. and_text (move_and p a) (t.Or ∷ x)) (or_text-move p q k) ∙
      and_text-move p a (t.Or ∷ or_text q k)

  and_text-move : (p : Span → Span) (a : AndList) (k : List Token) →
      and_text (move_and p a) (map (move_token p) k) ≡ map (move_token p) (and_text a k)
  and_text-move p (one_factor n) k = factor_text-move p n k
  and_text-move p (and n a) k = ap (λ x. factor_text (move_factor p n) (t.And ∷ x)) (and_text-move p a k) ∙
      factor_text-move p n (t.And ∷ and_text a k)

  factor_text-move : (p : Span → Span) (n : Factor) (k : List Token) →
      factor_text (move_factor p n) (map (move_token p) k) ≡ map (move_token p) (factor_text n k)
  factor_text-move p (negated n) k = ap (λ x. t.Not ∷ x) (factor_text-move p n k)
  factor_text-move p (group q) k = ap (λ x. t.Open ∷ x) (or_text-move p q (t.Close ∷ k))
  factor_text-move p (exists name) k = refl
  factor_text-move p (lacks name) k = refl
  factor_text-move p (begins name front) k = refl
  factor_text-move p (test a tail) k = ap (λ x. t.Operand (move_operand p a) ∷ x) (tail_text-move p tail k)

tail_form-move : (p : Span → Span) (a : Operand) (tail : Tail) → tail_form (move_operand p a) (move_tail p tail) ≡
    move_form p (tail_form a tail)
tail_form-move p a (compare op right) = refl
tail_form-move p a (between low high) = refl
tail_form-move p a (within b list) = refl

two : (make : Forms → Form) (a b : Form) (m n : Forms) → a ≡ b → m ≡ n → make (some a m) ≡ make (some b n)
two make a b m n h k = ap (λ x. make (some x m)) h ∙ ap (λ x. make (some b x)) k

mutual
  or_form-move : (p : Span → Span) (q : OrList) → or_form (move_or p q) ≡ move_form p (or_form q)
  or_form-move p (one_and a) = and_form-move p a
  or_form-move p (or a q) = two form.or _ _ _ _ (and_form-move p a) (or_members-move p q)

  or_members-move : (p : Span → Span) (q : OrList) → or_members (move_or p q) ≡ move_forms p (or_members q)
  or_members-move p (one_and a) = ap (λ x. some x form.none) (and_form-move p a)
  or_members-move p (or a q) = ap (λ x. some x (or_members (move_or p q))) (and_form-move p a) ∙
      ap (λ x. some (move_form p (and_form a)) x) (or_members-move p q)

  and_form-move : (p : Span → Span) (a : AndList) → and_form (move_and p a) ≡ move_form p (and_form a)
  and_form-move p (one_factor n) = factor_form-move p n
  and_form-move p (and n a) = two form.and _ _ _ _ (factor_form-move p n) (and_members-move p a)

  and_members-move : (p : Span → Span) (a : AndList) → and_members (move_and p a) ≡ move_forms p (and_members a)
  and_members-move p (one_factor n) = ap (λ x. some x form.none) (factor_form-move p n)
  and_members-move p (and n a) = ap (λ x. some x (and_members (move_and p a))) (factor_form-move p n) ∙
      ap (λ x. some (move_form p (factor_form n)) x) (and_members-move p a)

  factor_form-move : (p : Span → Span) (n : Factor) → factor_form (move_factor p n) ≡ move_form p (factor_form n)
  factor_form-move p (negated n) = ap form.not (factor_form-move p n)
  factor_form-move p (group q) = or_form-move p q
  factor_form-move p (exists name) = refl
  factor_form-move p (lacks name) = refl
  factor_form-move p (begins name front) = refl
  factor_form-move p (test a tail) = tail_form-move p a tail

pub cond_moved : (p : Span → Span) (tokens : List Token) (f : Form) → IsCond tokens f →
    IsCond (map (move_token p) tokens) (move_form p f)
cond_moved p tokens f is = record {
  parts = move_or p is.parts;
  text = ap (map (move_token p)) is.text ∙ sym (or_text-move p is.parts []);
  means = ap (move_form p) is.means ∙ sym (or_form-move p is.parts);
}
