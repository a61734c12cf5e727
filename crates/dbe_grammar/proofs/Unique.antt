-- Tokens are a part in one way.
use Rattle.std.proofs.Common.{◌≡◌, List, [], ◌∷◌, ◌++◌, refl, ap, sym, ◌∙◌}
use Rattle.dbe_tokens.specs.declared.token.Token.{Token}
use Rattle.dbe_tokens.specs.declared.token.Token.TheVariants as t
use Rattle.dbe_tokens.specs.declared.token.Operand.{Operand}
use Rattle.dbe_grammar.specs.Grammar.{OrList, one_and, or, AndList, one_factor, and, Factor, negated, group, exists}
use Rattle.dbe_grammar.specs.Grammar.{lacks, begins, test, Tail, compare, between, within, tail_text, comma_text}
use Rattle.dbe_grammar.specs.Grammar.{or_text, and_text, factor_text}
use Rattle.dbe_grammar.specs.Parts.{next_of, AfterAnd, AfterOr}

-- What follows a part can be taken apart.
pub comma_text-append : (list : List Operand) (y z : List Token) → comma_text list y ++ z ≡ comma_text list (y ++ z)
comma_text-append [] y z = refl
comma_text-append (a ∷ list) y z = ap (λ x. t.Comma ∷ t.Operand a ∷ x) (comma_text-append list y z)

pub tail_text-append : (tail : Tail) (y z : List Token) → tail_text tail y ++ z ≡ tail_text tail (y ++ z)
tail_text-append (compare op right) y z = refl
tail_text-append (between low high) y z = refl
tail_text-append (within a list) y z = ap (λ x. t.In ∷ t.Open ∷ t.Operand a ∷ x) (comma_text-append list (t.Close ∷ y)
    z)

mutual
  pub or_text-append : (p : OrList) (y z : List Token) → or_text p y ++ z ≡ or_text p (y ++ z)
  or_text-append (one_and a) y z = and_text-append a y z
  or_text-append (or a p) y z = and_text-append a (t.Or ∷ or_text p y) z ∙
      ap (λ x. and_text a (t.Or ∷ x)) (or_text-append p y z)

  pub and_text-append : (a : AndList) (y z : List Token) → and_text a y ++ z ≡ and_text a (y ++ z)
  and_text-append (one_factor n) y z = factor_text-append n y z
  and_text-append (and n a) y z = factor_text-append n (t.And ∷ and_text a y) z ∙
      ap (λ x. factor_text n (t.And ∷ x)) (and_text-append a y z)

  pub factor_text-append : (n : Factor) (y z : List Token) → factor_text n y ++ z ≡ factor_text n (y ++ z)
  factor_text-append (negated n) y z = ap (λ x. t.Not ∷ x) (factor_text-append n y z)
  factor_text-append (group p) y z = ap (λ x. t.Open ∷ x) (or_text-append p (t.Close ∷ y) z)
  factor_text-append (exists name) y z = refl
  factor_text-append (lacks name) y z = refl
  factor_text-append (begins name front) y z = refl
  factor_text-append (test a tail) y z = ap (λ x. t.Operand a ∷ x) (tail_text-append tail y z)

pub close_after : (y : List Token) → AfterOr (t.Close ∷ y)
close_after y = ((λ q. cc), (λ q. cc))

pub or_after : (y : List Token) → AfterAnd (t.Or ∷ y)
or_after y = λ q. cc

-- Of tokens a part is the front in at most one way, and leaves the same behind it.
comma_unique : (m n : List Operand) (y z : List Token) → comma_text m (t.Close ∷ y) ≡ comma_text n (t.Close ∷ z) →
    (m ≡ n) × (y ≡ z)
comma_unique [] [] y z e = (refl, cc)
comma_unique [] (b ∷ n) y z e = cc
comma_unique (a ∷ m) [] y z e = cc
comma_unique (a ∷ m) (b ∷ n) y z e = let r = comma_unique m n y z (cc) in (cc, r.1)

pub tail_unique : (m n : Tail) (y z : List Token) → tail_text m y ≡ tail_text n z → (m ≡ n) × (y ≡ z)
tail_unique (compare op a) (compare oq b) y z e = (cc, cc)
tail_unique (compare op a) (between low high) y z e = cc
tail_unique (compare op a) (within b list) y z e = cc
tail_unique (between low high) (compare op a) y z e = cc
tail_unique (between low high) (between a b) y z e = (cc, cc)
tail_unique (between low high) (within b list) y z e = cc
tail_unique (within a list) (compare op b) y z e = cc
tail_unique (within a list) (between low high) y z e = cc
tail_unique (within a list) (within b rest) y z e = let r = comma_unique list rest y z (cc) in (cc, r.1)

mutual
  pub or_unique : (p q : OrList) (y z : List Token) → AfterOr y → AfterOr z → or_text p y ≡ or_text q z → (p ≡ q) ×
      (y ≡ z)
  or_unique (one_and a) (one_and b) y z h k e = let r = and_unique a b y z h.0 k.0 e in (ap one_and r.0, r.1)
  or_unique (one_and a) (or b q) y z h k e = let r =
      and_unique a b y (t.Or ∷ or_text q z) h.0 (or_after (or_text q z)) e in absurd (h.1 (ap next_of r.1))
  or_unique (or a p) (one_and b) y z h k e = let r = and_unique a b (t.Or ∷ or_text p y) z (or_after (or_text p y))
      k.0 e in absurd (k.1 (ap next_of (sym r.1)))
  or_unique (or a p) (or b q) y z h k e =
      let r = and_unique a b (t.Or ∷ or_text p y) (t.Or ∷ or_text q z) (or_after (or_text p y))
      (or_after (or_text q z)) e in
      let s = or_unique p q y z h k (cc) in
      (cc, s.1)

  pub and_unique : (a b : AndList) (y z : List Token) → AfterAnd y → AfterAnd z → and_text a y ≡ and_text b z →
      (a ≡ b) × (y ≡ z)
  and_unique (one_factor m) (one_factor n) y z h k e = let r = factor_unique m n y z e in (ap one_factor r.0, r.1)
  and_unique (one_factor m) (and n b) y z h k e = let r = factor_unique m n y (t.And ∷ and_text b z) e in
      absurd (h (ap next_of r.1))
  and_unique (and m a) (one_factor n) y z h k e = let r = factor_unique m n (t.And ∷ and_text a y) z e in
      absurd (k (ap next_of (sym r.1)))
  and_unique (and m a) (and n b) y z h k e =
      let r = factor_unique m n (t.And ∷ and_text a y) (t.And ∷ and_text b z) e in
      let s = and_unique a b y z h k (cc) in
      (cc, s.1)

  pub factor_unique : (m n : Factor) (y z : List Token) → factor_text m y ≡ factor_text n z → (m ≡ n) × (y ≡ z)
  factor_unique (negated m) (negated n) y z e = let r = factor_unique m n y z (cc) in (ap negated r.0, r.1)
  factor_unique (negated m) (group q) y z e = cc
  factor_unique (negated m) (exists j) y z e = cc
  factor_unique (negated m) (lacks j) y z e = cc
  factor_unique (negated m) (begins j b) y z e = cc
  factor_unique (negated m) (test b w) y z e = cc
  factor_unique (group p) (negated n) y z e = cc
  factor_unique (group p) (group q) y z e = let r = or_unique p q (t.Close ∷ y) (t.Close ∷ z) (close_after y)
      (close_after z) (cc) in (ap group r.0, cc)
  factor_unique (group p) (exists j) y z e = cc
  factor_unique (group p) (lacks j) y z e = cc
  factor_unique (group p) (begins j b) y z e = cc
  factor_unique (group p) (test b w) y z e = cc
  factor_unique (exists i) (negated n) y z e = cc
  factor_unique (exists i) (group q) y z e = cc
  factor_unique (exists i) (exists j) y z e = (cc, cc)
  factor_unique (exists i) (lacks j) y z e = cc
  factor_unique (exists i) (begins j b) y z e = cc
  factor_unique (exists i) (test b w) y z e = cc
  factor_unique (lacks i) (negated n) y z e = cc
  factor_unique (lacks i) (group q) y z e = cc
  factor_unique (lacks i) (exists j) y z e = cc
  factor_unique (lacks i) (lacks j) y z e = (cc, cc)
  factor_unique (lacks i) (begins j b) y z e = cc
  factor_unique (lacks i) (test b w) y z e = cc
  factor_unique (begins i a) (negated n) y z e = cc
  factor_unique (begins i a) (group q) y z e = cc
  factor_unique (begins i a) (exists j) y z e = cc
  factor_unique (begins i a) (lacks j) y z e = cc
  factor_unique (begins i a) (begins j b) y z e = (cc, cc)
  factor_unique (begins i a) (test b w) y z e = cc
  factor_unique (test a v) (negated n) y z e = cc
  factor_unique (test a v) (group q) y z e = cc
  factor_unique (test a v) (exists j) y z e = cc
  factor_unique (test a v) (lacks j) y z e = cc
  factor_unique (test a v) (begins j b) y z e = cc
  factor_unique (test a v) (test b w) y z e = let r = tail_unique v w y z (cc) in (cc, r.1)
