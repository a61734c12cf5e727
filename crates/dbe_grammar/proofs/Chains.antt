-- Parts with AND or OR between them: what is read, and where none can be.
use Rattle.std.proofs.Common.{◌≡◌, ℕ, List, [], ◌∷◌, ◌++◌, Some, refl, ap, sym, ◌∙◌}
use Rattle.std.specs.Prelude.{◌≢◌}
use Rattle.dbe_tokens.specs.declared.token.Token.{Token}
use Rattle.dbe_tokens.specs.declared.token.Token.TheVariants as t
use Rattle.dbe_grammar.specs.Form.{Form, Forms, forms_last}
use Rattle.dbe_grammar.specs.Form as form
use Rattle.dbe_grammar.specs.Grammar.{OrList, one_and, or, AndList, one_factor, and, Factor, or_text, and_text}
use Rattle.dbe_grammar.specs.Grammar.{factor_text, or_form, or_members, and_form, and_members, factor_form}
use Rattle.dbe_grammar.specs.declared.fault.Stop.{Stop}
use Rattle.dbe_grammar.specs.declared.fault.Stop.TheVariants as s
use Rattle.dbe_grammar.specs.Parts.{Stops, next_of, AfterAnd, AfterOr, OrFront, AndFront, FactorFront, OrStuck}
use Rattle.dbe_grammar.specs.Parts.{AndStuck, FactorStuck}
use Rattle.dbe_grammar.proofs.Unique.{or_text-append, and_text-append, and_unique, factor_unique, or_after}

-- one factor more at the end
abbrev and_last : AndList → Factor → AndList
and_last (one_factor m) n = and m (one_factor n)
and_last (and m a) n = and m (and_last a n)

and_last-text : (a : AndList) (n : Factor) (others : List Token) →
    and_text (and_last a n) others ≡ and_text a (t.And ∷ factor_text n others)
and_last-text (one_factor m) n others = refl
and_last-text (and m a) n others = ap (λ x. factor_text m (t.And ∷ x)) (and_last-text a n others)

and_last-members : (a : AndList) (n : Factor) → and_members (and_last a n) ≡ forms_last (and_members a) (factor_form n)
and_last-members (one_factor m) n = refl
and_last-members (and m a) n = ap (λ x. form.some (factor_form m) x) (and_last-members a n)

and_last-form : (a : AndList) (n : Factor) →
    and_form (and_last a n) ≡ form.and (forms_last (and_members a) (factor_form n))
and_last-form (one_factor m) n = refl
and_last-form (and m a) n = ap (λ x. form.and (form.some (factor_form m) x)) (and_last-members a n)

-- what stands after an AND is a factor
after_and : (a b : AndList) (rest others : List Token) → AfterAnd others →
    and_text a (t.And ∷ rest) ≡ and_text b others → (n : Factor) × (more : List Token) × (rest ≡ factor_text n more)
after_and (one_factor m) (one_factor n) rest others h e = let r = factor_unique m n (t.And ∷ rest) others e in
    absurd (h (ap next_of (sym r.1)))
after_and (one_factor m) (and n (one_factor k)) rest others h e = let r =
    factor_unique m n (t.And ∷ rest) (t.And ∷ factor_text k others) e in (k, others, cc)
after_and (one_factor m) (and n (and k b)) rest others h e = let r =
    factor_unique m n (t.And ∷ rest) (t.And ∷ and_text (and k b) others) e in (k, t.And ∷ and_text b others, cc)
after_and (and m a) (one_factor n) rest others h e = let r = factor_unique m n (t.And ∷ and_text a (t.And ∷ rest))
    others e in absurd (h (ap next_of (sym r.1)))
after_and (and m a) (and n b) rest others h e = let r = factor_unique m n (t.And ∷ and_text a (t.And ∷ rest))
    (t.And ∷ and_text b others) e in after_and a b rest others h (cc)

-- the factors before an AND that has been read
pub record AndsSoFar (tokens : List Token) (members : Forms) (rest : List Token) : Type 0 where
  pub parts : AndList
  pub spelled : tokens ≡ and_text parts (t.And ∷ rest)
  pub means : members ≡ and_members parts

pub ands_start : (tokens : List Token) (found : Form) (others rest : List Token) → FactorFront tokens found others →
    others ≡ t.And ∷ rest → AndsSoFar tokens (form.some found form.none) rest
ands_start tokens found others rest f e = record {
  parts = one_factor f.parts;
  spelled = f.spelled ∙
      ap (factor_text f.parts) e;
  means = ap (λ x. form.some x form.none) f.means;
}

pub ands_more : (tokens : List Token) (members : Forms) (rest : List Token) (found : Form) (others more : List Token)
    → AndsSoFar tokens members rest → FactorFront rest found others → others ≡ t.And ∷ more →
    AndsSoFar tokens (forms_last members found) more
ands_more tokens members rest found others more s f e = record {
  parts = and_last s.parts f.parts;
  spelled = s.spelled ∙ ap (λ x. and_text s.parts (t.And ∷ x)) (f.spelled ∙ ap (factor_text f.parts) e) ∙
      sym (and_last-text s.parts f.parts (t.And ∷ more));
  means = ap (λ x. forms_last x found) s.means ∙ ap (λ x. forms_last (and_members s.parts) x) f.means ∙
      sym (and_last-members s.parts f.parts);
}

pub ands_end : (tokens : List Token) (members : Forms) (rest : List Token) (found : Form) (others : List Token) →
    AndsSoFar tokens members rest → FactorFront rest found others → next_of others ≢ Some t.And →
    AndFront tokens (form.and (forms_last members found)) others
ands_end tokens members rest found others s f h = record {
  parts = and_last s.parts f.parts;
  spelled = s.spelled ∙ ap (λ x. and_text s.parts (t.And ∷ x)) f.spelled ∙ sym (and_last-text s.parts f.parts others);
  means = ap (λ x. form.and (forms_last x found)) s.means ∙ ap (λ x. form.and (forms_last (and_members s.parts) x))
      f.means ∙ sym (and_last-form s.parts f.parts);
  after = h;
}

pub ands_one : (tokens : List Token) (found : Form) (others : List Token) → FactorFront tokens found others →
    next_of others ≢ Some t.And → AndFront tokens found others
ands_one tokens found others f h = record {
  parts = one_factor f.parts;
  spelled = f.spelled;
  means = f.means;
  after =
      h;
}

no_first_factor : (tokens : List Token) (left : ℕ) (f : FactorStuck tokens left) (part : AndList)
    (more others : List Token) → next_of more ≡ next_of f.back → f.front ++ more ≡ and_text part others → ⊥
no_first_factor tokens left f (one_factor n) more others e q = f.none n more others e q tt
no_first_factor tokens left f (and n a) more others e q = f.none n more (t.And ∷ and_text a others) e q tt

ands_stuck_first : (tokens : List Token) (left : ℕ) → FactorStuck tokens left → AndStuck tokens left
ands_stuck_first tokens left f = record {
  front = f.front;
  back = f.back;
  whole = f.whole;
  is_left = f.is_left;
  parts = one_factor f.parts;
  missing = f.missing;
  begins = f.begins;
  none = λ part more others e q _. no_first_factor tokens left f part more others e q;
}

ands_stuck : (tokens : List Token) (members : Forms) (rest : List Token) (left : ℕ) → AndsSoFar tokens members rest →
    FactorStuck rest left → AndStuck tokens left
ands_stuck tokens members rest left s f = record {
  front = and_text s.parts (t.And ∷ f.front);
  back = f.back;
  whole = s.spelled ∙ ap (λ x. and_text s.parts (t.And ∷ x)) f.whole ∙
      sym (and_text-append s.parts (t.And ∷ f.front) f.back);
  is_left = f.is_left;
  parts = and_last s.parts f.parts;
  missing = f.missing;
  begins = and_text-append s.parts (t.And ∷ f.front) f.missing ∙ ap (λ x. and_text s.parts (t.And ∷ x)) f.begins ∙
      sym (and_last-text s.parts f.parts []);
  none = λ part more others e q h.
      let r = after_and s.parts part (f.front ++ more) others h (sym (and_text-append s.parts (t.And ∷ f.front) more)
      ∙ q) in
      f.none r.0 more r.1 e r.2 tt;
}

pub ands_stops_first : (tokens : List Token) (stop : Stop) → Stops FactorStuck tokens stop → Stops AndStuck tokens stop
ands_stops_first tokens s.Memory f = tt
ands_stops_first tokens (s.Misfit left) f = ands_stuck_first tokens left f

pub ands_stops : (tokens : List Token) (members : Forms) (rest : List Token) (stop : Stop) →
    AndsSoFar tokens members rest → Stops FactorStuck rest stop → Stops AndStuck tokens stop
ands_stops tokens members rest s.Memory so f = tt
ands_stops tokens members rest (s.Misfit left) so f = ands_stuck tokens members rest left so f

-- the same for OR
abbrev or_last : OrList → AndList → OrList
or_last (one_and a) b = or a (one_and b)
or_last (or a p) b = or a (or_last p b)

or_last-text : (p : OrList) (b : AndList) (others : List Token) →
    or_text (or_last p b) others ≡ or_text p (t.Or ∷ and_text b others)
or_last-text (one_and a) b others = refl
or_last-text (or a p) b others = ap (λ x. and_text a (t.Or ∷ x)) (or_last-text p b others)

or_last-members : (p : OrList) (b : AndList) → or_members (or_last p b) ≡ forms_last (or_members p) (and_form b)
or_last-members (one_and a) b = refl
or_last-members (or a p) b = ap (λ x. form.some (and_form a) x) (or_last-members p b)

or_last-form : (p : OrList) (b : AndList) → or_form (or_last p b) ≡ form.or (forms_last (or_members p) (and_form b))
or_last-form (one_and a) b = refl
or_last-form (or a p) b = ap (λ x. form.or (form.some (and_form a) x)) (or_last-members p b)

after_or : (p q : OrList) (rest others : List Token) → AfterOr others → or_text p (t.Or ∷ rest) ≡ or_text q others →
    (b : AndList) × (more : List Token) × AfterAnd more × (rest ≡ and_text b more)
after_or (one_and a) (one_and b) rest others h e = let r = and_unique a b (t.Or ∷ rest) others (or_after rest) h.0 e
    in absurd (h.1 (ap next_of (sym r.1)))
after_or (one_and a) (or b (one_and k)) rest others h e = let r =
    and_unique a b (t.Or ∷ rest) (t.Or ∷ and_text k others) (or_after rest) (or_after (and_text k others)) e in
    (k, others, h.0, cc)
after_or (one_and a) (or b (or k q)) rest others h e = let r =
    and_unique a b (t.Or ∷ rest) (t.Or ∷ or_text (or k q) others) (or_after rest) (or_after (or_text (or k q) others))
    e in (k, t.Or ∷ or_text q others, or_after (or_text q others), cc)
after_or (or a p) (one_and b) rest others h e = let r = and_unique a b (t.Or ∷ or_text p (t.Or ∷ rest)) others
    (or_after (or_text p (t.Or ∷ rest))) h.0 e in absurd (h.1 (ap next_of (sym r.1)))
after_or (or a p) (or b q) rest others h e = let r =
    and_unique a b (t.Or ∷ or_text p (t.Or ∷ rest)) (t.Or ∷ or_text q others) (or_after (or_text p (t.Or ∷ rest)))
    (or_after (or_text q others)) e in after_or p q rest others h (cc)

pub record OrsSoFar (tokens : List Token) (members : Forms) (rest : List Token) : Type 0 where
  pub parts : OrList
  pub spelled : tokens ≡ or_text parts (t.Or ∷ rest)
  pub means : members ≡ or_members parts

pub ors_start : (tokens : List Token) (found : Form) (others rest : List Token) → AndFront tokens found others →
    others ≡ t.Or ∷ rest → OrsSoFar tokens (form.some found form.none) rest
ors_start tokens found others rest f e = record {
  parts = one_and f.parts;
  spelled = f.spelled ∙
      ap (and_text f.parts) e;
  means = ap (λ x. form.some x form.none) f.means;
}

pub ors_more : (tokens : List Token) (members : Forms) (rest : List Token) (found : Form) (others more : List Token) →
    OrsSoFar tokens members rest → AndFront rest found others → others ≡ t.Or ∷ more →
    OrsSoFar tokens (forms_last members found) more
ors_more tokens members rest found others more s f e = record {
  parts = or_last s.parts f.parts;
  spelled = s.spelled ∙ ap (λ x. or_text s.parts (t.Or ∷ x)) (f.spelled ∙ ap (and_text f.parts) e) ∙
      sym (or_last-text s.parts f.parts (t.Or ∷ more));
  means = ap (λ x. forms_last x found) s.means ∙ ap (λ x. forms_last (or_members s.parts) x) f.means ∙
      sym (or_last-members s.parts f.parts);
}

pub ors_end : (tokens : List Token) (members : Forms) (rest : List Token) (found : Form) (others : List Token) →
    OrsSoFar tokens members rest → AndFront rest found others → next_of others ≢ Some t.Or →
    OrFront tokens (form.or (forms_last members found)) others
ors_end tokens members rest found others s f h = record {
  parts = or_last s.parts f.parts;
  spelled = s.spelled ∙ ap (λ x. or_text s.parts (t.Or ∷ x)) f.spelled ∙ sym (or_last-text s.parts f.parts others);
  means = ap (λ x. form.or (forms_last x found)) s.means ∙ ap (λ x. form.or (forms_last (or_members s.parts) x))
      f.means ∙ sym (or_last-form s.parts f.parts);
  after = (f.after, h);
}

pub ors_one : (tokens : List Token) (found : Form) (others : List Token) → AndFront tokens found others →
    next_of others ≢ Some t.Or → OrFront tokens found others
ors_one tokens found others f h = record {
  parts = one_and f.parts;
  spelled = f.spelled;
  means = f.means;
  after =
      (f.after, h);
}

no_first_and : (tokens : List Token) (left : ℕ) (f : AndStuck tokens left) (part : OrList) (more others : List Token)
    → AfterOr others → next_of more ≡ next_of f.back → f.front ++ more ≡ or_text part others → ⊥
no_first_and tokens left f (one_and a) more others h e q = f.none a more others e q h.0
no_first_and tokens left f (or a p) more others h e q =
    f.none a more (t.Or ∷ or_text p others) e q (or_after (or_text p others))

ors_stuck_first : (tokens : List Token) (left : ℕ) → AndStuck tokens left → OrStuck tokens left
ors_stuck_first tokens left f = record {
  front = f.front;
  back = f.back;
  whole = f.whole;
  is_left = f.is_left;
  parts = one_and f.parts;
  missing = f.missing;
  begins = f.begins;
  none = λ part more others e q h. no_first_and tokens left f part more others h e q;
}

ors_stuck : (tokens : List Token) (members : Forms) (rest : List Token) (left : ℕ) → OrsSoFar tokens members rest →
    AndStuck rest left → OrStuck tokens left
ors_stuck tokens members rest left s f = record {
  front = or_text s.parts (t.Or ∷ f.front);
  back = f.back;
  whole = s.spelled ∙ ap (λ x. or_text s.parts (t.Or ∷ x)) f.whole ∙
      sym (or_text-append s.parts (t.Or ∷ f.front) f.back);
  is_left = f.is_left;
  parts = or_last s.parts f.parts;
  missing = f.missing;
  begins = or_text-append s.parts (t.Or ∷ f.front) f.missing ∙ ap (λ x. or_text s.parts (t.Or ∷ x)) f.begins ∙
      sym (or_last-text s.parts f.parts []);
  none = λ part more others e q h.
      let r = after_or s.parts part (f.front ++ more) others h (sym (or_text-append s.parts (t.Or ∷ f.front) more) ∙
      q) in
      f.none r.0 more r.1 e r.3 r.2;
}

pub ors_stops_first : (tokens : List Token) (stop : Stop) → Stops AndStuck tokens stop → Stops OrStuck tokens stop
ors_stops_first tokens s.Memory f = tt
ors_stops_first tokens (s.Misfit left) f = ors_stuck_first tokens left f

pub ors_stops : (tokens : List Token) (members : Forms) (rest : List Token) (stop : Stop) →
    OrsSoFar tokens members rest → Stops AndStuck rest stop → Stops OrStuck tokens stop
ors_stops tokens members rest s.Memory so f = tt
ors_stops tokens members rest (s.Misfit left) so f = ors_stuck tokens members rest left so f
