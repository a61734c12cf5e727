-- A negation, parentheses, functions and tests: what is read, and where none can be.
use Rattle.std.proofs.Common.{◌≡◌, ℕ, List, [], ◌∷◌, ◌++◌, length, Some, refl, ap, sym, ◌∙◌, append_assoc, arith}
use Rattle.std.specs.Prelude.{◌≢◌}
use Rattle.dbe_tokens.specs.declared.token.Token.{Token}
use Rattle.dbe_tokens.specs.declared.token.Token.TheVariants as t
use Rattle.dbe_tokens.specs.declared.token.Name.{Name}
use Rattle.dbe_tokens.specs.declared.token.Operand.{Operand}
use Rattle.dbe_grammar.specs.Form.{Form}
use Rattle.dbe_grammar.specs.Form as form
use Rattle.dbe_grammar.specs.Grammar.{OrList, Factor, negated, group, exists, lacks, begins, test, Tail, tail_text}
use Rattle.dbe_grammar.specs.Grammar.{name_text, pair_text, or_text, factor_text}
use Rattle.dbe_grammar.specs.declared.fault.Stop.{Stop}
use Rattle.dbe_grammar.specs.declared.fault.Stop.TheVariants as s
use Rattle.dbe_grammar.specs.Parts.{Stops, next_of, AfterOr, OrFront, FactorFront, TailFront, OrStuck, FactorStuck}
use Rattle.dbe_grammar.specs.Parts.{TailStuck, NameStuck, Pair, pair, text_of_pair, PairStuck}
use Rattle.dbe_grammar.proofs.Unique.{or_text-append, or_unique, close_after}
use Rattle.dbe_grammar.proofs.Places.{some_name, stops_under, not_next}

-- no part begins with this token
pub record NoHead (tokens : List Token) : Type 0 where
  pub negated : next_of tokens ≢ Some t.Not
  pub group : next_of tokens ≢ Some t.Open
  pub exists : next_of tokens ≢ Some t.Exists
  pub lacks : next_of tokens ≢ Some t.NotExists
  pub begins : next_of tokens ≢ Some t.BeginsWith
  pub test : (a : Operand) → next_of tokens ≢ Some (t.Operand a)

none_here : (tokens : List Token) → NoHead tokens → (part : Factor) (more others : List Token) →
    next_of more ≡ next_of tokens → more ≡ factor_text part others → ⊥
none_here tokens h (negated n) more others e q = h.negated (sym e ∙ ap next_of q)
none_here tokens h (group p) more others e q = h.group (sym e ∙ ap next_of q)
none_here tokens h (exists i) more others e q = h.exists (sym e ∙ ap next_of q)
none_here tokens h (lacks i) more others e q = h.lacks (sym e ∙ ap next_of q)
none_here tokens h (begins i b) more others e q = h.begins (sym e ∙ ap next_of q)
none_here tokens h (test a v) more others e q = h.test a (sym e ∙ ap next_of q)

stuck_here : (tokens : List Token) → NoHead tokens → FactorStuck tokens (length tokens)
stuck_here tokens h = record {
  front = [];
  back = tokens;
  whole = refl;
  is_left = refl;
  parts = exists some_name;
  missing = t.Exists ∷ name_text some_name [];
  begins = refl;
  none = λ part more others e q _. none_here tokens h part more others e q;
}

pub factor_end : (tokens : List Token) → length tokens ≡ 0 → FactorStuck tokens 0
factor_end [] e = stuck_here [] (record {
  negated = λ q. cc;
  group = λ q. cc;
  exists = λ q. cc;
  lacks = λ q. cc;
  begins = λ q. cc;
  test = λ a q. cc;
})
factor_end (token ∷ tokens) e = absurd (omega arith)

pub factor_token : (tokens rest : List Token) (token : Token) → tokens ≡ token ∷ rest → token ≢ t.Not →
    token ≢ t.Open → token ≢ t.Exists → token ≢ t.NotExists → token ≢ t.BeginsWith →
    ((a : Operand) → token ≢ t.Operand a) → FactorStuck tokens (length tokens)
factor_token tokens rest token e h k l m n o = stuck_here tokens (record {
  negated = not_next tokens rest token t.Not e h;
  group = not_next tokens rest token t.Open e k;
  exists = not_next tokens rest token t.Exists e l;
  lacks = not_next tokens rest token t.NotExists e m;
  begins = not_next tokens rest token t.BeginsWith e n;
  test = λ a. not_next tokens rest token (t.Operand a) e (o a);
})

-- what stands after the first token of a factor
only_negated : (n : Factor) (more others : List Token) → t.Not ∷ more ≡ factor_text n others → (m : Factor) ×
    (more ≡ factor_text m others)
only_negated (negated n) more others e = (n, cc)
only_negated (group p) more others e = cc
only_negated (exists i) more others e = cc
only_negated (lacks i) more others e = cc
only_negated (begins i b) more others e = cc
only_negated (test b v) more others e = cc

only_exists : (n : Factor) (more others : List Token) → t.Exists ∷ more ≡ factor_text n others → (i : Name) ×
    (more ≡ name_text i others)
only_exists (negated n) more others e = cc
only_exists (group p) more others e = cc
only_exists (exists i) more others e = (i, cc)
only_exists (lacks i) more others e = cc
only_exists (begins i b) more others e = cc
only_exists (test b v) more others e = cc

only_lacks : (n : Factor) (more others : List Token) → t.NotExists ∷ more ≡ factor_text n others → (i : Name) ×
    (more ≡ name_text i others)
only_lacks (negated n) more others e = cc
only_lacks (group p) more others e = cc
only_lacks (exists i) more others e = cc
only_lacks (lacks i) more others e = (i, cc)
only_lacks (begins i b) more others e = cc
only_lacks (test b v) more others e = cc

only_begins : (n : Factor) (more others : List Token) → t.BeginsWith ∷ more ≡ factor_text n others → (p : Pair) ×
    (more ≡ text_of_pair p others)
only_begins (negated n) more others e = cc
only_begins (group p) more others e = cc
only_begins (exists i) more others e = cc
only_begins (lacks i) more others e = cc
only_begins (begins i b) more others e = (pair i b, cc)
only_begins (test b v) more others e = cc

only_test : (a : Operand) (n : Factor) (more others : List Token) → t.Operand a ∷ more ≡ factor_text n others →
    (v : Tail) × (more ≡ tail_text v others)
only_test a (negated n) more others e = cc
only_test a (group p) more others e = cc
only_test a (exists i) more others e = cc
only_test a (lacks i) more others e = cc
only_test a (begins i b) more others e = cc
only_test a (test b v) more others e = (v, cc)

abbrev begins_of : Pair → Factor
begins_of (pair name front) = begins name front

begins_of-text : (p : Pair) (others : List Token) → factor_text (begins_of p) others ≡ t.BeginsWith ∷ text_of_pair p
    others
begins_of-text (pair name front) others = refl

pub negated_stops : (tokens : List Token) (stop : Stop) → Stops FactorStuck tokens stop →
    Stops FactorStuck (t.Not ∷ tokens) stop
negated_stops = stops_under Factor factor_text t.Not negated (λ n others. refl) only_negated

pub exists_stops : (tokens : List Token) (stop : Stop) → Stops NameStuck tokens stop →
    Stops FactorStuck (t.Exists ∷ tokens) stop
exists_stops = stops_under Name name_text t.Exists exists (λ n others. refl) only_exists

pub lacks_stops : (tokens : List Token) (stop : Stop) → Stops NameStuck tokens stop →
    Stops FactorStuck (t.NotExists ∷ tokens) stop
lacks_stops = stops_under Name name_text t.NotExists lacks (λ n others. refl) only_lacks

pub begins_stops : (tokens : List Token) (stop : Stop) → Stops PairStuck tokens stop →
    Stops FactorStuck (t.BeginsWith ∷ tokens) stop
begins_stops = stops_under Pair text_of_pair t.BeginsWith begins_of begins_of-text only_begins

pub test_stops : (a : Operand) (tokens : List Token) (stop : Stop) → Stops TailStuck tokens stop →
    Stops FactorStuck (t.Operand a ∷ tokens) stop
test_stops a = stops_under Tail tail_text (t.Operand a) (test a) (λ v others. refl) (only_test a)

pub negated_front : (tokens : List Token) (found : Form) (others : List Token) → FactorFront tokens found others →
    FactorFront (t.Not ∷ tokens) (form.not found) others
negated_front tokens found others f = record {
  parts = negated f.parts;
  spelled = ap (λ x. t.Not ∷ x) f.spelled;
  means = ap form.not f.means;
  after = tt;
}

pub exists_front : (i : Name) (tokens others : List Token) → tokens ≡ name_text i others →
    FactorFront (t.Exists ∷ tokens) (form.exists i) others
exists_front i tokens others e = record {
  parts = exists i;
  spelled = ap (λ x. t.Exists ∷ x) e;
  means = refl;
  after =
      tt;
}

pub lacks_front : (i : Name) (tokens others : List Token) → tokens ≡ name_text i others →
    FactorFront (t.NotExists ∷ tokens) (form.lacks i) others
lacks_front i tokens others e = record {
  parts = lacks i;
  spelled = ap (λ x. t.NotExists ∷ x) e;
  means = refl;
  after =
      tt;
}

pub begins_front : (i : Name) (b : Operand) (tokens others : List Token) → tokens ≡ pair_text i b others →
    FactorFront (t.BeginsWith ∷ tokens) (form.begins i b) others
begins_front i b tokens others e = record {
  parts = begins i b;
  spelled = ap (λ x. t.BeginsWith ∷ x) e;
  means = refl;
  after = tt;
}

pub test_front : (a : Operand) (tokens : List Token) (found : Form) (others : List Token) →
    TailFront a tokens found others → FactorFront (t.Operand a ∷ tokens) found others
test_front a tokens found others f = record {
  parts = test a f.parts;
  spelled = ap (λ x. t.Operand a ∷ x) f.spelled;
  means = f.means;
  after = tt;
}

-- parentheses
pub group_front : (tokens : List Token) (found : Form) (others rest : List Token) → OrFront tokens found others →
    others ≡ t.Close ∷ rest → FactorFront (t.Open ∷ tokens) found rest
group_front tokens found others rest f e = record {
  parts = group f.parts;
  spelled = ap (λ x. t.Open ∷ x) (f.spelled ∙
      ap (or_text f.parts) e);
  means = f.means;
  after = tt;
}

only_group : (n : Factor) (more others : List Token) → t.Open ∷ more ≡ factor_text n others → (p : OrList) ×
    (more ≡ or_text p (t.Close ∷ others))
only_group (negated n) more others e = cc
only_group (group p) more others e = (p, cc)
only_group (exists i) more others e = cc
only_group (lacks i) more others e = cc
only_group (begins i b) more others e = cc
only_group (test b v) more others e = cc

group_stuck : (tokens : List Token) (left : ℕ) → OrStuck tokens left → FactorStuck (t.Open ∷ tokens) left
group_stuck tokens left f = record {
  front = t.Open ∷ f.front;
  back = f.back;
  whole = ap (λ x. t.Open ∷ x) f.whole;
  is_left = f.is_left;
  parts = group f.parts;
  missing = f.missing ++ t.Close ∷ [];
  begins = ap (λ x. t.Open ∷ x) (sym (append_assoc f.front f.missing (t.Close ∷ [])) ∙
      ap (λ x. x ++ t.Close ∷ []) f.begins ∙ or_text-append f.parts [] (t.Close ∷ []));
  none = λ part more others e q _. let r = only_group part (f.front ++ more) others q in
      f.none r.0 more (t.Close ∷ others) e r.1 (close_after others);
}

pub group_stops : (tokens : List Token) (stop : Stop) → Stops OrStuck tokens stop →
    Stops FactorStuck (t.Open ∷ tokens) stop
group_stops tokens s.Memory f = tt
group_stops tokens (s.Misfit left) f = group_stuck tokens left f

-- a condition is whole, and no parenthesis closes after it
close_none : (p : OrList) (back : List Token) → AfterOr back → next_of back ≢ Some t.Close →
    (part : Factor) (more others : List Token) → next_of more ≡ next_of back →
    t.Open ∷ (or_text p [] ++ more) ≡ factor_text part others → ⊥
close_none p back h k part more others e q =
    let r = only_group part (or_text p [] ++ more) others q in
    let u = or_unique p r.0 more (t.Close ∷ others) (
      (λ x. h.0 (sym e ∙ x)),
      (λ x. h.1 (sym e ∙ x)),
    ) (close_after others) (sym (or_text-append p [] more) ∙ r.1) in
    k (sym e ∙ ap next_of u.1)

pub group_close : (tokens : List Token) (found : Form) (others : List Token) → OrFront tokens found others →
    next_of others ≢ Some t.Close → FactorStuck (t.Open ∷ tokens) (length others)
group_close tokens found others f h = record {
  front = t.Open ∷ or_text f.parts [];
  back = others;
  whole = ap (λ x. t.Open ∷ x) (f.spelled ∙ sym (or_text-append f.parts [] others));
  is_left = refl;
  parts = group f.parts;
  missing = t.Close ∷ [];
  begins = ap (λ x. t.Open ∷ x) (or_text-append f.parts [] (t.Close ∷ []));
  none = λ part more rest e q _. close_none f.parts others f.after h part more rest e q;
}
