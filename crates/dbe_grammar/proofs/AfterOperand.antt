-- What stands after an operand: what is read, and where none can be.
use Rattle.std.proofs.Common.{◌≡◌, List, [], ◌∷◌, ◌++◌, length, Some, refl, ap, sym, ◌∙◌, arith, inl, inr}
use Rattle.std.specs.Prelude.{◌≢◌, ◌⊎◌}
use Rattle.dbe_tokens.specs.declared.token.Token.{Token}
use Rattle.dbe_tokens.specs.declared.token.Token.TheVariants as t
use Rattle.dbe_tokens.specs.declared.token.Op.{Op}
use Rattle.dbe_tokens.specs.declared.token.Op.TheVariants as op
use Rattle.dbe_tokens.specs.declared.token.Operand.{Operand}
use Rattle.dbe_grammar.specs.Form as form
use Rattle.dbe_grammar.specs.Grammar.{Tail, compare, between, within, tail_text, comma_text}
use Rattle.dbe_grammar.specs.Parts.{next_of, TailFront, TailStuck}
use Rattle.dbe_grammar.proofs.Unique.{comma_text-append}
use Rattle.dbe_grammar.proofs.Places.{some_operand, NoOperand, at_place, not_next}

-- no tail begins here
none_here : (tokens : List Token) → ((c : Op) → next_of tokens ≢ Some (t.Compare c)) →
    next_of tokens ≢ Some t.Between → next_of tokens ≢ Some t.In →
    (part : Tail) (more others : List Token) → next_of more ≡ next_of tokens → more ≡ tail_text part others → ⊥
none_here tokens h k l (compare c a) more others e q = h c (sym e ∙ ap next_of q)
none_here tokens h k l (between low high) more others e q = k (sym e ∙ ap next_of q)
none_here tokens h k l (within a list) more others e q = l (sym e ∙ ap next_of q)

stuck_here : (tokens : List Token) → ((c : Op) → next_of tokens ≢ Some (t.Compare c)) →
    next_of tokens ≢ Some t.Between → next_of tokens ≢ Some t.In → TailStuck tokens (length tokens)
stuck_here tokens h k l = at_place Tail tail_text [] tokens (t.Compare op.Eq ∷ t.Operand some_operand ∷ [])
    (compare op.Eq some_operand) refl (none_here tokens h k l)

pub tail_end : (tokens : List Token) → length tokens ≡ 0 → TailStuck tokens 0
tail_end [] e = stuck_here [] (λ c q. cc) (λ q. cc) (λ q. cc)
tail_end (token ∷ tokens) e = absurd (omega arith)

pub tail_token : (tokens rest : List Token) (token : Token) → tokens ≡ token ∷ rest →
    ((c : Op) → token ≢ t.Compare c) → token ≢ t.Between → token ≢ t.In → TailStuck tokens (length tokens)
tail_token tokens rest token e h k l = stuck_here tokens (λ c. not_next tokens rest token (t.Compare c) e (h c))
    (not_next tokens rest token t.Between e k) (not_next tokens rest token t.In e l)

-- a comparison
pub compare_front : (a : Operand) (c : Op) (b : Operand) (tokens others : List Token) →
    tokens ≡ t.Operand b ∷ others → TailFront a (t.Compare c ∷ tokens) (form.compare a c b) others
compare_front a c b tokens others e = record {
  parts = compare c b;
  spelled = ap (λ x. t.Compare c ∷ x) e;
  means =
      refl;
  after = tt;
}

compare_none : (d : Op) (tokens : List Token) → NoOperand tokens → (part : Tail) (more others : List Token) →
    next_of more ≡ next_of tokens → t.Compare d ∷ more ≡ tail_text part others → ⊥
compare_none d tokens h (compare c a) more others e q = let r : more ≡ t.Operand a ∷ others = cc in
    h a (sym e ∙ ap next_of r)
compare_none d tokens h (between low high) more others e q = cc
compare_none d tokens h (within a list) more others e q = cc

pub compare_stuck : (c : Op) (tokens : List Token) → NoOperand tokens → TailStuck (t.Compare c ∷ tokens) (length tokens)
compare_stuck c tokens h = at_place Tail tail_text (t.Compare c ∷ []) tokens (t.Operand some_operand ∷ [])
    (compare c some_operand) refl (compare_none c tokens h)

-- BETWEEN
pub between_front : (a low high : Operand) (tokens rest more others : List Token) → tokens ≡ t.Operand low ∷ rest →
    rest ≡ t.And ∷ more → more ≡ t.Operand high ∷ others → TailFront a (t.Between ∷ tokens) (form.between a low high)
    others
between_front a low high tokens rest more others e q r = record {
  parts = between low high;
  spelled = cc;
  means =
      refl;
  after = tt;
}

low_none : (tokens : List Token) → NoOperand tokens → (part : Tail) (more others : List Token) →
    next_of more ≡ next_of tokens → t.Between ∷ more ≡ tail_text part others → ⊥
low_none tokens h (compare c a) more others e q = cc
low_none tokens h (between low high) more others e q = let r : more ≡ t.Operand low ∷ t.And ∷ t.Operand high ∷ others
    = cc in h low (sym e ∙ ap next_of r)
low_none tokens h (within a list) more others e q = cc

pub between_low : (tokens : List Token) → NoOperand tokens → TailStuck (t.Between ∷ tokens) (length tokens)
between_low tokens h = at_place Tail tail_text (t.Between ∷ []) tokens (t.Operand some_operand ∷ t.And ∷ t.Operand
    some_operand ∷ []) (between some_operand some_operand) refl (low_none tokens h)

and_none : (b : Operand) (tokens : List Token) → next_of tokens ≢ Some t.And →
    (part : Tail) (more others : List Token) → next_of more ≡ next_of tokens →
    t.Between ∷ t.Operand b ∷ more ≡ tail_text part others → ⊥
and_none b tokens h (compare c a) more others e q = cc
and_none b tokens h (between low high) more others e q = let r : more ≡ t.And ∷ t.Operand high ∷ others = cc in
    h (sym e ∙ ap next_of r)
and_none b tokens h (within a list) more others e q = cc

pub between_and : (b : Operand) (tokens rest : List Token) → tokens ≡ t.Operand b ∷ rest → next_of rest ≢ Some t.And →
    TailStuck (t.Between ∷ tokens) (length rest)
between_and b tokens rest w h =
    rw w (at_place Tail tail_text (t.Between ∷ t.Operand b ∷ []) rest (t.And ∷ t.Operand some_operand ∷ [])
    (between b some_operand) refl (and_none b rest h))

high_none : (b : Operand) (tokens : List Token) → NoOperand tokens → (part : Tail) (more others : List Token) →
    next_of more ≡ next_of tokens → t.Between ∷ t.Operand b ∷ t.And ∷ more ≡ tail_text part others → ⊥
high_none b tokens h (compare c a) more others e q = cc
high_none b tokens h (between low high) more others e q = let r : more ≡ t.Operand high ∷ others = cc in
    h high (sym e ∙ ap next_of r)
high_none b tokens h (within a list) more others e q = cc

pub between_high : (b : Operand) (tokens rest more : List Token) → tokens ≡ t.Operand b ∷ rest → rest ≡ t.And ∷ more →
    NoOperand more → TailStuck (t.Between ∷ tokens) (length more)
between_high b tokens rest more w x h = rw (w, x) (at_place Tail tail_text (t.Between ∷ t.Operand b ∷ t.And ∷ []) more
    (t.Operand some_operand ∷ []) (between b some_operand) refl (high_none b more h))

-- IN
open_none : (tokens : List Token) → next_of tokens ≢ Some t.Open → (part : Tail) (more others : List Token) →
    next_of more ≡ next_of tokens → t.In ∷ more ≡ tail_text part others → ⊥
open_none tokens h (compare c a) more others e q = cc
open_none tokens h (between low high) more others e q = cc
open_none tokens h (within a list) more others e q = let r : more ≡ t.Open ∷ t.Operand a ∷ comma_text list
    (t.Close ∷ others) = cc in h (sym e ∙ ap next_of r)

pub in_open : (tokens : List Token) → next_of tokens ≢ Some t.Open → TailStuck (t.In ∷ tokens) (length tokens)
in_open tokens h = at_place Tail tail_text (t.In ∷ []) tokens (t.Open ∷ t.Operand some_operand ∷ t.Close ∷ [])
    (within some_operand []) refl (open_none tokens h)

first_none : (tokens : List Token) → NoOperand tokens → (part : Tail) (more others : List Token) →
    next_of more ≡ next_of tokens → t.In ∷ t.Open ∷ more ≡ tail_text part others → ⊥
first_none tokens h (compare c a) more others e q = cc
first_none tokens h (between low high) more others e q = cc
first_none tokens h (within a list) more others e q = let r : more ≡ t.Operand a ∷ comma_text list (t.Close ∷ others)
    = cc in h a (sym e ∙ ap next_of r)

pub in_first : (tokens rest : List Token) → tokens ≡ t.Open ∷ rest → NoOperand rest →
    TailStuck (t.In ∷ tokens) (length rest)
in_first tokens rest w h =
    rw w (at_place Tail tail_text (t.In ∷ t.Open ∷ []) rest (t.Operand some_operand ∷ t.Close ∷ [])
    (within some_operand []) refl (first_none rest h))

-- after some operands comes a closing parenthesis, or a comma and an operand
abbrev GoesOn : List Token → Type 0
GoesOn more = (next_of more ≡ Some t.Close) ⊎ ((a : Operand) × (rest : List Token) ×
    (more ≡ t.Comma ∷ t.Operand a ∷ rest))

goes_on : (m n : List Operand) (more others : List Token) → comma_text m more ≡ comma_text n (t.Close ∷ others) →
    GoesOn more
goes_on [] [] more others e = inl (ap next_of e)
goes_on [] (b ∷ n) more others e = inr (b, comma_text n (t.Close ∷ others), e)
goes_on (a ∷ m) [] more others e = absurd (let r : t.Comma ∷ t.Operand a ∷ comma_text m more ≡ t.Close ∷ others = e in
    cc)
goes_on (a ∷ m) (b ∷ n) more others e = goes_on m n more others (cc)

list_none : (b : Operand) (m : List Operand) (more : List Token) → (GoesOn more → ⊥) →
    (part : Tail) (others : List Token) → t.In ∷ t.Open ∷ t.Operand b ∷ comma_text m more ≡ tail_text part others → ⊥
list_none b m more h (compare c a) others q = cc
list_none b m more h (between low high) others q = cc
list_none b m more h (within a list) others q = h (goes_on m list more others (cc))

no_next : (back more : List Token) → next_of back ≢ Some t.Comma → next_of back ≢ Some t.Close →
    next_of more ≡ next_of back → GoesOn more → ⊥
no_next back more h k e goes = elim goes [
  | inl r ↦ k (sym e ∙ r)
  | inr r ↦ h (sym e ∙ ap next_of r.2)
]

no_member : (back more : List Token) → NoOperand back → next_of more ≡ next_of back → GoesOn (t.Comma ∷ more) → ⊥
no_member back more h e goes = elim goes [
  | inl r ↦ cc
  | inr r ↦ h r.0 (let q : more ≡ t.Operand r.0 ∷ r.1 = cc (r.2) in sym e ∙ ap next_of q)
]

-- the members that have been read
pub record ListSoFar (tokens : List Token) (list : List Operand) (rest : List Token) : Type 0 where
  pub first : Operand
  pub more : List Operand
  pub are : list ≡ first ∷ more
  pub spelled : tokens ≡ t.Open ∷ t.Operand first ∷ comma_text more rest

pub list_start : (tokens opened rest : List Token) (a : Operand) → tokens ≡ t.Open ∷ opened →
    opened ≡ t.Operand a ∷ rest → ListSoFar tokens (a ∷ []) rest
list_start tokens opened rest a e q = record { first = a; more = []; are = refl; spelled = cc }

comma_text-last : (list : List Operand) (a : Operand) (k : List Token) →
    comma_text (list ++ a ∷ []) k ≡ comma_text list (t.Comma ∷ t.Operand a ∷ k)
comma_text-last [] a k = refl
comma_text-last (b ∷ list) a k = ap (λ x. t.Comma ∷ t.Operand b ∷ x) (comma_text-last list a k)

pub list_more : (tokens : List Token) (list : List Operand) (rest next others : List Token) (a : Operand) →
    ListSoFar tokens list rest → rest ≡ t.Comma ∷ next → next ≡ t.Operand a ∷ others →
    ListSoFar tokens (list ++ a ∷ []) others
list_more tokens list rest next others a f e q = record {
  first = f.first;
  more = f.more ++ a ∷ [];
  are = ap (λ x. x ++ a ∷ []) f.are;
  spelled = f.spelled ∙ ap (λ x. t.Open ∷ t.Operand f.first ∷ comma_text f.more x) (e ∙ ap (λ x. t.Comma ∷ x) q) ∙
      ap (λ x. t.Open ∷ t.Operand f.first ∷ x) (sym (comma_text-last f.more a others));
}

pub in_front : (a : Operand) (tokens : List Token) (list : List Operand) (rest others : List Token) →
    ListSoFar tokens list rest → rest ≡ t.Close ∷ others → TailFront a (t.In ∷ tokens) (form.within a list) others
in_front a tokens list rest others f e = record {
  parts = within f.first f.more;
  spelled = ap (λ x. t.In ∷ x) f.spelled ∙ ap (λ x. t.In ∷ t.Open ∷ t.Operand f.first ∷ comma_text f.more x) e;
  means = ap (form.within a) f.are;
  after = tt;
}

pub in_next : (tokens : List Token) (list : List Operand) (rest : List Token) → ListSoFar tokens list rest →
    next_of rest ≢ Some t.Comma → next_of rest ≢ Some t.Close → TailStuck (t.In ∷ tokens) (length rest)
in_next tokens list rest f h k = record {
  front = t.In ∷ t.Open ∷ t.Operand f.first ∷ comma_text f.more [];
  back = rest;
  whole = ap (λ x. t.In ∷ x) f.spelled ∙
      ap (λ x. t.In ∷ t.Open ∷ t.Operand f.first ∷ x) (sym (comma_text-append f.more [] rest));
  is_left = refl;
  parts = within f.first f.more;
  missing = t.Close ∷ [];
  begins = ap (λ x. t.In ∷ t.Open ∷ t.Operand f.first ∷ x) (comma_text-append f.more [] (t.Close ∷ []));
  none = λ part more others e q _. list_none f.first f.more more (no_next rest more h k e) part others
      (ap (λ x. t.In ∷ t.Open ∷ t.Operand f.first ∷ x) (sym (comma_text-append f.more [] more)) ∙ q);
}

pub in_member : (tokens : List Token) (list : List Operand) (rest next : List Token) → ListSoFar tokens list rest →
    rest ≡ t.Comma ∷ next → NoOperand next → TailStuck (t.In ∷ tokens) (length next)
in_member tokens list rest next f w h = record {
  front = t.In ∷ t.Open ∷ t.Operand f.first ∷ comma_text f.more (t.Comma ∷ []);
  back = next;
  whole = ap (λ x. t.In ∷ x) f.spelled ∙ ap (λ x. t.In ∷ t.Open ∷ t.Operand f.first ∷ comma_text f.more x) w ∙
      ap (λ x. t.In ∷ t.Open ∷ t.Operand f.first ∷ x) (sym (comma_text-append f.more (t.Comma ∷ []) next));
  is_left = refl;
  parts = within f.first (f.more ++ some_operand ∷ []);
  missing = t.Operand some_operand ∷ t.Close ∷ [];
  begins = ap (λ x. t.In ∷ t.Open ∷ t.Operand f.first ∷ x) (comma_text-append f.more (t.Comma ∷ [])
      (t.Operand some_operand ∷ t.Close ∷ []) ∙ sym (comma_text-last f.more some_operand (t.Close ∷ [])));
  none = λ part more others e q _. list_none f.first f.more (t.Comma ∷ more) (no_member next more h e) part others
      (ap (λ x. t.In ∷ t.Open ∷ t.Operand f.first ∷ x) (sym (comma_text-append f.more (t.Comma ∷ []) more)) ∙ q);
}
