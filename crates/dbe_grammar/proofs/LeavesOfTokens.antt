-- The names and placeholders of a condition are among its tokens.
use Rattle.std.proofs.Common.{◌≡◌, Bool, true, List, [], ◌∷◌, refl, ap, sym, ◌∙◌}
use Rattle.std.specs.Prelude.{◌&&◌}
use Rattle.std.specs.List.{list_all}
use Rattle.std.proofs.lemmas.Bool.{and_from, and_parts}
use Rattle.dbe_tokens.specs.declared.token.Token.{Token}
use Rattle.dbe_tokens.specs.declared.token.Token.TheVariants as t
use Rattle.dbe_tokens.specs.declared.token.Operand.{Operand}
use Rattle.dbe_tokens.specs.declared.token.Operand.TheVariants as o
use Rattle.dbe_grammar.specs.Form.{Form}
use Rattle.dbe_grammar.specs.Grammar.{OrList, one_and, or, AndList, one_factor, and, Factor, negated, group, exists}
use Rattle.dbe_grammar.specs.Grammar.{lacks, begins, test, Tail, compare, between, within, tail_text, tail_form}
use Rattle.dbe_grammar.specs.Grammar.{comma_text, or_text, and_text, factor_text, or_form, or_members, and_form}
use Rattle.dbe_grammar.specs.Grammar.{and_members, factor_form, IsCond}
use Rattle.dbe_grammar.specs.Leaves.{token_passes, form_passes, forms_pass}

abbrev Pass : (Operand → Bool) → List Token → Type 0
Pass p tokens = list_all (token_passes p) tokens ≡ true

head : (b c : Bool) → (b && c) ≡ true → b ≡ true
head b c h = (and_parts b c h).0

rest : (b c : Bool) → (b && c) ≡ true → c ≡ true
rest b c h = (and_parts b c h).1

comma_passes : (p : Operand → Bool) (list : List Operand) (k : List Token) → Pass p (comma_text list k) →
    (list_all p list ≡ true) × Pass p k
comma_passes p [] k h = (refl, h)
comma_passes p (a ∷ list) k h =
    let r = and_parts (p a) (list_all (token_passes p) (comma_text list k)) h in
    let s = comma_passes p list k r.1 in
    (and_from (p a) (list_all p list) r.0 s.0, s.1)

tail_passes : (p : Operand → Bool) (a : Operand) (tail : Tail) (k : List Token) → p a ≡ true →
    Pass p (tail_text tail k) → (form_passes p (tail_form a tail) ≡ true) × Pass p k
tail_passes p a (compare op b) k e h = let r = and_parts (p b) (list_all (token_passes p) k) h in
    (and_from (p a) (p b) e r.0, r.1)
tail_passes p a (between low high) k e h =
    let r = and_parts (p low) (p high && list_all (token_passes p) k) h in
    let s = and_parts (p high) (list_all (token_passes p) k) r.1 in
    (and_from (p a && p low) (p high) (and_from (p a) (p low) e r.0) s.0, s.1)
tail_passes p a (within b list) k e h =
    let r = and_parts (p b) (list_all (token_passes p) (comma_text list (t.Close ∷ k))) h in
    let s = comma_passes p list (t.Close ∷ k) r.1 in
    (and_from (p a) (p b && list_all p list) e (and_from (p b) (list_all p list) r.0 s.0), s.1)

mutual
  or_passes : (p : Operand → Bool) (q : OrList) (k : List Token) → Pass p (or_text q k) →
      (form_passes p (or_form q) ≡ true) × Pass p k
  or_passes p (one_and a) k h = and_passes p a k h
  or_passes p (or a q) k h =
      let r = and_passes p a (t.Or ∷ or_text q k) h in
      let s = or_members_pass p q k r.1 in
      (and_from (form_passes p (and_form a)) (forms_pass p (or_members q)) r.0 s.0, s.1)

  or_members_pass : (p : Operand → Bool) (q : OrList) (k : List Token) → Pass p (or_text q k) →
      (forms_pass p (or_members q) ≡ true) × Pass p k
  or_members_pass p (one_and a) k h = let r = and_passes p a k h in
      (and_from (form_passes p (and_form a)) true r.0 refl, r.1)
  or_members_pass p (or a q) k h =
      let r = and_passes p a (t.Or ∷ or_text q k) h in
      let s = or_members_pass p q k r.1 in
      (and_from (form_passes p (and_form a)) (forms_pass p (or_members q)) r.0 s.0, s.1)

  and_passes : (p : Operand → Bool) (a : AndList) (k : List Token) → Pass p (and_text a k) →
      (form_passes p (and_form a) ≡ true) × Pass p k
  and_passes p (one_factor n) k h = factor_passes p n k h
  and_passes p (and n a) k h =
      let r = factor_passes p n (t.And ∷ and_text a k) h in
      let s = and_members_pass p a k r.1 in
      (and_from (form_passes p (factor_form n)) (forms_pass p (and_members a)) r.0 s.0, s.1)

  and_members_pass : (p : Operand → Bool) (a : AndList) (k : List Token) → Pass p (and_text a k) →
      (forms_pass p (and_members a) ≡ true) × Pass p k
  and_members_pass p (one_factor n) k h = let r = factor_passes p n k h in
      (and_from (form_passes p (factor_form n)) true r.0 refl, r.1)
  and_members_pass p (and n a) k h =
      let r = factor_passes p n (t.And ∷ and_text a k) h in
      let s = and_members_pass p a k r.1 in
      (and_from (form_passes p (factor_form n)) (forms_pass p (and_members a)) r.0 s.0, s.1)

  factor_passes : (p : Operand → Bool) (n : Factor) (k : List Token) → Pass p (factor_text n k) →
      (form_passes p (factor_form n) ≡ true) × Pass p k
  factor_passes p (negated n) k h = factor_passes p n k h
  factor_passes p (group q) k h = or_passes p q (t.Close ∷ k) h
  factor_passes p (exists i) k h = and_parts (p (o.Name i)) (list_all (token_passes p) k) h
  factor_passes p (lacks i) k h = and_parts (p (o.Name i)) (list_all (token_passes p) k) h
  factor_passes p (begins i b) k h =
      let r = and_parts (p (o.Name i)) (p b && list_all (token_passes p) k) h in
      let s = and_parts (p b) (list_all (token_passes p) k) r.1 in
      (and_from (p (o.Name i)) (p b) r.0 s.0, s.1)
  factor_passes p (test a tail) k h = let r = and_parts (p a) (list_all (token_passes p) (tail_text tail k)) h in
      tail_passes p a tail k r.0 r.1

pub cond_passes : (p : Operand → Bool) (tokens : List Token) (f : Form) → IsCond tokens f →
    list_all (token_passes p) tokens ≡ true → form_passes p f ≡ true
cond_passes p tokens f is h =
    let r = or_passes p is.parts [] (sym (ap (list_all (token_passes p)) is.text) ∙ h) in
    ap (form_passes p) is.means ∙ r.0
