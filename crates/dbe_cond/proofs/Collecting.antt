-- The names and values of conditions, one after another.
use Rattle.std.proofs.Common.{◌≡◌, ℕ, ◌+◌, List, ◌∷◌, ◌++◌, Bool, ap, sym, ◌∙◌, append_assoc}
use Rattle.dbe_values.specs.declared.value.AttrValue.{AttrValue}
use Rattle.dbe_tokens.specs.declared.token.Token.{Token}
use Rattle.dbe_cond.specs.Condition.{condition_of, members_of}
use Rattle.dbe_cond.specs.Names.{names_of, names_of_all}
use Rattle.dbe_cond.specs.Values.{values_of, values_of_all}
use Rattle.dbe_cond.specs.Printed.{tokens_text, token_text, gap, one_if_name, one_if_value, has_gap_behind}
use Rattle.dbe_cond.specs.declared.cond.Cond.{Cond}

pub members_names_step : (old new whole : List (List ℕ)) (here rest : List Cond) (c : Cond) → here ≡ c ∷ rest →
    new ≡ old ++ names_of (condition_of c) → old ++ names_of_all (members_of here) ≡ whole →
    new ++ names_of_all (members_of rest) ≡ whole
members_names_step old new whole here rest c e n w =
    ap (λ x. x ++ names_of_all (members_of rest)) n ∙
    append_assoc old (names_of (condition_of c)) (names_of_all (members_of rest)) ∙
    ap (λ x. old ++ names_of_all (members_of x)) (sym e) ∙ w

pub members_values_step : (old new whole : List AttrValue) (here rest : List Cond) (c : Cond) → here ≡ c ∷ rest →
    new ≡ old ++ values_of (condition_of c) → old ++ values_of_all (members_of here) ≡ whole →
    new ++ values_of_all (members_of rest) ≡ whole
members_values_step old new whole here rest c e n w =
    ap (λ x. x ++ values_of_all (members_of rest)) n ∙
    append_assoc old (values_of (condition_of c)) (values_of_all (members_of rest)) ∙
    ap (λ x. old ++ values_of_all (members_of x)) (sym e) ∙ w

-- a token more
pub spell_step : (old mid new whole : List ℕ) (names values m v : ℕ) (behind after : Bool) (token : Token)
    (here rest : List Token) → here ≡ token ∷ rest → mid ≡ old ++ gap behind token →
    new ≡ mid ++ token_text names values token → m ≡ names + one_if_name token → v ≡ values + one_if_value token →
    after ≡ has_gap_behind token → old ++ tokens_text names values behind here ≡ whole →
    new ++ tokens_text m v after rest ≡ whole
spell_step old mid new whole names values m v behind after token here rest e g n p q b w =
    ap (λ x. new ++ tokens_text x v after rest) p ∙
    ap (λ x. new ++ tokens_text (names + one_if_name token) x after rest) q ∙
    ap (λ x. new ++ tokens_text (names + one_if_name token) (values + one_if_value token) x rest) b
    ∙ ap (λ x. x ++ tokens_text (names + one_if_name token) (values + one_if_value token) (has_gap_behind token) rest)
    (n ∙ ap (λ x. x ++ token_text names values token) g)
    ∙ append_assoc (old ++ gap behind token) (token_text names values token) (tokens_text (names + one_if_name token)
    (values + one_if_value token) (has_gap_behind token) rest)
    ∙ append_assoc old (gap behind token) (token_text names values token ++ tokens_text (names + one_if_name token)
    (values + one_if_value token) (has_gap_behind token) rest)
    ∙ ap (λ x. old ++ tokens_text names values behind x) (sym e) ∙ w
