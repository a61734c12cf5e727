-- The place where no part can be, for a part of any kind.
use Rattle.std.proofs.Common.{◌≡◌, ℕ, List, [], ◌∷◌, ◌++◌, length, Some, refl, ap, sym, ◌∙◌}
use Rattle.std.specs.Prelude.{◌≢◌}
use Rattle.dbe_tokens.specs.declared.token.Token.{Token}
use Rattle.dbe_tokens.specs.declared.token.Token.TheVariants as t
use Rattle.dbe_tokens.specs.declared.token.Name.{Name}
use Rattle.dbe_tokens.specs.declared.token.Name.TheVariants as name
use Rattle.dbe_tokens.specs.declared.token.Operand.{Operand}
use Rattle.dbe_tokens.specs.declared.token.Operand.TheVariants as o
use Rattle.dbe_grammar.specs.Grammar.{Factor, factor_text}
use Rattle.dbe_grammar.specs.declared.fault.Stop.{Stop}
use Rattle.dbe_grammar.specs.declared.fault.Stop.TheVariants as s
use Rattle.dbe_grammar.specs.Parts.{Stops, next_of, AfterAny, IsStuck, FactorStuck}

-- some name and some operand, to go on with
abbrev pub some_name : Name
some_name = name.Word (record { start = 0; end = 0 })

abbrev pub some_operand : Operand
some_operand = o.Name some_name

abbrev pub NoOperand : List Token → Type 0
NoOperand tokens = (a : Operand) → next_of tokens ≢ Some (t.Operand a)

abbrev pub NoName : List Token → Type 0
NoName tokens = (n : Name) → next_of tokens ≢ Some (t.Operand (o.Name n))

-- a place, from the front before it, a way to go on, and why the token there cannot
pub at_place : (Part : Type 0) (text : Part → List Token → List Token) (front back missing : List Token) (part : Part)
    → front ++ missing ≡ text part [] →
    ((other : Part) (more others : List Token) → next_of more ≡ next_of back → front ++ more ≡ text other others →
    ⊥) → IsStuck Part text AfterAny (front ++ back) (length back)
at_place Part text front back missing part begins none = record {
  front = front;
  back = back;
  whole = refl;
  is_left = refl;
  parts = part;
  missing = missing;
  begins = begins;
  none = λ other more others e q _. none other more others e q;
}

-- a fixed token and then a part is a factor
pub under : (Part : Type 0) (text : Part → List Token → List Token) (head : Token) (wrap : Part → Factor) →
    ((p : Part) (others : List Token) → factor_text (wrap p) others ≡ head ∷ text p others) →
    ((n : Factor) (more others : List Token) → head ∷ more ≡ factor_text n others → (p : Part) ×
    (more ≡ text p others)) →
    (tokens : List Token) (left : ℕ) → IsStuck Part text AfterAny tokens left → FactorStuck (head ∷ tokens) left
under Part text head wrap is only tokens left f = record {
  front = head ∷ f.front;
  back = f.back;
  whole = ap (λ x. head ∷ x) f.whole;
  is_left = f.is_left;
  parts = wrap f.parts;
  missing = f.missing;
  begins = ap (λ x. head ∷ x) f.begins ∙ sym (is f.parts []);
  none = λ n more others e q _. let r = only n (f.front ++ more) others q in f.none r.0 more others e r.1 tt;
}

pub stops_under : (Part : Type 0) (text : Part → List Token → List Token) (head : Token) (wrap : Part → Factor) →
    ((p : Part) (others : List Token) → factor_text (wrap p) others ≡ head ∷ text p others) →
    ((n : Factor) (more others : List Token) → head ∷ more ≡ factor_text n others → (p : Part) ×
    (more ≡ text p others)) →
    (tokens : List Token) (stop : Stop) → Stops (IsStuck Part text AfterAny) tokens stop →
    Stops FactorStuck (head ∷ tokens) stop
stops_under Part text head wrap is only tokens s.Memory f = tt
stops_under Part text head wrap is only tokens (s.Misfit left) f = under Part text head wrap is only tokens left f

-- the first of some tokens is not this one
pub not_next : (tokens rest : List Token) (token other : Token) → tokens ≡ token ∷ rest → token ≢ other →
    next_of tokens ≢ Some other
not_next tokens rest token other e h = λ q. h (let r : Some token ≡ Some other = ap next_of (sym e) ∙ q in cc)
