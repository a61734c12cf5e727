-- A part of a condition at the front of tokens, or the place where none can be, as the steps of the parser answer.
use Rattle.std.specs.Prelude.{◌≡◌, ◌≢◌, ℕ, List, [], ◌∷◌, ◌++◌, length, Option, Some, None}
use Rattle.dbe_tokens.specs.declared.token.Token.{Token}
use Rattle.dbe_tokens.specs.declared.token.Token.TheVariants as t
use Rattle.dbe_tokens.specs.declared.token.Name.{Name}
use Rattle.dbe_tokens.specs.declared.token.Operand.{Operand}
use Rattle.dbe_grammar.specs.Form.{Form}
use Rattle.dbe_grammar.specs.Grammar.{OrList, AndList, Factor, Tail, tail_text, tail_form, name_text, pair_text}
use Rattle.dbe_grammar.specs.Grammar.{or_text, and_text, factor_text, or_form, and_form, factor_form}
use Rattle.dbe_grammar.specs.declared.fault.Stop.{Stop}
use Rattle.dbe_grammar.specs.declared.fault.Stop.TheVariants as s

abbrev pub next_of : List Token → Option Token
next_of [] = None
next_of (token ∷ tokens) = Some token

-- what may stand after a part that goes as far as it can
abbrev pub AfterAny : List Token → Type 0
AfterAny others = Unit {0}

abbrev pub AfterAnd : List Token → Type 0
AfterAnd others = next_of others ≢ Some t.And

abbrev pub AfterOr : List Token → Type 0
AfterOr others = (next_of others ≢ Some t.And) × (next_of others ≢ Some t.Or)

-- The tokens are a part, and then others.
pub record IsFront (Part : Type 0) (text : Part → List Token → List Token) (form : Part → Form) (After : List Token →
    Type 0) (tokens : List Token) (found : Form) (others : List Token) : Type 0 where
  pub parts : Part
  pub spelled : tokens ≡ text parts others
  pub means : found ≡ form parts
  pub after : After others

-- So many tokens are left where the first stands that fits no part. Those before it begin a part. With it, or with
-- the end in its place, they begin none, and no part with something after it is at their front.
pub record IsStuck (Part : Type 0) (text : Part → List Token → List Token) (After : List Token →
    Type 0) (tokens : List Token) (left : ℕ) : Type 0 where
  pub front : List Token
  pub back : List Token
  pub whole : tokens ≡ front ++ back
  pub is_left : left ≡ length back
  pub parts : Part
  pub missing : List Token
  pub begins : front ++ missing ≡ text parts []
  pub none : (part : Part) (more others : List Token) → next_of more ≡ next_of back →
      front ++ more ≡ text part others → After others → ⊥

abbrev pub Stops : (List Token → ℕ → Type 0) → List Token → Stop → Type 0
Stops Stuck tokens s.Memory = Unit {0}
Stops Stuck tokens (s.Misfit left) = Stuck tokens left

abbrev pub OrFront : List Token → Form → List Token → Type 0
OrFront = IsFront OrList or_text or_form AfterOr

abbrev pub AndFront : List Token → Form → List Token → Type 0
AndFront = IsFront AndList and_text and_form AfterAnd

abbrev pub FactorFront : List Token → Form → List Token → Type 0
FactorFront = IsFront Factor factor_text factor_form AfterAny

abbrev pub TailFront : Operand → List Token → Form → List Token → Type 0
TailFront a = IsFront Tail tail_text (tail_form a) AfterAny

abbrev pub OrStuck : List Token → ℕ → Type 0
OrStuck = IsStuck OrList or_text AfterOr

abbrev pub AndStuck : List Token → ℕ → Type 0
AndStuck = IsStuck AndList and_text AfterAnd

abbrev pub FactorStuck : List Token → ℕ → Type 0
FactorStuck = IsStuck Factor factor_text AfterAny

abbrev pub TailStuck : List Token → ℕ → Type 0
TailStuck = IsStuck Tail tail_text AfterAny

abbrev pub NameStuck : List Token → ℕ → Type 0
NameStuck = IsStuck Name name_text AfterAny

-- what stands in the parentheses of begins_with
pub data Pair : Type 0 where
  pair : Name → Operand → Pair

abbrev pub text_of_pair : Pair → List Token → List Token
text_of_pair (pair name front) others = pair_text name front others

abbrev pub PairStuck : List Token → ℕ → Type 0
PairStuck = IsStuck Pair text_of_pair AfterAny
