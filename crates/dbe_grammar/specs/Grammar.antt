-- Which tokens are a condition (this project's own grammar).
use Rattle.std.specs.Prelude.{◌≡◌, List, [], ◌∷◌}
use Rattle.dbe_tokens.specs.declared.token.Token.{Token}
use Rattle.dbe_tokens.specs.declared.token.Token.TheVariants as t
use Rattle.dbe_tokens.specs.declared.token.Op.{Op}
use Rattle.dbe_tokens.specs.declared.token.Name.{Name}
use Rattle.dbe_tokens.specs.declared.token.Operand.{Operand}
use Rattle.dbe_tokens.specs.declared.token.Operand.TheVariants as o
use Rattle.dbe_grammar.specs.Form.{Form, Forms}
use Rattle.dbe_grammar.specs.Form as form

-- One constructor for each way to form a part of a condition. A part is its tokens and what they mean;
-- nothing is said of how it is found.

-- after an operand: cmp operand / BETWEEN operand AND operand / IN "(" operand *( "," operand ) ")"
pub data Tail : Type 0 where
  compare : Op → Operand → Tail
  between : Operand → Operand → Tail
  within : Operand → List Operand → Tail

mutual
  -- cond = and *( OR and )
  pub data OrList : Type 0 where
    one_and : AndList → OrList
    or : AndList → OrList → OrList

  -- and = not *( AND not )
  pub data AndList : Type 0 where
    one_factor : Factor → AndList
    and : Factor → AndList → AndList

  -- not = NOT not / "(" cond ")" / attribute_exists "(" name ")" / attribute_not_exists "(" name ")"
  --     / begins_with "(" name "," operand ")" / test
  pub data Factor : Type 0 where
    negated : Factor → Factor
    group : OrList → Factor
    exists : Name → Factor
    lacks : Name → Factor
    begins : Name → Operand → Factor
    test : Operand → Tail → Factor

-- operands, each after a comma, and then other tokens
abbrev pub comma_text : List Operand → List Token → List Token
comma_text [] others = others
comma_text (a ∷ list) others = t.Comma ∷ t.Operand a ∷ comma_text list others

abbrev pub tail_text : Tail → List Token → List Token
tail_text (compare op right) others = t.Compare op ∷ t.Operand right ∷ others
tail_text (between low high) others = t.Between ∷ t.Operand low ∷ t.And ∷ t.Operand high ∷ others
tail_text (within a list) others = t.In ∷ t.Open ∷ t.Operand a ∷ comma_text list (t.Close ∷ others)

-- a name in parentheses
abbrev pub name_text : Name → List Token → List Token
name_text name others = t.Open ∷ t.Operand (o.Name name) ∷ t.Close ∷ others

-- a name and an operand in parentheses
abbrev pub pair_text : Name → Operand → List Token → List Token
pair_text name front others = t.Open ∷ t.Operand (o.Name name) ∷ t.Comma ∷ t.Operand front ∷ t.Close ∷ others

-- The tokens of a part, and then others.
abbrev mutual
  pub or_text : OrList → List Token → List Token
  or_text (one_and a) others = and_text a others
  or_text (or a p) others = and_text a (t.Or ∷ or_text p others)

  pub and_text : AndList → List Token → List Token
  and_text (one_factor n) others = factor_text n others
  and_text (and n a) others = factor_text n (t.And ∷ and_text a others)

  pub factor_text : Factor → List Token → List Token
  factor_text (negated n) others = t.Not ∷ factor_text n others
  factor_text (group p) others = t.Open ∷ or_text p (t.Close ∷ others)
  factor_text (exists name) others = t.Exists ∷ name_text name others
  factor_text (lacks name) others = t.NotExists ∷ name_text name others
  factor_text (begins name front) others = t.BeginsWith ∷ pair_text name front others
  factor_text (test a tail) others = t.Operand a ∷ tail_text tail others

abbrev pub tail_form : Operand → Tail → Form
tail_form a (compare op right) = form.compare a op right
tail_form a (between low high) = form.between a low high
tail_form a (within b list) = form.within a (b ∷ list)

-- The condition that a part is. Two members or more make one node, and parentheses make none.
abbrev mutual
  pub or_form : OrList → Form
  or_form (one_and a) = and_form a
  or_form (or a p) = form.or (form.some (and_form a) (or_members p))

  pub or_members : OrList → Forms
  or_members (one_and a) = form.some (and_form a) form.none
  or_members (or a p) = form.some (and_form a) (or_members p)

  pub and_form : AndList → Form
  and_form (one_factor n) = factor_form n
  and_form (and n a) = form.and (form.some (factor_form n) (and_members a))

  pub and_members : AndList → Forms
  and_members (one_factor n) = form.some (factor_form n) form.none
  and_members (and n a) = form.some (factor_form n) (and_members a)

  pub factor_form : Factor → Form
  factor_form (negated n) = form.not (factor_form n)
  factor_form (group p) = or_form p
  factor_form (exists name) = form.exists name
  factor_form (lacks name) = form.lacks name
  factor_form (begins name front) = form.begins name front
  factor_form (test a tail) = tail_form a tail

-- These tokens, all of them, are this condition. Nothing limits how deep it nests.
pub record IsCond (tokens : List Token) (found : Form) : Type 0 where
  pub parts : OrList
  pub text : tokens ≡ or_text parts []
  pub means : found ≡ or_form parts
