-- What the grammar gives is lawful.
use Rattle.std.proofs.Common.{List, sym, subst}
use Rattle.dbe_tokens.specs.declared.token.Token.{Token}
use Rattle.dbe_tokens.specs.declared.token.Operand.{Operand}
use Rattle.dbe_grammar.specs.Form.{Form, some, IsLawful, AreLawful, HaveTwo}
use Rattle.dbe_grammar.specs.Grammar.{OrList, one_and, or, AndList, one_factor, and, Factor, negated, group, exists}
use Rattle.dbe_grammar.specs.Grammar.{lacks, begins, test, Tail, compare, between, within, tail_form, or_form}
use Rattle.dbe_grammar.specs.Grammar.{or_members, and_form, and_members, factor_form, IsCond}

and_two : (f : Form) (a : AndList) → HaveTwo (some f (and_members a))
and_two f (one_factor n) = tt
and_two f (and n a) = tt

or_two : (f : Form) (p : OrList) → HaveTwo (some f (or_members p))
or_two f (one_and a) = tt
or_two f (or a p) = tt

tail_lawful : (a : Operand) (tail : Tail) → IsLawful (tail_form a tail)
tail_lawful a (compare op b) = tt
tail_lawful a (between low high) = tt
tail_lawful a (within b list) = λ q. cc

mutual
  or_lawful : (p : OrList) → IsLawful (or_form p)
  or_lawful (one_and a) = and_lawful a
  or_lawful (or a p) = (or_two (and_form a) p, (and_lawful a, or_members_lawful p))

  or_members_lawful : (p : OrList) → AreLawful (or_members p)
  or_members_lawful (one_and a) = (and_lawful a, tt)
  or_members_lawful (or a p) = (and_lawful a, or_members_lawful p)

  and_lawful : (a : AndList) → IsLawful (and_form a)
  and_lawful (one_factor n) = factor_lawful n
  and_lawful (and n a) = (and_two (factor_form n) a, (factor_lawful n, and_members_lawful a))

  and_members_lawful : (a : AndList) → AreLawful (and_members a)
  and_members_lawful (one_factor n) = (factor_lawful n, tt)
  and_members_lawful (and n a) = (factor_lawful n, and_members_lawful a)

  factor_lawful : (n : Factor) → IsLawful (factor_form n)
  factor_lawful (negated n) = factor_lawful n
  factor_lawful (group p) = or_lawful p
  factor_lawful (exists name) = tt
  factor_lawful (lacks name) = tt
  factor_lawful (begins name front) = tt
  factor_lawful (test a tail) = tail_lawful a tail

pub cond_lawful : (tokens : List Token) (f : Form) → IsCond tokens f → IsLawful f
cond_lawful tokens f is = subst IsLawful (sym is.means) (or_lawful is.parts)
