use Rattle.dbe_grammar.proofs.AfterOperand.{tail_end, tail_token}
use Rattle.dbe_grammar.proofs.tails.tail.Goals as goal

pub returns-in_default-clause-stop : goal.returns-in_default-clause-stop
returns-in_default-clause-stop c = tail_end _ c.in_default.ensures.cases

pub returns-in_default-token : goal.returns-in_default-token
returns-in_default-token c = record {
  front = tt;
  shorter = tt;
  stop = tail_token _ c.in-Some.rest.now c.in-Some.token.now c.in-Some.ensures.cases.0 c.in_default-token.not-Compare
      c.in_default-token.not-Between c.in_default-token.not-In;
}
