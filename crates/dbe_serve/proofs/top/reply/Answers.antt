use Rattle.std.proofs.Common.{refl}
use Rattle.dbe_serve.proofs.top.reply.Goals as goal

pub returns-in-Err-Table-clause-err : goal.returns-in-Err-Table-clause-err
returns-in-Err-Table-clause-err g c = λ e state is. record {
  unanswered = c.in-Err-Table.ensures.err e state is;
  same = refl;
}

pub returns-in-Err-Dice-clause-err : goal.returns-in-Err-Dice-clause-err
returns-in-Err-Dice-clause-err g c = λ e state is. record {
  unanswered = c.in-Err-Dice.ensures.err e state is;
  same = refl;
}

pub returns-clause-err : goal.returns-clause-err
returns-clause-err g c = λ e state is. record { unanswered = c.in-Err-Memory.ensures.err e state is; same = refl }
