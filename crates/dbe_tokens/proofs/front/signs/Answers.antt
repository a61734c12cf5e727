use Rattle.dbe_tokens.proofs.Fronts.{two_front}
use Rattle.dbe_tokens.proofs.front.signs.Goals as goal

pub returns-in-Some-two_signs-clause-some : goal.returns-in-Some-two_signs-clause-some
returns-in-Some-two_signs-clause-some c = two_front c.args.first c.in-Some.second.now c.args.others.now
    c.in-Some.back.now c.in-Some-two_signs.token c.in-Some.ensures.cases.0 c.in-Some-two_signs.ensures
