use Rattle.dbe_grammar.proofs.Whole.{place_unique}
use Rattle.dbe_grammar.proofs.laws.one_place.Goals as goal

pub returns : goal.returns
returns c = place_unique
