use Rattle.dbe_tokens.proofs.Cuts.{place_unique, cut_not_bad}
use Rattle.dbe_tokens.proofs.cutting.one_bad_place.Goals as goal

pub returns-clause-one : goal.returns-clause-one
returns-clause-one c = place_unique

pub returns-clause-none : goal.returns-clause-none
returns-clause-none c = cut_not_bad
