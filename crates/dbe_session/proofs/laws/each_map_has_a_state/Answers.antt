use Rattle.dbe_session.proofs.Maps.{nothing_stands, state_of_map}
use Rattle.dbe_session.proofs.laws.each_map_has_a_state.Goals as goal

pub returns-clause-empty : goal.returns-clause-empty
returns-clause-empty c = nothing_stands

pub returns-clause-some : goal.returns-clause-some
returns-clause-some c = state_of_map
