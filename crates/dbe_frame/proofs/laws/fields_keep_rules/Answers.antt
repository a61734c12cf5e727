use Rattle.dbe_frame.proofs.Headers.{header_again, header_fields}
use Rattle.dbe_frame.proofs.laws.fields_keep_rules.Goals as goal

pub returns-clause-some : goal.returns-clause-some
returns-clause-some c = header_again

pub returns-clause-one : goal.returns-clause-one
returns-clause-one c = header_fields
