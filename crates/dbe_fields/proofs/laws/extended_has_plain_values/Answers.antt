use Rattle.dbe_fields.proofs.Values.{value-extended}
use Rattle.dbe_fields.proofs.laws.extended_has_plain_values.Goals as goal

pub returns : goal.returns
returns c = value-extended
