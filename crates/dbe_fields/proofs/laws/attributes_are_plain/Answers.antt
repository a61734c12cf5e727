use Rattle.dbe_fields.proofs.Values.{plain-attribute}
use Rattle.dbe_fields.proofs.laws.attributes_are_plain.Goals as goal

pub returns : goal.returns
returns c = λ s row name. plain-attribute s name row
