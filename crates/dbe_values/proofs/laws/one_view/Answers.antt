use Rattle.dbe_values.proofs.Unviewed.{attr_of-view, view-attr_of, attributes_of-entries_of}
use Rattle.dbe_values.proofs.laws.one_view.Goals as goal

pub returns-clause-value : goal.returns-clause-value
returns-clause-value c = attr_of-view

pub returns-clause-view : goal.returns-clause-view
returns-clause-view c = view-attr_of

pub returns-clause-attributes : goal.returns-clause-attributes
returns-clause-attributes c = attributes_of-entries_of
