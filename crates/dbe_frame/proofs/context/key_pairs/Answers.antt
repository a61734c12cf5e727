use Rattle.std.proofs.Common.{ap}
use Rattle.std.specs.Prelude.{option_map}
use Rattle.dbe_values.specs.View.{view}
use Rattle.dbe_values.specs.KeyValues.{key_view}
use Rattle.dbe_frame.proofs.Computed.{partition_short, sort_short}
use Rattle.dbe_frame.proofs.context.key_pairs.Goals as goal

pub attribute_pair-requires-clause-value : goal.attribute_pair-requires-clause-value
attribute_pair-requires-clause-value c = partition_short c.args.schema.now (key_view c.args.key.now) c.requires.key
    c.is_normal_number.ensures

pub attribute_pair-requires-in-Some-Some-clause-value : goal.attribute_pair-requires-in-Some-Some-clause-value
attribute_pair-requires-in-Some-Some-clause-value c =
    sort_short c.args.schema.now (key_view c.args.key.now) c.in-Some-Some.sort (view c.in-Some-Some.value)
    c.requires.key c.in-Some-Some.is-0 (ap (option_map view) c.in-Some-Some.is-1)
    c.is_normal_number-in-Some-Some.ensures
