use Rattle.std.proofs.Common.{◌≡◌, ◌++◌, map, string_bytes}
use Rattle.dbe_values.proofs.place.ordered_texts.Given as goal

abbrev pub invariant-loop-text : goal.invariant-loop-text
invariant-loop-text l = l.ordered.items ++ map string_bytes l.text-iterator ≡ map string_bytes l.fn.texts.keys
