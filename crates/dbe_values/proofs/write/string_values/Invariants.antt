use Rattle.std.proofs.Common.{◌≡◌, drop}
use Rattle.dbe_values.specs.Writing.{strings}
use Rattle.dbe_values.proofs.Members.{items_onto}
use Rattle.dbe_values.proofs.write.string_values.Given as goal

abbrev pub invariant-loop-text : goal.invariant-loop-text
invariant-loop-text l = items_onto l.out.items (strings (drop l.text-index l.texts)) ≡ strings l.texts
