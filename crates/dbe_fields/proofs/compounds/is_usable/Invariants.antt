use Rattle.std.proofs.Common.{◌≡◌, drop}
use Rattle.std.specs.List.{list_all}
use Rattle.dbe_fields.specs.Compounds.{is_satisfied}
use Rattle.dbe_fields.proofs.compounds.is_usable.Given as goal

abbrev pub invariant-loop-entry : goal.invariant-loop-entry
invariant-loop-entry l = list_all (is_satisfied l.parts l.texts) (drop l.entry-index l.entries) ≡ list_all
    (is_satisfied l.parts l.texts) l.entries
