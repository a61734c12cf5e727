use Rattle.std.proofs.Common.{◌≡◌, drop, find}
use Rattle.dbe_fields.specs.Compounds.{is_usable}
use Rattle.dbe_fields.proofs.compounds.first_usable.Given as goal

abbrev pub invariant-loop-constructor : goal.invariant-loop-constructor
invariant-loop-constructor l = find (is_usable l.parts l.texts) (drop l.constructor-index l.constructors) ≡ find
    (is_usable l.parts l.texts) l.constructors
