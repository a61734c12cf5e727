use Rattle.std.proofs.Common.{◌≡◌, [], drop, fold}
use Rattle.dbe_fields.specs.Plain.{plain}
use Rattle.dbe_fields.specs.Extended.{with_value}
use Rattle.dbe_fields.proofs.extension.values_of.Given as goal

abbrev pub invariant-loop-name : goal.invariant-loop-name
invariant-loop-name l =
    fold (λ r name. with_value name (plain l.config name l.item) r) l.target (drop l.name-index l.names)
    ≡ fold (λ r name. with_value name (plain l.config name l.item) r) [] l.names
