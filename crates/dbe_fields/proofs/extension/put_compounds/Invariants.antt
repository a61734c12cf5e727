use Rattle.std.proofs.Common.{◌≡◌, map, drop, fold}
use Rattle.dbe_fields.specs.Plain.{plain}
use Rattle.dbe_fields.specs.Extended.{with_value}
use Rattle.dbe_fields.proofs.extension.put_compounds.Given as goal

abbrev pub invariant-loop-compound : goal.invariant-loop-compound
invariant-loop-compound l =
    fold (λ r name. with_value name (plain l.config name l.item) r) l.target
    (map (λ c. c.name) (drop l.compound-index l.compound-items))
    ≡ fold (λ r name. with_value name (plain l.config name l.item) r) l.fn.target (map (λ c. c.name) l.config.compounds)
