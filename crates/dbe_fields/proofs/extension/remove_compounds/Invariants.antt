use Rattle.std.proofs.Common.{◌≡◌, map, drop}
use Rattle.dbe_fields.proofs.Removal.{unnamed}
use Rattle.dbe_fields.proofs.extension.remove_compounds.Given as goal

abbrev pub invariant-loop-compound : goal.invariant-loop-compound
invariant-loop-compound l = unnamed (map (λ c. c.name) (drop l.compound-index l.compounds)) l.target ≡ unnamed
    (map (λ c. c.name) l.compounds) l.fn.target
