use Rattle.std.proofs.Common.{◌≡◌, drop, find, bytes_eq}
use Rattle.dbe_fields.proofs.compounds.first_named.Given as goal

abbrev pub invariant-loop-compound : goal.invariant-loop-compound
invariant-loop-compound l = find (λ c. bytes_eq l.name c.name) (drop l.compound-index l.compounds) ≡ find
    (λ c. bytes_eq l.name c.name) l.compounds
