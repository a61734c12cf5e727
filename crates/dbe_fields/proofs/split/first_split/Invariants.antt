use Rattle.std.proofs.Common.{◌≡◌, drop, find, filter_map}
use Rattle.dbe_config.specs.Rules.{has_byte}
use Rattle.dbe_fields.specs.Compounds.{present}
use Rattle.dbe_fields.proofs.split.first_split.Given as goal

abbrev pub invariant-loop-entry : goal.invariant-loop-entry
invariant-loop-entry l =
    find (λ u. has_byte l.split u.1) (filter_map (present l.parts l.texts) (drop l.entry-index l.entries)) ≡ find
    (λ u. has_byte l.split u.1) (filter_map (present l.parts l.texts) l.entries)
