use Rattle.std.proofs.Common.{◌≡◌, drop, filter_map}
use Rattle.std.specs.Prelude.{slice_get}
use Rattle.dbe_fields.specs.Split.{split_in}
use Rattle.dbe_fields.proofs.split.split_fault.Given as goal

abbrev pub invariant-loop-compound : goal.invariant-loop-compound
invariant-loop-compound l = slice_get (filter_map (split_in l.config l.item) (drop l.compound-index l.compound-items))
    0 ≡ slice_get (filter_map (split_in l.config l.item) l.config.compounds) 0
