use Rattle.std.proofs.Common.{◌≡◌, ◌+◌, vec_len}
use Rattle.std.specs.Map.{keys_of}
use Rattle.std.specs.Vec.Iter.{into_iter_items, into_iter_len}
use Rattle.dbe_values.specs.Sets.{IsIncreasing}
use Rattle.dbe_cond.specs.Printed.{by_placeholder}
use Rattle.dbe_cond.proofs.Numbering.{numbered_on}
use Rattle.dbe_cond.proofs.numbered.by_placeholder.Given as goal

abbrev pub invariant-loop-x : goal.invariant-loop-x
invariant-loop-x g l = record {
  so_far : numbered_on l.mark l.number (into_iter_items l.x-iterator) l.entries.items ≡ by_placeholder l.mark
      l.fn.found.items;
  few : l.number + into_iter_len l.x-iterator ≡ vec_len l.fn.found;
  increasing : IsIncreasing (keys_of l.entries.items);
}
