use Rattle.std.proofs.Common.{◌≡◌, ◌≤◌, [], length, drop, map, vec_items}
use Rattle.serde_json.specs.View.{items_view}
use Rattle.dbe_values.specs.Reading.{elements_after, binary_in}
use Rattle.dbe_values.specs.Lawful.{AreBytes}
use Rattle.std.specs.List.{All}
use Rattle.dbe_values.proofs.read.binaries_of.Given as goal

abbrev pub invariant-loop-item : goal.invariant-loop-item
invariant-loop-item l = record {
  so_far : elements_after binary_in (map vec_items l.binaries.keys) (items_view (drop l.item-index l.items)) ≡
      elements_after binary_in [] (items_view l.items);
  each : All AreBytes (map vec_items l.binaries.keys);
  some : l.item-index ≤ length l.binaries.keys;
}
