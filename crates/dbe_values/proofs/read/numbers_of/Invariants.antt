use Rattle.std.proofs.Common.{◌≡◌, ◌≤◌, [], length, drop, map, string_bytes}
use Rattle.serde_json.specs.View.{items_view}
use Rattle.dbe_values.specs.Reading.{elements_after, number_text_in}
use Rattle.dbe_values.specs.Sets.{IsNumberText}
use Rattle.std.specs.List.{All}
use Rattle.dbe_values.proofs.read.numbers_of.Given as goal

abbrev pub invariant-loop-item : goal.invariant-loop-item
invariant-loop-item l = record {
  so_far : elements_after number_text_in (map string_bytes l.texts.keys) (items_view (drop l.item-index l.items)) ≡
      elements_after number_text_in [] (items_view l.items);
  each : All IsNumberText (map string_bytes l.texts.keys);
  some : l.item-index ≤ length l.texts.keys;
}
