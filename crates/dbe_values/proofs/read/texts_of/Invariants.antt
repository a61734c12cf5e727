use Rattle.std.proofs.Common.{◌≡◌, ◌≤◌, [], length, drop, map, string_bytes}
use Rattle.serde_json.specs.View.{items_view}
use Rattle.dbe_values.specs.Reading.{elements_after, text_in}
use Rattle.std.specs.Str.{IsUtf8}
use Rattle.std.specs.List.{All}
use Rattle.dbe_values.proofs.read.texts_of.Given as goal

abbrev pub invariant-loop-item : goal.invariant-loop-item
invariant-loop-item l = record {
  so_far : elements_after text_in (map string_bytes l.texts.keys) (items_view (drop l.item-index l.items)) ≡
      elements_after text_in [] (items_view l.items);
  each : All IsUtf8 (map string_bytes l.texts.keys);
  some : l.item-index ≤ length l.texts.keys;
}
