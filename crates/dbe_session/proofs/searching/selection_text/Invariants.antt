use Rattle.std.proofs.Common.{◌≡◌, ◌++◌, ◌+◌, ◌≤◌, drop, filter, length}
use Rattle.std.specs.List.{flat_map}
use Rattle.dbe_cond.specs.Condition.{condition_of}
use Rattle.dbe_session.specs.Reply.{selects}
use Rattle.dbe_lines.specs.Texts.{item_text}
use Rattle.dbe_session.proofs.searching.selection_text.Given as goal

abbrev pub invariant-loop-item : goal.invariant-loop-item
invariant-loop-item l = record {
  text : l.text.items ++ flat_map item_text (filter (selects l.config (condition_of l.cond))
      (drop l.item-index l.found)) ≡ flat_map item_text (filter (selects l.config (condition_of l.cond)) l.found);
  count : l.count + length (filter (selects l.config (condition_of l.cond)) (drop l.item-index l.found)) ≡ length
      (filter (selects l.config (condition_of l.cond)) l.found);
  few : l.count ≤ l.item-index;
}
