use Rattle.std.proofs.Common.{◌≡◌, ◌+◌, ◌≤◌, drop, sum_by}
use Rattle.dbe_item.specs.Acceptance.{attribute_size}
use Rattle.dbe_item.proofs.acceptance.is_large.Given as goal

abbrev pub invariant-loop-i : goal.invariant-loop-i
invariant-loop-i l = record {
  sum : l.size + sum_by attribute_size (drop l.i l.item) ≡ sum_by attribute_size l.item;
  small : l.size ≤ 409600;
}
