use Rattle.std.proofs.Common.{rules}
use denote.Param.Weighed.{at_most}
use Rattle.dbe_cond.specs.Placeholders.{is_known}
use Rattle.dbe_cond.proofs.Resolving.{member_passes, resolved_more}
use Rattle.dbe_cond.proofs.resolve.+resolve.Goals as goal

pub resolve_all-resolve-requires : goal.resolve_all-resolve-requires
resolve_all-resolve-requires t c = (
  search (rules, at_most),
  member_passes (is_known c.args.text.now c.args.names.now c.args.values.now)
      c.args.trees.now c.loop-tree.tree-index c.tree-item.result c.loop-tree-test.true c.tree-item.is c.requires,
)

pub resolve_all-loop-tree-preserved : goal.resolve_all-loop-tree-preserved
resolve_all-loop-tree-preserved t c =
    resolved_more c.args.text.now c.args.names.now c.args.values.now c.loop-tree.conds c.push.new.self
    c.in_ok-resolve.field-0 c.args.trees.now c.loop-tree.tree-index c.tree-item.result c.loop-tree-test.true
    c.tree-item.is c.in_ok-push.ensures.ok c.in_ok-resolve.ensures c.loop-tree.invariant
