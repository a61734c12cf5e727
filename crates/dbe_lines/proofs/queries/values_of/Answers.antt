use Rattle.std.proofs.Common.{◌∙◌}
use Rattle.dbe_lines.proofs.Asked.{names_behind, order_step, values_step}
use Rattle.dbe_lines.proofs.queries.values_of.Goals as goal

pub push-requires : goal.push-requires
push-requires c =
    names_behind c.loop-placeholder.values c.args.map.now.entries _ _ (
      c.in-Some.placeholder.now,
      c.in-Some.value.now,
    ) _ c.into_iter-placeholder-iterator.ensures.into_iter_gives.5 c.in-Some.ensures.steps
    (c.in_ok-placeholder.ensures ∙ c.as_str.ensures.value) c.loop-placeholder.invariant.order

pub loop-placeholder-preserved : goal.loop-placeholder-preserved
loop-placeholder-preserved c = record {
  so_far = values_step c.loop-placeholder.values _ _ _ (c.in-Some.placeholder.now, c.in-Some.value.now) _ _ _
      c.in-Some.ensures.steps (c.in_ok-placeholder.ensures ∙ c.as_str.ensures.value) c.in-Ok.ensures.gives
      c.in_ok-push-in-Ok.ensures.ok c.loop-placeholder.invariant.so_far;
  order = order_step c.loop-placeholder.values _ _ _ (c.in-Some.placeholder.now, c.in-Some.value.now) _ _ _
      c.in-Some.ensures.steps (c.in_ok-placeholder.ensures ∙ c.as_str.ensures.value) c.in_ok-push-in-Ok.ensures.ok
      c.loop-placeholder.invariant.order;
}
