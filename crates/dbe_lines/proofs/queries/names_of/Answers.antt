use Rattle.std.proofs.Common.{◌∙◌, ap, sym}
use Rattle.dbe_values.specs.Attributes.{is_name}
use Rattle.dbe_lines.proofs.Asked.{names_behind, order_step, names_step}
use Rattle.dbe_lines.proofs.queries.names_of.Goals as goal

pub push-requires : goal.push-requires
push-requires c =
    names_behind c.loop-placeholder.names c.args.map.now.entries _ _ (
      c.in-Some.placeholder.now,
      c.in-Some.value.now,
    ) _ c.into_iter-placeholder-iterator.ensures.into_iter_gives.5 c.in-Some.ensures.steps
    (c.in_ok-placeholder.ensures ∙ c.as_str.ensures.value) c.loop-placeholder.invariant.order

pub loop-placeholder-preserved : goal.loop-placeholder-preserved
loop-placeholder-preserved c = record {
  so_far = names_step c.loop-placeholder.names _ _ _ (c.in-Some.placeholder.now, c.in-Some.value.now) _ _ _
      c.in-Some.ensures.steps (c.in_ok-placeholder.ensures ∙ c.as_str.ensures.value) (c.in_ok-copy_of.ensures ∙
      c.text_of-name.ensures) (ap is_name c.in_ok-copy_of.ensures ∙ sym c.is_name.ensures ∙
      c.if-not-is_name.false) c.in_ok-push.ensures.ok c.loop-placeholder.invariant.so_far;
  order = order_step c.loop-placeholder.names _ _ _ (c.in-Some.placeholder.now, c.in-Some.value.now) _ _ _
      c.in-Some.ensures.steps (c.in_ok-placeholder.ensures ∙ c.as_str.ensures.value) c.in_ok-push.ensures.ok
      c.loop-placeholder.invariant.order;
}
