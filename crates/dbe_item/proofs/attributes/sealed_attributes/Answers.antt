use Rattle.std.proofs.Common.{ap, ◌∙◌}
use Rattle.dbe_values.specs.Attributes.{is_name}
use Rattle.dbe_item.specs.Sealed.{sealed_attribute}
use Rattle.dbe_item.proofs.Ends.{changed_more, is_lawful_at}
use Rattle.dbe_item.proofs.SealedNames.{same_name}
use Rattle.dbe_item.proofs.attributes.sealed_attributes.Goals as goal

pub sealed_value-requires : goal.sealed_value-requires
sealed_value-requires c = record {
  sorted = c.requires.sorted;
  few = c.requires.few;
  lawful = (is_lawful_at c.args.item.now c.is_lawful.ensures c.loop-i.i (c.at.result.0.now, c.at.result.1.now)
      c.at.ensures).value;
}

pub put-requires : goal.put-requires
put-requires c = record {
  named = ap is_name c.in_ok-copy.ensures ∙ (is_lawful_at c.args.item.now c.is_lawful.ensures c.loop-i.i (
    c.at.result.0.now,
    c.at.result.1.now,
  ) c.at.ensures).name;
  lawful = c.in_ok-stored.ensures.lawful;
}

pub loop-i-preserved : goal.loop-i-preserved
loop-i-preserved c = changed_more (sealed_attribute c.args.config.now c.args.keys.now.root c.args.names.now)
    (same_name c.args.config.now c.args.keys.now.root c.args.names.now) c.args.item.now c.is_lawful.ensures c.loop-i.i (
      c.at.result.0.now,
      c.at.result.1.now,
    ) c.loop-i.row c.put.new.self c.in_ok-copy.field-0 c.in_ok-stored.stored c.at.ensures c.loop-i.invariant
    c.in_ok-copy.ensures c.in_ok-stored.ensures.value c.in_ok-put.ensures.ok
