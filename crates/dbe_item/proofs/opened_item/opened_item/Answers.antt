use Rattle.std.proofs.Common.{ap, subst, sym, ◌∙◌}
use Rattle.dbe_values.specs.Attributes.{is_name}
use Rattle.dbe_values.specs.Lawful.{IsLawful}
use Rattle.dbe_values.specs.View.{view}
use Rattle.dbe_item.proofs.Ends.{is_lawful_at}
use Rattle.dbe_item.proofs.OpenedItems.{kept_out, put_in, opened_lawful}
use Rattle.dbe_item.proofs.opened_item.opened_item.Goals as goal

pub put-requires : goal.put-requires
put-requires c =
    let h = is_lawful_at c.args.row.now c.is_lawful.ensures c.loop-i.i (c.at.result.0.now, c.at.result.1.now)
    c.at.ensures in
    record {
      named = ap is_name c.in_ok-copy.ensures ∙ h.name;
      lawful = subst (λ v. IsLawful 32 (view v)) (sym (c.in_ok-value.ensures ∙ c.opened_value.ensures)) (opened_lawful
          c.args.names.now c.args.values.now c.requires.count c.requires.lawful c.at.result.0.now c.at.result.1.now
          h.value);
    }

pub loop-i-preserved-then-is_reserved : goal.loop-i-preserved-then-is_reserved
loop-i-preserved-then-is_reserved c = kept_out c.args.names.now c.args.values.now c.args.row.now c.is_lawful.ensures
    c.loop-i.i (c.at.result.0.now, c.at.result.1.now) c.at.ensures c.loop-i.item c.loop-i.invariant
    (sym c.is_reserved.ensures ∙ c.if-is_reserved.true)

pub loop-i-preserved : goal.loop-i-preserved
loop-i-preserved c = put_in c.args.names.now c.args.values.now c.args.row.now c.is_lawful.ensures c.loop-i.i
    (c.at.result.0.now, c.at.result.1.now) c.at.ensures c.loop-i.item c.put.new.self c.in_ok-copy.field-0
    c.in_ok-value.value c.loop-i.invariant (sym c.is_reserved.ensures ∙ c.if-is_reserved.false) c.in_ok-copy.ensures
    (c.in_ok-value.ensures ∙ c.opened_value.ensures) c.in_ok-put.ensures.ok
