use Rattle.std.proofs.Common.{ap, subst, sym, ◌∙◌}
use Rattle.dbe_values.specs.Attributes.{is_name}
use Rattle.dbe_values.specs.Lawful.{IsLawful}
use Rattle.dbe_values.specs.View.{view}
use Rattle.dbe_item.proofs.Ends.{is_lawful_at, put_more}
use Rattle.dbe_item.proofs.framing.put_all.Goals as goal

pub put-requires : goal.put-requires
put-requires c =
    let h = is_lawful_at c.args.others.now c.is_lawful.ensures c.loop-i.i (c.at.result.0.now, c.at.result.1.now)
    c.at.ensures in
    record {
      named = ap is_name c.in_ok-copy.ensures ∙ h.name;
      lawful = subst (λ v. IsLawful 32 (view v)) (sym c.in_ok-copy-2.ensures) h.value;
    }

pub loop-i-preserved : goal.loop-i-preserved
loop-i-preserved c = put_more c.args.others.now c.loop-i.i (c.at.result.0.now, c.at.result.1.now) c.loop-i.row
    c.put.new.self _ c.in_ok-copy.field-0 c.in_ok-copy-2.field-0 c.at.ensures c.in_ok-copy.ensures
    c.in_ok-copy-2.ensures c.in_ok-put.ensures.ok c.loop-i.invariant
