use Rattle.std.proofs.Common.{ap, ◌∙◌}
use Rattle.serde_json.specs.Written.{compact_text}
use Rattle.dbe_values.proofs.NoFloats.{item_has_no_float}
use Rattle.dbe_values.proofs.Depths.{text_again, item_text_again}
use Rattle.dbe_values.proofs.write.item_text.Goals as goal

pub returns-clause-text : goal.returns-clause-text
returns-clause-text c =
    c.in_ok-to_vec.ensures.text (item_has_no_float _ c.args.item.now c.in_ok-value.ensures)
    ∙ ap compact_text c.in_ok-value.ensures

pub returns-clause-json : goal.returns-clause-json
returns-clause-json c = text_again _ _ c.args.item.now c.is_lawful.ensures c.in_ok-value.ensures
    c.in_ok-to_vec.ensures.utf8 c.in_ok-to_vec.ensures.reads_back

pub returns-clause-reads_back : goal.returns-clause-reads_back
returns-clause-reads_back c = item_text_again _ _ c.args.item.now c.is_lawful.ensures c.in_ok-value.ensures
    c.in_ok-to_vec.ensures.utf8 c.in_ok-to_vec.ensures.reads_back
