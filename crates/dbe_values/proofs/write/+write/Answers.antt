use Rattle.std.proofs.Common.{refl, arith, map, ◌∙◌}
use Rattle.dbe_values.specs.View.{view, vals_of}
use Rattle.dbe_values.specs.Writing.{vals_data, value_data}
use Rattle.dbe_values.proofs.Members.{written_step, written_end, with_entries_put, map_written, IfOk-same}
use Rattle.dbe_values.proofs.write.+write.Goals as goal

pub values_to_json-loop-item-preserved : goal.values_to_json-loop-item-preserved
values_to_json-loop-item-preserved t c =
    written_step (λ vs. vals_data (vals_of (map view vs))) (λ x. value_data (view x)) refl (λ _ _. refl) _ _
    c.in_ok-to_json.field-0 c.args.items.now c.loop-item.item-index c.item-item.result _ c.loop-item-test.true
    c.item-item.is c.in_ok-to_json.ensures c.in_ok-push.ensures.items c.loop-item.invariant

pub values_to_json-returns : goal.values_to_json-returns
values_to_json-returns t c =
    written_end (λ vs. vals_data (vals_of (map view vs))) (λ x. value_data (view x)) refl (λ _ _. refl)
    c.loop-item.out.items c.args.items.now c.loop-item.item-index _ (omega arith) c.loop-item.invariant

pub entries_to_json-loop-entry-preserved : goal.entries_to_json-loop-entry-preserved
entries_to_json-loop-entry-preserved t c =
    with_entries_put _ c.insert.new.self.entries c.args.entries.now c.loop-entry.entry-index c.entry-item.result _
    c.in_ok-value.value c.loop-entry-test.true c.entry-item.is (c.into_string.ensures ∙
    c.in_ok-copy.ensures) c.in_ok-value.ensures c.in_ok-insert.ensures.entries c.loop-entry.invariant

pub to_json-returns-in_ok-entries_to_json-in-M : goal.to_json-returns-in_ok-entries_to_json-in-M
to_json-returns-in_ok-entries_to_json-in-M t c =
    IfOk-same c.tagged-in-M.result _ _ (map_written c.args.value.now c.in-M.entries c.as_slice-in-M.result.now
    c.in_ok-entries_to_json-in-M.field-0 c.in-M.is c.as_slice-in-M.ensures c.in_ok-entries_to_json-in-M.ensures)
    c.tagged-in-M.ensures
