use Rattle.std.proofs.Common.{ℕ, List, sym, ◌∙◌, subst, map, arith}
use Rattle.serde_json.specs.View.{view as data_of}
use Rattle.dbe_values.specs.View.{view}
use Rattle.dbe_values.proofs.ReadValues.{Gives-same, value_list, value_map, list_made, list_failed, map_made}
use Rattle.dbe_values.proofs.ReadValues.{map_failed, vals_step, vals_end, entries_step, entries_end}
use Rattle.dbe_values.specs.Lawful.{AreLawful, AreLawfulEntries}
use Rattle.dbe_values.specs.View.{vals_of, entries_of, entry_view}
use Rattle.dbe_values.specs.declared.value.AttrValue.{AttrValue}
use Rattle.std.specs.Str.{IsUtf8}
use Rattle.std.proofs.lemmas.Str.{IsUtf8-string_bytes}
use Rattle.dbe_values.proofs.LawfulValues.{lawful_more, lawful_entry, lawful_list, lawful_map, names_step, names_end}
use Rattle.dbe_values.proofs.LawfulValues.{read_names_rise}
use Rattle.dbe_values.proofs.read_value.+read.Goals as goal

pub value_in-returns-in-Some-L-clause-gives : goal.value_in-returns-in-Some-L-clause-gives
value_in-returns-in-Some-L-clause-gives t c =
    Gives-same view c.list_in.result _ _ (value_list c.args.left (data_of c.args.value.now) c.in-Some.name.now
    (data_of c.in-Some.content.now) c.in-Some-L.field-0 c.in-Some.ensures c.in-Some-L.ensures
    c.in-Some-L.field-0-is) c.list_in.ensures.gives

pub value_in-returns-in-Some-M-clause-gives : goal.value_in-returns-in-Some-M-clause-gives
value_in-returns-in-Some-M-clause-gives t c =
    Gives-same view c.map_in.result _ _ (value_map c.args.left (data_of c.args.value.now) c.in-Some.name.now
    (data_of c.in-Some.content.now) c.in-Some-M.field-0 c.in-Some.ensures c.in-Some-M.ensures
    c.in-Some-M.field-0-is) c.map_in.ensures.gives

pub values_in-loop-item-preserved : goal.values_in-loop-item-preserved
values_in-loop-item-preserved t c = record {
  so_far = vals_step c.args.left c.args.items.now c.loop-item.item-index c.item-item.result c.loop-item.values
      c.push.new.self c.in_ok-value_in.field-0 _ c.loop-item-test.true c.item-item.is c.in_ok-push.ensures.ok
      c.in_ok-value_in.ensures.gives c.loop-item.invariant.so_far;
  lawful = subst (λ (xs : List AttrValue). AreLawful c.args.left (vals_of (map view xs)))
      (sym c.in_ok-push.ensures.ok) (lawful_more c.args.left c.loop-item.values c.in_ok-value_in.field-0
      c.loop-item.invariant.lawful c.in_ok-value_in.ensures.lawful);
}

pub values_in-returns-clause-gives : goal.values_in-returns-clause-gives
values_in-returns-clause-gives t c = vals_end c.args.left c.args.items.now c.loop-item.item-index c.loop-item.values _
    (omega arith) c.loop-item.invariant.so_far

pub entries_in-loop-name-preserved : goal.entries_in-loop-name-preserved
entries_in-loop-name-preserved t c = record {
  so_far = entries_step c.args.left _ _ (c.in-Some.name.now, c.in-Some.content.now) c.loop-name.entries
      c.push.new.self _ c.in_ok-value.value _ c.in-Some.ensures.steps (c.in_ok-copy_of.ensures ∙
      c.as_str.ensures.value) c.in_ok-push.ensures.ok c.in_ok-value.ensures.gives c.loop-name.invariant.so_far;
  lawful = subst (λ (xs : List (List ℕ × AttrValue)). AreLawfulEntries c.args.left (entries_of (map entry_view xs)))
      (sym c.in_ok-push.ensures.ok) (lawful_entry c.args.left c.loop-name.entries _ c.loop-name.invariant.lawful
      (subst IsUtf8 (sym (c.in_ok-copy_of.ensures ∙ c.as_str.ensures.value)) (IsUtf8-string_bytes c.in-Some.name.now))
      c.in_ok-value.ensures.lawful);
  names = names_step _ _ (c.in-Some.name.now, c.in-Some.content.now) c.loop-name.entries c.push.new.self _
      c.in_ok-value.value _ c.in-Some.ensures.steps (c.in_ok-copy_of.ensures ∙
      c.as_str.ensures.value) c.in_ok-push.ensures.ok c.loop-name.invariant.names;
}

pub entries_in-returns-clause-rises : goal.entries_in-returns-clause-rises
entries_in-returns-clause-rises t c =
    read_names_rise c.loop-name.entries c.args.members.now.entries c.into_iter-name-iterator.ensures.into_iter_gives.5
    (names_end _ c.loop-name.entries _ c.in-None.ensures.steps.0 c.loop-name.invariant.names)

pub list_in-returns-in-Ok-clause-lawful : goal.list_in-returns-in-Ok-clause-lawful
list_in-returns-in-Ok-clause-lawful t c = lawful_list c.args.left c.in-Ok.values c.if-left-eq0.false
    c.in-Ok.ensures.lawful

pub map_in-returns-in-Ok-clause-lawful : goal.map_in-returns-in-Ok-clause-lawful
map_in-returns-in-Ok-clause-lawful t c = lawful_map c.args.left c.in-Ok.entries c.if-left-eq0.false
    c.in-Ok.ensures.rises c.in-Ok.ensures.lawful

pub entries_in-returns-clause-gives : goal.entries_in-returns-clause-gives
entries_in-returns-clause-gives t c = entries_end c.args.left _ c.loop-name.entries _ c.in-None.ensures.steps.0
    c.loop-name.invariant.so_far

pub list_in-returns-in-Ok-clause-gives : goal.list_in-returns-in-Ok-clause-gives
list_in-returns-in-Ok-clause-gives t c = list_made c.args.left (data_of c.args.value.now) c.as_slice.result.now
    c.in-Some.items.now.items c.in-Ok.values c.if-left-eq0.false c.in-Some.ensures c.as_slice.ensures.value
    c.in-Ok.ensures.gives

pub list_in-returns-in-Err-clause-gives : goal.list_in-returns-in-Err-clause-gives
list_in-returns-in-Err-clause-gives t c = list_failed c.args.left (data_of c.args.value.now) c.as_slice.result.now
    c.in-Some.items.now.items c.in-Err.fault c.if-left-eq0.false c.in-Some.ensures c.as_slice.ensures.value
    c.in-Err.ensures.gives

pub map_in-returns-in-Ok-clause-gives : goal.map_in-returns-in-Ok-clause-gives
map_in-returns-in-Ok-clause-gives t c = map_made c.args.left (data_of c.args.value.now) c.in-Some.members.now.entries
    c.in-Ok.entries c.if-left-eq0.false c.in-Some.ensures c.in-Ok.ensures.gives

pub map_in-returns-in-Err-clause-gives : goal.map_in-returns-in-Err-clause-gives
map_in-returns-in-Err-clause-gives t c = map_failed c.args.left (data_of c.args.value.now)
    c.in-Some.members.now.entries c.in-Err.fault c.if-left-eq0.false c.in-Some.ensures c.in-Err.ensures.gives
