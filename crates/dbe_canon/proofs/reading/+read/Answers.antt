use Rattle.std.proofs.Common.{◌∙◌, ap, sym, map, arith}
use Rattle.std.proofs.lemmas.Result.{err_from_is_err_and}
use Rattle.std.proofs.lemmas.List.{map_push, nil_from_length}
use Rattle.std.proofs.lemmas.Bool.{eqb-true}
use Rattle.dbe_values.specs.View.{view, entry_view}
use Rattle.dbe_canon.specs.Reading.{value_at, entry_at, value_in, list_in, map_in, kind_in, is_increasing}
use Rattle.dbe_canon.proofs.Loops.{goes_on, stops, ends, Gives-same}
use Rattle.dbe_canon.proofs.ReadAgain.{value_in_is, list_in_some, map_in_some, list_in_none, map_in_none}
use Rattle.dbe_canon.proofs.Answered.{map_unordered, map_made}
use Rattle.dbe_canon.proofs.reading.+read.Goals as goal

pub value_in-returns-in-None : goal.value_in-returns-in-None
value_in-returns-in-None t c = value_in_is c.args.left c.args.id.now c.args.bytes.now ∙
    ap (λ k. kind_in k (list_in c.args.left) (map_in c.args.left) c.args.bytes.now) (sym c.kind_of.ensures ∙
    c.in-None.is)

pub value_in-returns-in-Some : goal.value_in-returns-in-Some
value_in-returns-in-Some t c =
    Gives-same view c.value_of.result _ _ (sym (value_in_is c.args.left c.args.id.now c.args.bytes.now ∙
    ap (λ k. kind_in k (list_in c.args.left) (map_in c.args.left) c.args.bytes.now) (sym c.kind_of.ensures ∙
    c.in-Some.is))) c.value_of.ensures

pub list_in-returns-then-left-eq0 : goal.list_in-returns-then-left-eq0
list_in-returns-then-left-eq0 t c = list_in_none c.args.left c.args.bytes.now c.if-left-eq0.true

pub list_in-returns : goal.list_in-returns
list_in-returns t c = Gives-same view c.list_of.result _ _ (list_in_some c.args.left c.args.bytes.now (omega arith))
    c.list_of.ensures

pub map_in-returns-then-left-eq0 : goal.map_in-returns-then-left-eq0
map_in-returns-then-left-eq0 t c = map_in_none c.args.left c.args.bytes.now c.if-left-eq0.true

pub map_in-returns : goal.map_in-returns
map_in-returns t c = Gives-same view c.map_of.result _ _ (map_in_some c.args.left c.args.bytes.now (omega arith))
    c.map_of.ensures

pub values_at-returns-in_err-value : goal.values_at-returns-in_err-value
values_at-returns-in_err-value t c =
    let p = err_from_is_err_and c.from_residual.result c.from_residual.ensures.1 in
    rw (p.1, p.2) (stops (value_at (value_in c.args.left)) (map view c.loop.values) c.args.count c.loop.counter
    c.loop.rest.now _ c.loop.invariant c.in_err-value.field-0.0 c.loop-test.true c.in_err-value.ensures)

pub values_at-loop-preserved : goal.values_at-loop-preserved
values_at-loop-preserved t c =
    goes_on (value_at (value_in c.args.left)) (map view c.loop.values) c.args.count c.loop.counter c.loop.rest.now _
    c.loop.invariant (map view c.push.new.self) (view c.in_ok-value.value) c.in_ok-value.after.now
    c.loop-test.true c.in_ok-value.ensures (ap (map view) c.in_ok-push.ensures.ok ∙
    map_push view c.loop.values c.in_ok-value.value)

pub values_at-returns : goal.values_at-returns
values_at-returns t c = ends (value_at (value_in c.args.left)) (map view c.loop.values) c.args.count c.loop.counter
    c.loop.rest.now _ c.loop.invariant c.loop-test.false

pub entries_at-returns-in_err-entry : goal.entries_at-returns-in_err-entry
entries_at-returns-in_err-entry t c =
    let p = err_from_is_err_and c.from_residual.result c.from_residual.ensures.1 in
    rw (p.1, p.2) (stops (entry_at (value_in c.args.left)) (map entry_view c.loop.entries) c.args.count c.loop.counter
    c.loop.rest.now _ c.loop.invariant c.in_err-entry.field-0.0 c.loop-test.true c.in_err-entry.ensures)

pub entries_at-loop-preserved : goal.entries_at-loop-preserved
entries_at-loop-preserved t c =
    goes_on (entry_at (value_in c.args.left)) (map entry_view c.loop.entries) c.args.count c.loop.counter
    c.loop.rest.now _ c.loop.invariant (map entry_view c.push.new.self) (entry_view c.in_ok-entry.entry)
    c.in_ok-entry.after.now c.loop-test.true c.in_ok-entry.ensures (ap (map entry_view) c.in_ok-push.ensures.ok ∙
    map_push entry_view c.loop.entries c.in_ok-entry.entry)

pub entries_at-returns : goal.entries_at-returns
entries_at-returns t c = ends (entry_at (value_in c.args.left)) (map entry_view c.loop.entries) c.args.count
    c.loop.counter c.loop.rest.now _ c.loop.invariant c.loop-test.false

pub map_of-returns-then-not-are_names_increasing : goal.map_of-returns-then-not-are_names_increasing
map_of-returns-then-not-are_names_increasing t c =
    map_unordered (value_in c.args.left) c.args.bytes.now c.in_ok-count.count c.in_ok-count.rest.now
    c.in_ok-entries.entries c.in_ok-entries.rest.now c.in_ok-count.ensures c.in_ok-entries.ensures
    (ap (λ es. is_increasing (map (λ e. e.0) es)) (sym c.as_slice.ensures) ∙ sym c.are_names_increasing.ensures ∙
    c.if-not-are_names_increasing.true)

pub map_of-returns : goal.map_of-returns
map_of-returns t c =
    map_made (value_in c.args.left) c.args.bytes.now c.in_ok-count.count c.in_ok-count.rest.now
    c.in_ok-entries.entries c.in_ok-entries.rest.now c.in_ok-count.ensures c.in_ok-entries.ensures
    (nil_from_length c.in_ok-entries.rest.now (eqb-true _ 0 (sym c.is_empty.ensures ∙ c.if-not-is_empty.false)))
    (ap (λ es. is_increasing (map (λ e. e.0) es)) (sym c.as_slice.ensures) ∙ sym c.are_names_increasing.ensures ∙
    c.if-not-are_names_increasing.false)
