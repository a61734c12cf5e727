use Rattle.std.proofs.Common.{◌≡◌, ℕ, List, length, sym, ap, ◌∙◌, subst, arith}
use Rattle.std.specs.List.{All}
use Rattle.std.specs.List.Sorted.{IsStrictlySortedBy}
use Rattle.dbe_values.specs.Lawful.{IsLawful}
use Rattle.dbe_values.specs.View.{view}
use Rattle.dbe_values.specs.declared.value.AttrValue.{AttrValue}
use Rattle.dbe_canon.specs.Path.{name_cmp}
use Rattle.dbe_frame.specs.Signed.{signed_names}
use Rattle.dbe_item.specs.Opening.{opened_attributes}
use Rattle.dbe_item.specs.Opens.{AreSealedCounts, opened_names}
use Rattle.dbe_item.proofs.LawsNames.{marked_sorted}
use Rattle.dbe_item.proofs.MarkedNames.{marked_few}
use Rattle.dbe_item.proofs.OpenedItems.{found_names, values_lawful, opens_sealed, sealed_counts}
use Rattle.dbe_item.proofs.unsealing.open_attributes.Goals as goal

pub open_fields-requires : goal.open_fields-requires
open_fields-requires c =
    let are = found_names c.args.config.now c.args.row.now c.args.frame.now.header _ _ _ (c.deref.ensures.value ∙
    c.requires.names) c.legend-legend.ensures c.in_ok-encrypted.ensures in
    let size : length c.deref-2.result.now ≡ length (opened_names c.args.config.now c.args.row.now
    c.args.frame.now.header) = ap (λ (ns : List (List ℕ)). length ns) (c.deref-2.ensures.value ∙ are) in
    let few = marked_few (signed_names c.args.config.now c.args.row.now) c.args.frame.now.header.legend in
    omega (arith, size, few, c.has_parts.ensures.legend.short)

pub opened_item-requires-clause-order : goal.opened_item-requires-clause-order
opened_item-requires-clause-order c =
    let are = found_names c.args.config.now c.args.row.now c.args.frame.now.header _ _ _ (c.deref.ensures.value ∙
    c.requires.names) c.legend-legend.ensures c.in_ok-encrypted.ensures in
    subst (IsStrictlySortedBy name_cmp) (sym (c.deref-3.ensures.value ∙ are)) (marked_sorted
    (signed_names c.args.config.now c.args.row.now) c.args.frame.now.header.legend
    (c.canonical_order.ensures.order c.args.config.now c.args.row.now c.is_lawful.ensures))

pub opened_item-requires-clause-lawful : goal.opened_item-requires-clause-lawful
opened_item-requires-clause-lawful c =
    let P : List AttrValue → Type 0 = λ values. All (λ v. IsLawful 32 (view v)) values in
    subst P (sym c.deref-4.ensures.value) (values_lawful c.args.config.now c.args.row.now c.args.verified.now.keys.root
    c.deref-2.result.now c.in-Ok.values.items c.is_lawful.ensures c.in-Ok.ensures.fields)

pub returns-clause-opens : goal.returns-clause-opens
returns-clause-opens c =
    let are = found_names c.args.config.now c.args.row.now c.args.frame.now.header _ _ _ (c.deref.ensures.value ∙
    c.requires.names) c.legend-legend.ensures c.in_ok-encrypted.ensures in
    opens_sealed c.args.config.now c.args.row.now c.args.frame.now.header c.args.verified.now.place
    c.args.verified.now.keys.root c.deref-2.result.now c.requires.signed (c.deref-2.ensures.value ∙ are)
    c.in-Ok.values.items _ c.is_lawful.ensures c.in-Ok.ensures.fields
    (c.in_ok-opened_item.ensures
    ∙ ap (λ (ns : List (List ℕ)). opened_attributes ns c.deref-4.result.now c.args.row.now) (c.deref-3.ensures.value ∙
    sym c.deref-2.ensures.value)
    ∙ ap (λ (vs : List AttrValue). opened_attributes c.deref-2.result.now vs c.args.row.now) c.deref-4.ensures.value)

pub returns-clause-counts : goal.returns-clause-counts
returns-clause-counts c =
    let are = found_names c.args.config.now c.args.row.now c.args.frame.now.header _ _ _ (c.deref.ensures.value ∙
    c.requires.names) c.legend-legend.ensures c.in_ok-encrypted.ensures in
    let P : ℕ → Type 0 = λ n. AreSealedCounts c.args.row.now n (length c.args.frame.now.header.legend) in
    let Q : List ℕ → Type 0 = λ legend. AreSealedCounts c.args.row.now c.len.result (length legend) in
    subst Q (sym c.legend-legend.ensures) (subst P (c.deref-2.ensures.len ∙ sym c.len.ensures)
    (sealed_counts c.args.config.now c.args.row.now c.args.frame.now.header c.deref-2.result.now
    c.requires.framed.header c.requires.framed.legend (c.deref-2.ensures.value ∙ are)))
