use Rattle.std.proofs.Common.{ℕ, List, length, map, ◌++◌, ap, subst, sym, arith, ◌∙◌}
use Rattle.std.specs.List.Sorted.{IsStrictlySortedBy}
use Rattle.dbe_canon.specs.Path.{name_cmp}
use Rattle.dbe_config.specs.Setting.{Setting}
use Rattle.dbe_frame.specs.Format.{joined}
use Rattle.dbe_frame.specs.Header.{IsLegend}
use Rattle.dbe_frame.specs.Record.{entries_text}
use Rattle.dbe_frame.specs.Signed.{signed_names}
use Rattle.dbe_frame.specs.Sizes.{version_1}
use Rattle.dbe_itemkeys.specs.ItemKeys.{recipient_tag}
use Rattle.dbe_item.specs.Sealed.{sealed_attribute}
use Rattle.dbe_item.proofs.SealedRow as row
use Rattle.dbe_item.proofs.sealing.seal.Goals as goal

pub sealed_head-requires-clause-rules : goal.sealed_head-requires-clause-rules
sealed_head-requires-clause-rules c =
    let names = row.names_are c.args.rings.now _ c.args.item.now _ c.config-config.ensures c.in_ok-names.ensures in
    let legend = row.legend_are c.args.rings.now _ c.args.item.now _ _ _ c.config-config.ensures names
    c.deref.ensures.value c.in_ok-legend.ensures in
    let signed = row.signed_few c.args.rings.now c.args.item.now (c.canonical_order.ensures.same c.args.rings.now
    c.args.item.now) in
    let few = row.accepted_few c.args.rings.now c.args.item.now c.requires.accepted in
    subst (IsLegend version_1) (sym legend) (row.legend_is c.args.rings.now (signed_names c.args.rings.now
    c.args.item.now) (omega (arith, signed, few)))

pub sealed_attributes-requires-clause-sorted : goal.sealed_attributes-requires-clause-sorted
sealed_attributes-requires-clause-sorted c =
    let names = row.names_are c.args.rings.now _ c.args.item.now _ c.config-config.ensures c.in_ok-names.ensures in
    let legend = row.legend_are c.args.rings.now _ c.args.item.now _ _ _ c.config-config.ensures names
    c.deref.ensures.value c.in_ok-legend.ensures in
    let found = row.encrypted_are c.args.rings.now c.args.item.now _ _ _ (c.deref-2.ensures.value ∙ names)
    (c.deref-3.ensures.value ∙ legend) c.in_ok-encrypted.ensures in
    subst (IsStrictlySortedBy name_cmp) (sym c.deref-4.ensures.value) (row.encrypted_sorted c.args.rings.now
    c.args.item.now _ found (c.canonical_order.ensures.order c.args.rings.now c.args.item.now c.is_lawful.ensures))

pub sealed_attributes-requires-clause-few : goal.sealed_attributes-requires-clause-few
sealed_attributes-requires-clause-few c =
    let names = row.names_are c.args.rings.now _ c.args.item.now _ c.config-config.ensures c.in_ok-names.ensures in
    let legend = row.legend_are c.args.rings.now _ c.args.item.now _ _ _ c.config-config.ensures names
    c.deref.ensures.value c.in_ok-legend.ensures in
    let found = row.encrypted_are c.args.rings.now c.args.item.now _ _ _ (c.deref-2.ensures.value ∙ names)
    (c.deref-3.ensures.value ∙ legend) c.in_ok-encrypted.ensures in
    let few = row.encrypted_few c.args.rings.now c.args.item.now _ found (row.signed_few c.args.rings.now
    c.args.item.now (c.canonical_order.ensures.same c.args.rings.now c.args.item.now)) (row.accepted_few
    c.args.rings.now c.args.item.now c.requires.accepted) in
    let size = ap (λ (ns : List (List ℕ)). length ns) c.deref-4.ensures.value in
    omega (arith, few, size)

pub returns : goal.returns
returns c =
    let names = row.names_are c.args.rings.now _ c.args.item.now _ c.config-config.ensures c.in_ok-names.ensures in
    let legend = row.legend_are c.args.rings.now _ c.args.item.now _ _ _ c.config-config.ensures names
    c.deref.ensures.value c.in_ok-legend.ensures in
    let found = row.encrypted_are c.args.rings.now c.args.item.now _ _ _ (c.deref-2.ensures.value ∙ names)
    (c.deref-3.ensures.value ∙ legend) c.in_ok-encrypted.ensures in
    let keys = row.keys_are c.args.drawn.now _ _ _ c.part-data_key.ensures c.part-message_id.ensures
    c.new-keys.ensures in
    let attributes = row.attributes_are c.args.rings.now c.args.drawn.now c.args.item.now _ _ _ keys
    (c.deref-4.ensures.value ∙ found) (c.in_ok-row.ensures ∙ ap (λ (s : Setting). map (sealed_attribute s
    c.new-keys.result.root c.deref-4.result.now) c.args.item.now) c.config-config.ensures) in
    let head = c.in_ok-head.ensures.bytes in
    let table = c.table.ensures ∙ ap (λ (s : Setting). s.table) c.config-config.ensures in
    let foot = row.foot_is c.args.rings.now c.args.drawn.now c.args.item.now _ _ _ _ _ _ head attributes
    (c.deref-5.ensures.value ∙ names) (c.in_ok-head.ensures.legend ∙ legend) c.in_ok-head.ensures.signing
    (c.in_ok-foot.ensures ∙ ap (λ (t : List ℕ). joined (map (λ key. recipient_tag key (c.in_ok-head.head.bytes.items ++
    entries_text t c.in_ok-row.row c.deref-5.result.now c.in_ok-head.head.header.legend))
    c.in_ok-head.head.signing.items)) table) in
    row.row_is c.args.rings.now c.args.drawn.now c.args.beacons.now c.args.item.now _ _ _ _ head attributes foot
    c.in_ok-row-2.ensures
