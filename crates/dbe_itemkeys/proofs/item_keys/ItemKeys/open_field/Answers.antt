use Rattle.std.proofs.Common.{◌≡◌, ℕ, ◌-◌, List, ◌++◌, length, take, drop, Bool, true, false, refl, ap, sym, ◌∙◌, IsTrue}
use Rattle.std.proofs.lemmas.List.{take_at}
use Rattle.dbe_canon.specs.Canon.{Canon}
use Rattle.dbe_itemkeys.specs.Field.{IsField}
use Rattle.dbe_itemkeys.proofs.Opened.{IsCut, is_opened, not_opened, is_field}
use Rattle.dbe_itemkeys.proofs.item_keys.ItemKeys.open_field.Goals as goal

pub returns-then-not-open_in_place-clause-err : goal.returns-then-not-open_in_place-clause-err
returns-then-not-open_in_place-clause-err c =
    let cut : IsCut c.args.self.now.root c.args.k c.args.bytes.now c.field_key-key.result.0 c.field_key-key.result.1
    c.deref_mut.result.now c.tag_at.result = record {
      long = c.if-not-has_field_shape.ensures.long refl;
      is_key = c.field_key-key.ensures.key;
      is_iv = c.field_key-key.ensures.iv;
      is_ciphertext = c.deref_mut.ensures.value ∙ c.in_ok-extend_from_slice.ensures.items ∙ ap (λ (xs : List ℕ). xs ++ take
          (length c.args.bytes.now - 16 - 2) (drop 2 c.args.bytes.now)) c.clear.ensures.items;
      is_tag = c.tag_at.ensures;
    } in (
      sym c.if-not-has_field_shape.ensures.shape,
      not_opened c.args.self.now.root c.args.k c.args.path.now
          c.args.bytes.now _ _ _ _ cut (λ same. c.if-not-open_in_place.ensures.authentic.1 same),
    )

pub returns-in-Ok-clause-ok : goal.returns-in-Ok-clause-ok
returns-in-Ok-clause-ok c =
    let cut : IsCut c.args.self.now.root c.args.k c.args.bytes.now c.field_key-key.result.0 c.field_key-key.result.1
    c.deref_mut.result.now c.tag_at.result = record {
      long = c.if-not-has_field_shape.ensures.long refl;
      is_key = c.field_key-key.ensures.key;
      is_iv = c.field_key-key.ensures.iv;
      is_ciphertext = c.deref_mut.ensures.value ∙ c.in_ok-extend_from_slice.ensures.items ∙ ap (λ (xs : List ℕ). xs ++ take
          (length c.args.bytes.now - 16 - 2) (drop 2 c.args.bytes.now)) c.clear.ensures.items;
      is_tag = c.tag_at.ensures;
    } in
    let shown : c.deref.result.now ≡ c.open_in_place.new.bytes = c.deref.ensures.value ∙ take_at
    c.open_in_place.new.bytes _ c.extend_from_slice.new.self.len
    (c.open_in_place.auto.bytes ∙ c.deref_mut.ensures.len) in
    is_field c.args.self.now.root c.args.k c.args.path.now c.args.bytes.now _ _ _ _ cut c.open_in_place.new.bytes
    c.type_at.result c.deref.result.now _ (c.if-not-open_in_place.ensures.sealed refl) c.type_at.ensures shown
    c.in-Ok.ensures.found

pub returns-in-Err-NotCanonical-clause-err : goal.returns-in-Err-NotCanonical-clause-err
returns-in-Err-NotCanonical-clause-err c =
    let cut : IsCut c.args.self.now.root c.args.k c.args.bytes.now c.field_key-key.result.0 c.field_key-key.result.1
    c.deref_mut.result.now c.tag_at.result = record {
      long = c.if-not-has_field_shape.ensures.long refl;
      is_key = c.field_key-key.ensures.key;
      is_iv = c.field_key-key.ensures.iv;
      is_ciphertext = c.deref_mut.ensures.value ∙ c.in_ok-extend_from_slice.ensures.items ∙ ap (λ (xs : List ℕ). xs ++ take
          (length c.args.bytes.now - 16 - 2) (drop 2 c.args.bytes.now)) c.clear.ensures.items;
      is_tag = c.tag_at.ensures;
    } in
    let shown : c.deref.result.now ≡ c.open_in_place.new.bytes = c.deref.ensures.value ∙ take_at
    c.open_in_place.new.bytes _ c.extend_from_slice.new.self.len
    (c.open_in_place.auto.bytes ∙ c.deref_mut.ensures.len) in
    let none = rw c.in-Err-NotCanonical.field-0-is at c.in-Err-NotCanonical.ensures.none in
    let opened = is_opened c.args.self.now.root c.args.k c.args.path.now c.args.bytes.now _ _ _ _ cut
    c.open_in_place.new.bytes (c.if-not-open_in_place.ensures.authentic.0 refl)
    (c.if-not-open_in_place.ensures.deciphered refl) in (
      sym c.if-not-has_field_shape.ensures.shape,
      (
        c.open_in_place.new.bytes,
        opened,
        λ value canon. none refl value (record {
          lawful = canon.lawful;
          short = canon.short;
          same_id = c.type_at.ensures ∙ canon.same_id;
          same_bytes = shown ∙ canon.same_bytes;
        }),
      ),
    )
