-- The header and the footer that are sealed.
use Rattle.std.proofs.Common.{◌≡◌, ℕ, ◌≤◌, false, List, [], ◌∷◌, length, map, drop, sum_by, refl, sym, ap, ◌∙◌}
use Rattle.std.proofs.Common.{get_or, arith}
use Rattle.std.specs.List.{AllByRecursion}
use Rattle.std.proofs.lemmas.List.{length-map, length-take-le, length-drop}
use Rattle.std.proofs.lemmas.List.Elements.{All-from_recursion, recursion_from_All}
use Rattle.sha2.specs.Sha512.{sha384}
use Rattle.dbe_kdf.specs.Hmac.{hmac}
use Rattle.dbe_kdf.proofs.Outputs.{length-hmac384}
use Rattle.dbe_config.specs.Setting.{Setting}
use Rattle.dbe_config.specs.Bounds.{IsBounded, IsRing}
use Rattle.dbe_config.specs.Rules.{is_empty_list, has_branch}
use Rattle.dbe_rawring.specs.Edk.{IsEdk}
use Rattle.dbe_itemkeys.specs.ItemKeys.{commit_key, commitment, recipient_tag}
use Rattle.dbe_frame.specs.Footer.{AreTags}
use Rattle.dbe_frame.specs.Header.{AreEdks, HasParts, IsHeader, header_prefix, header_text}
use Rattle.dbe_frame.specs.Signed.{signed_names}
use Rattle.dbe_frame.proofs.Split.{prefix_apart}
use Rattle.dbe_item.specs.Opens.{Seeks}
use Rattle.dbe_item.specs.Sealed.{Wrap, recipient_draws, draw_length, drawn_id, drawn_key, drawn_for_recipients}
use Rattle.dbe_item.specs.Sealed.{item_context}
use Rattle.dbe_item.specs.Sealed.{item_wraps, uncommitted, sealed_header, sealed_record, sealed_footer}
use Rattle.dbe_item.proofs.SealsPut.{Attribute}
use Rattle.dbe_item.proofs.SealsHeader.{are_pairs, wraps_count, wraps_short, first_signing, seeks_first, first_tag}
use Rattle.dbe_item.proofs.SealedRow.{legend_is}

commitment_long : (data_key id before : List ℕ) → length (commitment data_key id before) ≡ 32
unfolding commitment
commitment_long data_key id before =
    let mac = hmac sha384 (commit_key data_key id) before in
    length-take-le 32 mac (omega (arith, length-hmac384 (commit_key data_key id) before))

tag_long : (signing text : List ℕ) → length (recipient_tag signing text) ≡ 48
unfolding recipient_tag
tag_long signing text = length-hmac384 signing (sha384 text)

tags_long : (text : List ℕ) (ws : List Wrap) →
    AllByRecursion (λ tag. length tag ≡ 48) (map (λ (w : Wrap). recipient_tag w.signing text) ws)
tags_long text [] = tt
tags_long text (w ∷ ws) = (tag_long w.signing text, tags_long text ws)

some_long : {A : Type 0} (xs : List A) → is_empty_list xs ≡ false → 1 ≤ length xs
some_long [] e = absurd cc
some_long (x ∷ xs) e = omega arith

module _ (c : Setting) (drawn : List ℕ) (item : List Attribute) (bounded : IsBounded c)
    (few : length c.recipients ≤ 8) (built : has_branch c.recipients ≡ false)
    (some : is_empty_list c.recipients ≡ false) (fits : length (signed_names c item) ≤ 1000)
    (long : length drawn ≡ draw_length c) where
  pub key_long : length (drawn_key drawn) ≡ 32
  key_long = length-take-le 32 (drop 32 drawn) (omega (arith, long, length-drop 32 drawn))

  id_long : length (drawn_id drawn) ≡ 32
  id_long = length-take-le 32 drawn (omega (arith, long))

  rest_long : length (drawn_for_recipients drawn) ≡ sum_by recipient_draws c.recipients
  rest_long = omega (arith, long, length-drop 64 drawn)

  count : length (item_wraps c drawn item) ≡ length c.recipients
  count = wraps_count (item_context c item) (drawn_key drawn) key_long c.recipients (drawn_for_recipients drawn) built

  edks_are : AreEdks (map (λ (w : Wrap). w.edk) (item_wraps c drawn item))
  edks_are =
      let edks = map (λ (w : Wrap). w.edk) (item_wraps c drawn item) in
      let same : length edks ≡ length (item_wraps c drawn item) =
      length-map (item_wraps c drawn item) (λ (w : Wrap). w.edk) in
      record {
        some = omega (arith, same, count, some_long c.recipients some);
        few = omega (arith, same, count, few);
        each = All-from_recursion IsEdk edks (wraps_short (item_context c item) (drawn_key drawn) key_long
            c.recipients (drawn_for_recipients drawn) built (recursion_from_All IsRing c.recipients bounded.rings)
            rest_long);
      }

  has_parts : HasParts (sealed_header c drawn item)
  unfolding sealed_header
  has_parts = record {
    message_id = id_long;
    legend = legend_is c (signed_names c item) (omega (arith, fits));
    context = are_pairs c.context bounded.pairs_count bounded.pairs bounded.order;
    edks = edks_are;
    commitment = commitment_long (drawn_key drawn) (drawn_id drawn) (header_prefix (uncommitted c drawn item));
  }

  -- the bytes that are stored are the header
  pub is_header : IsHeader (sealed_header c drawn item) (header_text (sealed_header c drawn item))
  is_header = record { parts = has_parts; text = refl }

  abbrev pub sealed_tags : List (List ℕ)
  sealed_tags = map (λ (w : Wrap). recipient_tag w.signing (sealed_record c drawn item)) (item_wraps c drawn item)

  -- and the footer the tags
  pub are_tags : AreTags (length (sealed_header c drawn item).edks) sealed_tags (sealed_footer c drawn item)
  unfolding sealed_header sealed_footer
  are_tags = record {
    count = length-map (item_wraps c drawn item) (λ (w : Wrap). recipient_tag w.signing (sealed_record c drawn item))
        ∙ sym (length-map (item_wraps c drawn item) (λ (w : Wrap). w.edk));
    each = All-from_recursion (λ tag. length tag ≡ 48) sealed_tags (tags_long (sealed_record c drawn item)
        (item_wraps c drawn item));
    text = refl;
  }

  pub is_committed : (sealed_header c drawn item).commitment ≡ commitment (drawn_key drawn)
      (sealed_header c drawn item).message_id (header_prefix (sealed_header c drawn item))
  unfolding sealed_header
  is_committed = ap (λ (p : List ℕ). commitment (drawn_key drawn) (drawn_id drawn) p)
      (sym (prefix_apart (uncommitted c drawn item) (commitment (drawn_key drawn) (drawn_id drawn)
      (header_prefix (uncommitted c drawn item)))))

  -- the key with which the first recipient signs
  abbrev pub signs : List ℕ
  signs = first_signing (item_context c item) (drawn_key drawn) key_long (item_wraps c drawn item)

  pub seeks : Seeks c.recipients (item_context c item) (sealed_header c drawn item).edks 0 (drawn_key drawn) signs
  unfolding sealed_header
  seeks = seeks_first (item_context c item) (drawn_key drawn) key_long c.recipients (drawn_for_recipients drawn) some
      built rest_long

  pub is_first_tag : get_or sealed_tags 0 [] ≡ recipient_tag signs (sealed_record c drawn item)
  is_first_tag = first_tag (item_context c item) (drawn_key drawn) key_long c.recipients (drawn_for_recipients drawn)
      (λ s. recipient_tag s (sealed_record c drawn item)) some built
