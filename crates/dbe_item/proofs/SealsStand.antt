-- A sealed row stands for its item.
use Rattle.std.proofs.Common.{◌≡◌, ℕ, ◌<◌, ◌≤◌, ◌^◌, Bool, true, false, not, ◌||◌, cond, List, [], ◌∷◌, ◌++◌, length}
use Rattle.std.proofs.Common.{map, filter}
use Rattle.std.proofs.Common.{get_or, is_ok, None, refl, sym, ap, ◌∙◌, subst, arith}
use Rattle.std.specs.List.{All, AllByRecursion, AllZip}
use Rattle.std.proofs.lemmas.List.{length-map}
use Rattle.std.proofs.lemmas.List.Elements.{recursion_from_All}
use Rattle.dbe_values.specs.Attributes.{value_at}
use Rattle.dbe_values.specs.Keys.{row_key, key_or_none}
use Rattle.dbe_values.specs.Lawful.{IsLawfulItem, IsLawfulAttribute, names_of}
use Rattle.dbe_values.specs.Sets.{IsIncreasing}
use Rattle.dbe_values.specs.View.{view}
use Rattle.dbe_values.specs.declared.value.AttrValue.{AttrValue, B}
use Rattle.dbe_canon.specs.Canon.{long_string, canon_of}
use Rattle.dbe_canon.specs.Path.{path_of}
use Rattle.dbe_config.specs.Setting.{Setting}
use Rattle.dbe_config.specs.Actions.{is_reserved}
use Rattle.dbe_config.specs.Bounds.{IsBounded}
use Rattle.dbe_config.specs.Rules.{is_empty_list, has_branch, is_not_built}
use Rattle.dbe_itemkeys.specs.ItemKeys.{root_key, recipient_tag}
use Rattle.dbe_frame.specs.Context.{full_context}
use Rattle.dbe_frame.specs.Header.{header_text}
use Rattle.dbe_frame.specs.Record.{record_text, entries_text, legend_word, stored_bytes}
use Rattle.dbe_frame.specs.Signed.{name_below, signed_names}
use Rattle.dbe_frame.specs.Sorted.{in_order}
use Rattle.dbe_frame.proofs.Names.{names_permuted}
use Rattle.dbe_frame.proofs.Sorting.{weaken}
use Rattle.dbe_item.specs.Acceptance.{put_fault}
use Rattle.dbe_item.specs.Names.{head_name, foot_name, is_beacon_name, legend_byte, marked, number_of, strip}
use Rattle.dbe_item.specs.Opens.{Seeks, HasHeader, HasBinary, HasSignedKey, IsFramed, IsFound, IsTagged}
use Rattle.dbe_item.specs.Opens.{Found, FitsLegend, AttributeOpens, AttributesOpen, OpensSealed, OpensBy, Opens}
use Rattle.dbe_item.specs.Opens.{legend_of}
use Rattle.dbe_item.specs.Opens.{opened_names}
use Rattle.dbe_item.specs.Sealed.{Wrap, draw_length, drawn_id, drawn_key, stored_pairs}
use Rattle.dbe_item.specs.Sealed.{item_wraps, sealed_header, encrypted_names, sealed_attribute, sealed_attributes}
use Rattle.dbe_item.specs.Sealed.{sealed_record, sealed_footer, sealed_row}
use Rattle.dbe_item.specs.Stands.{beacons_of, StandsBy, SealsToStand}
use Rattle.dbe_item.proofs.SealedRow.{signed_few}
use Rattle.dbe_item.proofs.SealsPut.{Attribute}
use Rattle.dbe_item.proofs.SealsBeacons.{rises_from}
use Rattle.dbe_item.proofs.SealsFields.{IsFit, marked_is, sealed_names, attributes_open}
use Rattle.dbe_item.proofs.SealsAccepted.{IsAccepted, is_accepted, same_key, legend_at}
use Rattle.dbe_item.proofs.SealsFrame.{AreBeacons, kept_framed, names_framed, value_framed, head_framed, foot_framed}
use Rattle.dbe_item.proofs.SealsFrame.{beacons_framed}
use Rattle.dbe_item.proofs.SealsRow.{is_signed, reserved_unsigned, all_sealed, value_sealed, keeps_all, both_some}
use Rattle.dbe_item.proofs.SealsRow.{signed_unreserved, among_encrypted, IsKeyThere, partition_there, sort_there}
use Rattle.dbe_item.proofs.SealsParts.{is_header, sealed_tags, are_tags, is_committed, signs, seeks, is_first_tag}

-- ---- the record text

-- rows with the same values of names have the same text of them
entries_same : (table : List ℕ) (row base : List Attribute) (names : List (List ℕ)) (legend : List ℕ) →
    AllByRecursion (λ name. value_at name row ≡ value_at name base) names →
    entries_text table row names legend ≡ entries_text table base names legend
unfolding entries_text
entries_same table row base [] legend h = refl
entries_same table row base (name ∷ names) [] h = refl
entries_same table row base (name ∷ names) (b ∷ legend) h =
    ap (λ v. (long_string (path_of table name) ++ legend_word b ++ long_string (stored_bytes v))
    ++ entries_text table row names legend) h.0
    ∙ ap (λ t. (long_string (path_of table name) ++ legend_word b ++ long_string (stored_bytes (value_at name base)))
    ++ t)
    (entries_same table row base names legend h.1)

fit_all : (item : List Attribute) → AllByRecursion IsLawfulAttribute item →
    AllByRecursion (λ (a : Attribute). length (canon_of (view a.1)) < 2 ^ 64) item → AllByRecursion IsFit item
fit_all [] h s = tt
fit_all (a ∷ item) h s = ((h.0, s.0), fit_all item h.1 s.1)

-- ---- the sealed row

module _ (c : Setting) (drawn : List ℕ) (beacons item : List Attribute) (are : AreBeacons beacons)
    (accepted : IsAccepted c item) where
  abbrev row : List Attribute
  row = sealed_row c drawn beacons item

  abbrev base : List Attribute
  base = sealed_attributes c drawn item

  abbrev root : List ℕ
  root = root_key (drawn_key drawn) (drawn_id drawn)

  abbrev head : AttrValue
  head = B (header_text (sealed_header c drawn item))

  abbrev foot : AttrValue
  foot = B (sealed_footer c drawn item)

  base_names : signed_names c base ≡ signed_names c item
  unfolding sealed_attributes
  base_names = ap (λ ns. in_order name_below (filter (is_signed c) ns))
      (sealed_names c root (encrypted_names c item) item)

  signed_same : signed_names c row ≡ signed_names c item
  unfolding sealed_row
  signed_same = ap (in_order name_below) (names_framed head foot beacons base are (is_signed c) (reserved_unsigned c))
      ∙ base_names

  value_same : (name : List ℕ) → is_reserved name ≡ false → value_at name row ≡ value_at name base
  unfolding sealed_row
  value_same name clear = value_framed head foot beacons base are name clear

  has_head : HasBinary head_name row (header_text (sealed_header c drawn item))
  unfolding sealed_row
  has_head = head_framed head foot beacons base are

  has_foot : HasBinary foot_name row (sealed_footer c drawn item)
  unfolding sealed_row
  has_foot = foot_framed head foot beacons base are

  strip_base : strip base ≡ base
  unfolding sealed_attributes
  strip_base = keeps_all (λ (a : Attribute). not (is_reserved a.0))
      (map (sealed_attribute c root (encrypted_names c item)) item)
      (all_sealed c root (encrypted_names c item) (λ n. not (is_reserved n) ≡ true) item
      (weaken (λ (a : Attribute). is_reserved a.0 ≡ false) (λ (a : Attribute). not (is_reserved a.0) ≡ true)
      (λ a e. ap not e) item accepted.unreserved))

  strip_same : strip row ≡ base
  unfolding sealed_row
  strip_same = kept_framed head foot beacons base are (λ n. not (is_reserved n)) (λ name e. ap not e) ∙ strip_base

  base_unreserved : AllByRecursion (λ (a : Attribute). is_reserved a.0 ≡ false) base
  unfolding sealed_attributes
  base_unreserved = all_sealed c root (encrypted_names c item) (λ n. is_reserved n ≡ false) item accepted.unreserved

  base_increases : IsIncreasing (names_of item) → IsIncreasing (names_of base)
  unfolding sealed_attributes
  base_increases h = subst IsIncreasing (sym (sealed_names c root (encrypted_names c item) item)) h

  beacons_same : IsLawfulItem item → IsLawfulItem beacons → beacons_of row ≡ beacons
  unfolding sealed_row
  beacons_same lawful rise = beacons_framed head foot beacons base are
      (rises_from base (base_increases lawful.increasing))
      (rises_from beacons rise.increasing) base_unreserved

  -- ---- its key

  key_value : (name : List ℕ) → IsKeyThere c item accepted name → value_at name row ≡ value_at name item
  unfolding sealed_attributes
  key_value name k = value_same name k.unreserved ∙ value_sealed c root (encrypted_names c item) name k.clear item

  key_same : row_key c.schema row ≡ row_key c.schema item
  key_same =
      same_key c.schema item row (key_value c.schema.partition.name (partition_there c item accepted))
      (both_some c.schema.sort (λ s. IsKeyThere c item accepted s.name) (λ s. IsKeyThere c item accepted s.name)
      (λ s. value_at s.name row ≡ value_at s.name item) (λ s k other. key_value s.name k) (sort_there c item accepted)
      (sort_there c item accepted))

  legend_key : (name : List ℕ) → IsKeyThere c item accepted name →
      legend_of c row (sealed_header c drawn item) name ≡ 115
  unfolding sealed_header
  legend_key name k =
      ap (λ ns. get_or (map (legend_byte c) (signed_names c item)) (number_of name ns) 0) signed_same
      ∙ legend_at c name (signed_names c item) k.listed ∙ ap (λ b. cond b 101 115) k.clear

  signed_key : HasSignedKey c row (sealed_header c drawn item)
  signed_key = record {
    lawful = ap is_ok key_same ∙ accepted.keyed;
    partition = legend_key c.schema.partition.name (partition_there c item accepted);
    sort = both_some c.schema.sort (λ s. IsKeyThere c item accepted s.name) (λ s. IsKeyThere c item accepted s.name)
        (λ s. legend_of c row (sealed_header c drawn item) s.name ≡ 115) (λ s k other. legend_key s.name k)
        (sort_there c item accepted) (sort_there c item accepted);
  }

  fits_legend : FitsLegend c row (sealed_header c drawn item)
  unfolding sealed_header
  fits_legend = length-map (signed_names c item) (legend_byte c)
      ∙ ap (λ (ns : List (List ℕ)). length ns) (sym signed_same)

  record_same : record_text (header_text (sealed_header c drawn item)) c row (sealed_header c drawn item).legend
      ≡ sealed_record c drawn item
  unfolding sealed_header
  record_same =
      let legend = map (legend_byte c) (signed_names c item) in
      let same = weaken (λ (n : List ℕ). is_reserved n ≡ false) (λ (n : List ℕ). value_at n row ≡ value_at n base)
      value_same (signed_names c item) (signed_unreserved c item accepted) in
      ap (λ ns. header_text (sealed_header c drawn item) ++ entries_text c.table row ns legend) signed_same
      ∙ ap (λ t. header_text (sealed_header c drawn item) ++ t)
      (entries_same c.table row base (signed_names c item) legend same)
      ∙ ap (λ ns. header_text (sealed_header c drawn item) ++ entries_text c.table base ns legend) (sym base_names)

  names_opened : opened_names c row (sealed_header c drawn item) ≡ encrypted_names c item
  unfolding sealed_header
  names_opened = ap (λ ns. marked ns (map (legend_byte c) (signed_names c item))) signed_same
      ∙ marked_is c (signed_names c item)

  fields_open : IsLawfulItem item →
      AllZip (AttributeOpens c root (opened_names c row (sealed_header c drawn item))) (strip row) item
  unfolding sealed_attributes
  fields_open lawful =
      let fit = fit_all item (recursion_from_All IsLawfulAttribute item lawful.each) accepted.small in
      let opens = attributes_open c root (encrypted_names c item) item fit (among_encrypted c item accepted) in
      subst (λ xs. AllZip (AttributeOpens c root (opened_names c row (sealed_header c drawn item))) xs item)
      (sym strip_same)
      (subst (λ ns. AllZip (AttributeOpens c root ns) base item) (sym names_opened) opens)

  -- ---- it opens

  module _ (bounded : IsBounded c) (few : length c.recipients ≤ 8) (built : has_branch c.recipients ≡ false)
      (some : is_empty_list c.recipients ≡ false) (lawful : IsLawfulItem item)
      (long : length drawn ≡ draw_length c) where
    fits : length (signed_names c item) ≤ 1000
    fits = omega (arith, signed_few c item (names_permuted c item), accepted.few)

    abbrev tags : List (List ℕ)
    tags = sealed_tags c drawn item bounded few built some fits long

    abbrev signing : List ℕ
    signing = signs c drawn item bounded few built some fits long

    abbrev found : Found
    found = record {
      header = sealed_header c drawn item;
      tags = tags;
      place = 0;
      data_key = drawn_key drawn;
      signing = signing;
    }

    has_header : HasHeader row (sealed_header c drawn item)
    has_header = record {
      bytes = header_text (sealed_header c drawn item);
      stored = has_head;
      is = is_header c drawn item bounded few built some fits long;
    }

    is_framed : IsFramed c row (sealed_header c drawn item) tags
    is_framed = record {
      header = has_header;
      legend = fits_legend;
      key = signed_key;
      footer = record {
        bytes = sealed_footer c drawn item;
        stored = has_foot;
        are = are_tags c drawn item bounded few built some fits long;
      };
    }

    is_found : IsFound c row found
    unfolding sealed_header
    is_found = record {
      framed = is_framed;
      seeks = subst (λ k. Seeks c.recipients (full_context c.schema c.table k (stored_pairs c))
          (map (λ (w : Wrap). w.edk) (item_wraps c drawn item)) 0 (drawn_key drawn) signing)
          (sym (ap key_or_none key_same)) (seeks c drawn item bounded few built some fits long);
    }

    is_tagged : IsTagged c row found
    is_tagged = is_first_tag c drawn item bounded few built some fits long
        ∙ ap (recipient_tag signing) (sym record_same)

    attributes_are : AttributesOpen c row found item
    unfolding sealed_header
    attributes_are = fields_open lawful

    opens_sealed : OpensSealed c row item 0
    opens_sealed = record {
      by = found;
      signed = record {
        found = is_found;
        committed = is_committed c drawn item bounded few built some fits long;
        tagged = is_tagged;
      };
      place_found = refl;
      attributes = attributes_are;
    }

    opens_first : Opens c row item 0
    opens_first = subst (λ b. OpensBy b c row item 0) (sym some) opens_sealed

    legend_same : (sealed_header c drawn item).legend ≡ map (legend_byte c) (signed_names c row)
    unfolding sealed_header
    legend_same = ap (map (legend_byte c)) (sym signed_same)

    seals : IsLawfulItem beacons → SealsToStand c drawn beacons item
    seals rise = record {
      stands = subst (λ b. StandsBy b c beacons row item) (sym some) (record {
        place = 0;
        opens = opens_first;
        header = sealed_header c drawn item;
        has = has_header;
        legend = legend_same;
        beacons_stored = beacons_same lawful rise;
      });
      opens = opens_first;
      same_key = ap key_or_none key_same;
      has_same_key = ap is_ok key_same;
    }

or_left : (a b : Bool) → (a || b) ≡ false → a ≡ false
or_left false b e = refl
or_left true b e = absurd cc

pub seals_all : (c : Setting) (drawn : List ℕ) (beacons item : List Attribute) → IsBounded c →
    length c.recipients ≤ 8 → is_not_built c ≡ false → is_empty_list c.recipients ≡ false → IsLawfulItem item →
    put_fault c item ≡ None → length drawn ≡ draw_length c → IsLawfulItem beacons →
    All (λ (a : Attribute). is_beacon_name a.0 ≡ true) beacons → SealsToStand c drawn beacons item
seals_all c drawn beacons item bounded few built some lawful accept long rise are =
    seals c drawn beacons item (recursion_from_All (λ (a : Attribute). is_beacon_name a.0 ≡ true) beacons are)
    (is_accepted c item accept) bounded few (or_left (has_branch c.recipients) _ built) some lawful long rise
