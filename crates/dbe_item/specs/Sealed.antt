-- The sealed row of an item (this project's own).
use Rattle.std.specs.Prelude.{ℕ, ◌+◌, List, [], ◌∷◌, map, filter, take, drop, sum_by, Option, Some, None}
use Rattle.std.specs.Prelude.{if◌then◌else◌}
use Rattle.std.specs.List.{filter_map}
use Rattle.dbe_values.specs.View.{view}
use Rattle.dbe_values.specs.Keys.{key_of}
use Rattle.dbe_values.specs.Attributes.{put_at}
use Rattle.dbe_values.specs.declared.value.AttrValue.{AttrValue, B}
use Rattle.dbe_canon.specs.Path.{path_of}
use Rattle.dbe_config.specs.Setting.{Setting}
use Rattle.dbe_config.specs.declared.context_pair.ContextPair.{ContextPair}
use Rattle.dbe_config.specs.declared.recipient.Recipient.{Recipient}
use Rattle.dbe_config.specs.declared.recipient.Recipient.TheVariants as recipient
use Rattle.dbe_rawring.specs.Edk.{EdkParts}
use Rattle.dbe_rawring.specs.Ring.{RawRingParts, raw_edk, intermediate_of}
use Rattle.dbe_rawring.specs.Wrap.{signing_key}
use Rattle.dbe_itemkeys.specs.ItemKeys.{commitment, root_key, recipient_tag}
use Rattle.dbe_itemkeys.specs.Field.{sealed_field}
use Rattle.dbe_frame.specs.Format.{joined}
use Rattle.dbe_frame.specs.Header.{HeaderParts, header_prefix, header_text}
use Rattle.dbe_frame.specs.Context.{full_context}
use Rattle.dbe_frame.specs.Signed.{signed_names}
use Rattle.dbe_frame.specs.Record.{record_text}
use Rattle.dbe_item.specs.Names.{head_name, foot_name, is_encrypted_name, legend_byte, number_of}

-- ---- the drawn bytes, in their order: the message id, the data key, and the bytes of each recipient

abbrev pub drawn_id : List ℕ → List ℕ
drawn_id drawn = take 32 drawn

abbrev pub drawn_key : List ℕ → List ℕ
drawn_key drawn = take 32 (drop 32 drawn)

abbrev pub drawn_for_recipients : List ℕ → List ℕ
drawn_for_recipients drawn = drop 64 drawn

-- an intermediate key of 32 bytes, and an IV of 12; a branch has a salt of 16 too
abbrev pub recipient_draws : Recipient → ℕ
recipient_draws (recipient.Raw namespace name key) = 44
recipient_draws (recipient.Branch branch) = 60

abbrev pub draw_length : Setting → ℕ
draw_length c = 64 + sum_by recipient_draws c.recipients

-- ---- the data key, wrapped for each recipient

abbrev pub raw_ring : List ℕ → List ℕ → List ℕ → RawRingParts
raw_ring namespace name key = record { namespace = namespace; name = name; key = key }

-- the ring of a raw recipient
abbrev pub ring_of : Recipient → Option RawRingParts
ring_of (recipient.Raw namespace name key) = Some (raw_ring namespace name key)
ring_of (recipient.Branch branch) = None

-- the rings of the raw recipients, in their order
abbrev pub raw_rings : List Recipient → List RawRingParts
raw_rings recipients = filter_map ring_of recipients

-- an encrypted data key, and the key with which its recipient signs
pub record Wrap : Type 0 where
  pub edk : EdkParts
  pub signing : List ℕ

-- in the order of the configuration; recipients of branches are not built yet
abbrev pub wraps : List Recipient → List ℕ → List ℕ → List ℕ → List Wrap
wraps [] context data_key drawn = []
wraps (recipient.Raw namespace name key ∷ others) context data_key drawn =
    (record {
      edk = raw_edk (raw_ring namespace name key) context data_key (take 44 drawn);
      signing = signing_key (intermediate_of (take 44 drawn));
    }) ∷ wraps others context data_key (drop 44 drawn)
wraps (recipient.Branch branch ∷ others) context data_key drawn = wraps others context data_key (drop 60 drawn)

-- ---- the header

abbrev pub pairs_of : List ContextPair → List (List ℕ × List ℕ)
pairs_of context = map (λ p. (p.key, p.value)) context

-- the pairs of the configuration, in order of keys
abbrev pub stored_pairs : Setting → List (List ℕ × List ℕ)
stored_pairs c = pairs_of c.context

abbrev pub item_context : Setting → List (List ℕ × AttrValue) → List ℕ
item_context c item = full_context c.schema c.table (key_of c.schema item) (stored_pairs c)

abbrev pub item_wraps : Setting → List ℕ → List (List ℕ × AttrValue) → List Wrap
item_wraps c drawn item =
    wraps c.recipients (item_context c item) (drawn_key drawn) (drawn_for_recipients drawn)

-- the header before its commitment is known
abbrev pub uncommitted : Setting → List ℕ → List (List ℕ × AttrValue) → HeaderParts
uncommitted c drawn item = record {
  message_id = drawn_id drawn;
  legend = map (legend_byte c) (signed_names c item);
  context = stored_pairs c;
  edks = map (λ w. w.edk) (item_wraps c drawn item);
  commitment = [];
}

unfoldable pub sealed_header : Setting → List ℕ → List (List ℕ × AttrValue) → HeaderParts
sealed_header c drawn item = record (uncommitted c drawn item) {
  commitment = commitment (drawn_key drawn) (drawn_id drawn) (header_prefix (uncommitted c drawn item));
}

-- ---- the attributes

-- the names of an item that are encrypted, in canonical order
abbrev pub encrypted_names : Setting → List (List ℕ × AttrValue) → List (List ℕ)
encrypted_names c item = filter (is_encrypted_name c) (signed_names c item)

-- An encrypted attribute is its stored field, numbered among the encrypted names; another stays as it is.
abbrev pub sealed_attribute : Setting → List ℕ → List (List ℕ) → List ℕ × AttrValue → List ℕ × AttrValue
sealed_attribute c root names a = if is_encrypted_name c a.0 then (
  a.0,
  B (sealed_field root (number_of a.0 names) (path_of c.table a.0) (view a.1)),
) else a

unfoldable pub sealed_attributes : Setting → List ℕ → List (List ℕ × AttrValue) → List (List ℕ × AttrValue)
sealed_attributes c drawn item =
    map (sealed_attribute c (root_key (drawn_key drawn) (drawn_id drawn)) (encrypted_names c item)) item

-- ---- the footer, and the row

-- the text that the recipients sign
abbrev pub sealed_record : Setting → List ℕ → List (List ℕ × AttrValue) → List ℕ
sealed_record c drawn item =
    record_text (header_text (sealed_header c drawn item)) c (sealed_attributes c drawn item)
    (map (legend_byte c) (signed_names c item))

-- a tag for each recipient, in the order of the configuration
unfoldable pub sealed_footer : Setting → List ℕ → List (List ℕ × AttrValue) → List ℕ
sealed_footer c drawn item =
    joined (map (λ w. recipient_tag w.signing (sealed_record c drawn item)) (item_wraps c drawn item))

-- attributes put among others
abbrev pub put_all : List (List ℕ × AttrValue) → List (List ℕ × AttrValue) → List (List ℕ × AttrValue)
put_all [] row = row
put_all (a ∷ others) row = put_all others (put_at a.0 a.1 row)

-- the sealed row: the attributes, the header, the footer and the beacon attributes
unfoldable pub sealed_row : Setting → List ℕ → List (List ℕ × AttrValue) → List (List ℕ × AttrValue) →
    List (List ℕ × AttrValue)
sealed_row c drawn beacons item =
    put_all beacons
    (put_at foot_name (B (sealed_footer c drawn item))
    (put_at head_name (B (header_text (sealed_header c drawn item)))
    (sealed_attributes c drawn item)))
