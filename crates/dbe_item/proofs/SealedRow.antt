-- The parts of a row are those of the sealed row.
use Rattle.std.proofs.Common.{◌≡◌, ℕ, ◌≤◌, Bool, true, false, cond, List, [], ◌∷◌, ◌++◌, length, take, drop, map}
use Rattle.std.proofs.Common.{eqb, refl, sym, ap, ◌∙◌, subst, arith, Option, Some, None, Result, Ok, Err, nat_lt}
use Rattle.std.specs.Prelude.{not, is_ok}
use Rattle.std.specs.Result.{result_err}
use Rattle.std.specs.List.{filter}
use Rattle.std.specs.List.Sorted.{IsPermutation, IsStrictlySortedBy}
use Rattle.std.proofs.lemmas.Bool.Decides.{nat_tests}
use Rattle.std.proofs.lemmas.List.{length-map}
use Rattle.std.proofs.lemmas.List.Elements.{All-map}
use Rattle.std.proofs.lemmas.List.Sums.{length-filter, count_by-le-length}
use Rattle.std.proofs.lemmas.List.Kept.{IsStrictlySortedBy-filter}
use Rattle.std.proofs.lemmas.List.Sorted.{length_permutation}
use Rattle.std.proofs.lemmas.Simd.{map-map}
use Rattle.sha2.specs.Sha512.{sha384}
use Rattle.dbe_kdf.specs.Hmac.{hmac}
use Rattle.dbe_values.specs.Val.{Val}
use Rattle.dbe_values.specs.Attributes.{put_at}
use Rattle.dbe_values.specs.Keys.{has_key, key_fault, row_key}
use Rattle.dbe_values.specs.Lawful.{names_of}
use Rattle.dbe_values.specs.declared.value.AttrValue.{AttrValue, B}
use Rattle.dbe_rawring.specs.Edk.{EdkParts}
use Rattle.dbe_canon.specs.Path.{name_cmp}
use Rattle.dbe_config.specs.Setting.{Setting}
use Rattle.dbe_config.specs.Actions.{is_unsigned}
use Rattle.dbe_itemkeys.specs.ItemKeys.{ItemKeysParts, item_keys, commit_key, root_key, commitment, recipient_tag}
use Rattle.dbe_frame.specs.Format.{joined}
use Rattle.dbe_frame.specs.Header.{HeaderParts, IsLegend, is_legend_byte, header_prefix, header_text}
use Rattle.dbe_frame.specs.Record.{entries_text}
use Rattle.dbe_frame.specs.Signed.{name_below, signed_among, signed_names}
use Rattle.dbe_frame.specs.Sorted.{in_order}
use Rattle.dbe_frame.specs.Sizes.{encrypted, signed_only, version_1}
use Rattle.dbe_item.specs.declared.fault.PutFault.{PutFault}
use Rattle.dbe_item.specs.declared.fault.PutFault.TheVariants as f
use Rattle.dbe_item.specs.Acceptance.{put_fault, or_next, fault_of_key, reserved_fault, unknown_fault, fault_where}
use Rattle.dbe_item.specs.Acceptance.{first_name}
use Rattle.dbe_item.specs.Acceptance.{is_unknown, item_size}
use Rattle.dbe_config.specs.Actions.{is_reserved}
use Rattle.dbe_item.specs.Names.{head_name, foot_name, is_encrypted_name, legend_byte, marked}
use Rattle.dbe_item.specs.Sealed.{Wrap, drawn_id, drawn_key, item_wraps, uncommitted, sealed_header, encrypted_names}
use Rattle.dbe_item.specs.Sealed.{stored_pairs}
use Rattle.dbe_item.specs.Sealed.{sealed_attribute, sealed_attributes, sealed_record, sealed_footer, put_all}
use Rattle.dbe_item.specs.Sealed.{sealed_row}
use Rattle.dbe_item.specs.Sealing.{committed}
use Rattle.dbe_item.proofs.SealedNames.{same_names}

abbrev Attributes : Type 0
Attributes = List (List ℕ × AttrValue)

-- ---- what is accepted

none_first : (a b : Option PutFault) → or_next a b ≡ None → a ≡ None
none_first None b e = refl
none_first (Some x) b e = absurd cc

none_second : (a b : Option PutFault) → or_next a b ≡ None → b ≡ None
none_second None b e = e
none_second (Some x) b e = absurd cc

no_key_fault : (r : Result (Val × Option Val) (List ℕ)) → fault_of_key (result_err r) ≡ None → is_ok r ≡ true
no_key_fault (Ok k) e = refl
no_key_fault (Err name) e = absurd cc

not_broken : (b : Bool) (x : PutFault) → fault_where b x ≡ None → b ≡ false
not_broken false x e = refl
not_broken true x e = absurd cc

module _ (c : Setting) (item : Attributes) (accepted : put_fault c item ≡ None) where
  pub accepted_key : has_key c.schema item ≡ true
  accepted_key = no_key_fault (row_key c.schema item) (none_first (fault_of_key (key_fault c.schema item)) _ accepted)

  pub accepted_few : length item ≤ 1000
  accepted_few =
      let second = none_second (fault_of_key (key_fault c.schema item)) (or_next (reserved_fault
      (first_name is_reserved item)) (or_next (unknown_fault (first_name (is_unknown c) item)) (or_next
      (fault_where (nat_lt 1000 (length item)) f.TooMany)
      (fault_where (nat_lt 409600 (item_size item)) f.Size)))) accepted in
      let third = none_second (reserved_fault (first_name is_reserved item)) (or_next (unknown_fault
      (first_name (is_unknown c) item)) (or_next (fault_where (nat_lt 1000 (length item)) f.TooMany) (fault_where
      (nat_lt 409600 (item_size item)) f.Size))) second in
      let fourth = none_second (unknown_fault (first_name (is_unknown c) item)) (or_next (fault_where (nat_lt 1000
      (length item)) f.TooMany) (fault_where (nat_lt 409600 (item_size item)) f.Size)) third in
      at_most (length item) (not_broken (nat_lt 1000 (length item)) f.TooMany (none_first (fault_where (nat_lt 1000
      (length item)) f.TooMany) (fault_where (nat_lt 409600 (item_size item)) f.Size) fourth))
    where
      at_most : (n : ℕ) → nat_lt 1000 n ≡ false → n ≤ 1000
      at_most n e = grind (arith, nat_tests)

-- ---- names and legend

pub signed_few : (c : Setting) (item : Attributes) → IsPermutation (signed_among c item) (signed_names c item) →
    length (signed_names c item) ≤ length item
signed_few c item same =
    let among = length-filter (λ (name : List ℕ). not (is_unsigned c.schema c.actions c.unsigned_prefix name))
    (names_of item) in
    let less = count_by-le-length (λ (name : List ℕ). not (is_unsigned c.schema c.actions c.unsigned_prefix name))
    (names_of item) in
    let long = length-map item (λ (a : List ℕ × AttrValue). a.0) in
    let sorted = length_permutation (signed_among c item) (signed_names c item) same in
    omega (arith, among, less, long, sorted)

one_legend : (b : Bool) → is_legend_byte version_1 (cond b encrypted signed_only) ≡ true
one_legend true = refl
one_legend false = refl

pub legend_is : (c : Setting) (names : List (List ℕ)) → length names ≤ 65535 →
    IsLegend version_1 (map (legend_byte c) names)
legend_is c names few = record {
  short = omega (arith, length-map names (legend_byte c), few);
  each = All-map (λ b. is_legend_byte version_1 b ≡ true) (legend_byte c) names (λ k d lt. one_legend
      (is_encrypted_name c _));
}

mark_one : (b : Bool) (name : List ℕ) (names : List (List ℕ)) →
    cond (eqb (cond b encrypted signed_only) encrypted) (name ∷ names) names ≡ cond b (name ∷ names) names
mark_one true name names = refl
mark_one false name names = refl

pub marked_are : (c : Setting) (names : List (List ℕ)) →
    marked names (map (legend_byte c) names) ≡ filter (is_encrypted_name c) names
marked_are c [] = refl
marked_are c (name ∷ names) = mark_one (is_encrypted_name c name) name (marked names (map (legend_byte c) names)) ∙
    ap (λ (ns : List (List ℕ)). cond (is_encrypted_name c name) (name ∷ ns) ns) (marked_are c names)

-- ---- the header

abbrev parts : List ℕ → List ℕ → List (List ℕ × List ℕ) → List EdkParts → HeaderParts
parts id legend context edks = record {
  message_id = id;
  legend = legend;
  context = context;
  edks = edks;
  commitment = [];
}

pub uncommitted_is : (c s : Setting) (drawn : List ℕ) (item : Attributes) (id legend : List ℕ) (edks : List EdkParts) →
    (h : HeaderParts) → s ≡ c → id ≡ take 32 drawn → legend ≡ map (legend_byte c) (signed_names c item) →
    edks ≡ map (λ (w : Wrap). w.edk) (item_wraps c drawn item) →
    h ≡ record { message_id = id; legend = legend; context = stored_pairs s; edks = edks; commitment = [] } →
    h ≡ uncommitted c drawn item
uncommitted_is c s drawn item id legend edks h is_c is_id is_legend is_edks is = is
    ∙ ap (λ (x : Setting). parts id legend (stored_pairs x) edks) is_c
    ∙ ap (λ (x : List ℕ). parts x legend (stored_pairs c) edks) is_id
    ∙ ap (λ (x : List ℕ). parts (take 32 drawn) x (stored_pairs c) edks) is_legend
    ∙ ap (λ (x : List EdkParts). parts (take 32 drawn) (map (legend_byte c) (signed_names c item))
    (stored_pairs c) x) is_edks

pub keys_are : (drawn data_key id : List ℕ) (keys : ItemKeysParts) → data_key ≡ take 32 (drop 32 drawn) →
    id ≡ take 32 drawn → keys ≡ item_keys data_key id → keys ≡ item_keys (drawn_key drawn) (drawn_id drawn)
keys_are drawn data_key id keys is_key is_id is = is ∙ ap (λ (k : List ℕ). item_keys k id) is_key ∙
    ap (item_keys (take 32 (drop 32 drawn))) is_id

pub names_are : (c s : Setting) (item : Attributes) (names : List (List ℕ)) → s ≡ c → names ≡ signed_names s item →
    names ≡ signed_names c item
names_are c s item names is_c is = is ∙ ap (λ (x : Setting). signed_names x item) is_c

pub legend_are : (c s : Setting) (item : Attributes) (names seen : List (List ℕ)) (legend : List ℕ) → s ≡ c →
    names ≡ signed_names c item → seen ≡ names → legend ≡ map (legend_byte s) seen →
    legend ≡ map (legend_byte c) (signed_names c item)
legend_are c s item names seen legend is_c is_names is_seen is = is ∙
    ap (λ (x : Setting). map (legend_byte x) seen) is_c ∙ ap (map (legend_byte c)) (is_seen ∙ is_names)

pub legend_long : (c : Setting) (item : Attributes) (names : List (List ℕ)) (legend : List ℕ) →
    names ≡ signed_names c item → legend ≡ map (legend_byte c) (signed_names c item) → length legend ≡ length names
legend_long c item names legend is_names is = ap (λ (l : List ℕ). length l) is ∙
    length-map (signed_names c item) (legend_byte c) ∙ ap (λ (ns : List (List ℕ)). length ns) (sym is_names)

pub head_is : (c : Setting) (drawn : List ℕ) (item : Attributes) (h : HeaderParts) (keys : ItemKeysParts)
    (out : List ℕ) →
    committed h [] ≡ uncommitted c drawn item → header_prefix (committed h []) ≡ header_prefix h →
    keys ≡ item_keys (drawn_key drawn) (drawn_id drawn) →
    out ≡ header_text (committed h (take 32 (hmac sha384 keys.commit (header_prefix h)))) →
    out ≡ header_text (sealed_header c drawn item)
unfolding sealed_header commitment
head_is c drawn item h keys out is apart is_keys is_out =
    let u : HeaderParts = uncommitted c drawn item in
    let prefix : header_prefix h ≡ header_prefix u = sym apart ∙ ap header_prefix is in
    is_out
    ∙ ap (λ (k : ItemKeysParts). header_text (committed h (take 32 (hmac sha384 k.commit (header_prefix h))))) is_keys
    ∙ ap (λ (p : List ℕ). header_text (committed h (take 32 (hmac sha384 (commit_key (drawn_key drawn)
    (drawn_id drawn)) p)))) prefix
    ∙ ap (λ (x : HeaderParts). header_text (committed x (take 32 (hmac sha384 (commit_key (drawn_key drawn)
    (drawn_id drawn)) (header_prefix u))))) is

-- ---- the row

pub attributes_are : (c : Setting) (drawn : List ℕ) (item row : Attributes) (keys : ItemKeysParts)
    (names : List (List ℕ)) → keys ≡ item_keys (drawn_key drawn) (drawn_id drawn) →
    names ≡ encrypted_names c item → row ≡ map (sealed_attribute c keys.root names) item →
    row ≡ sealed_attributes c drawn item
unfolding sealed_attributes
attributes_are c drawn item row keys names is_keys is_names is_row = is_row
    ∙ ap (λ (k : ItemKeysParts). map (sealed_attribute c k.root names) item) is_keys
    ∙ ap (λ (ns : List (List ℕ)). map (sealed_attribute c
    (root_key (drawn_key drawn) (drawn_id drawn)) ns) item) is_names

sealed_signed : (c : Setting) (drawn : List ℕ) (item : Attributes) →
    signed_names c item ≡ signed_names c (sealed_attributes c drawn item)
unfolding sealed_attributes
sealed_signed c drawn item = ap (λ (ns : List (List ℕ)). in_order name_below (filter (λ name. not (is_unsigned c.schema
    c.actions c.unsigned_prefix name)) ns)) (sym (same_names c _ _ item))

pub foot_is : (c : Setting) (drawn : List ℕ) (item row : Attributes) (head legend out : List ℕ)
    (names signing : List (List ℕ)) → head ≡ header_text (sealed_header c drawn item) →
    row ≡ sealed_attributes c drawn item → names ≡ signed_names c item →
    legend ≡ map (legend_byte c) (signed_names c item) → signing ≡ map (λ (w : Wrap). w.signing)
    (item_wraps c drawn item) →
    out ≡ joined (map (λ key. recipient_tag key (head ++ entries_text c.table row names legend)) signing) →
    out ≡ sealed_footer c drawn item
unfolding sealed_footer
foot_is c drawn item row head legend out names signing is_head is_row is_names is_legend is_signing is_out =
    let text : head ++ entries_text c.table row names legend ≡ sealed_record c drawn item =
    ap (λ (h : List ℕ). h ++ entries_text c.table row names legend) is_head
    ∙ ap (λ (r : Attributes). header_text (sealed_header c drawn item) ++ entries_text c.table r names legend) is_row
    ∙ ap (λ (ns : List (List ℕ)). header_text (sealed_header c drawn item) ++ entries_text c.table
    (sealed_attributes c drawn item) ns legend) (is_names ∙ sealed_signed c drawn item)
    ∙ ap (λ (l : List ℕ). header_text (sealed_header c drawn item) ++ entries_text c.table
    (sealed_attributes c drawn item) (signed_names c (sealed_attributes c drawn item)) l) is_legend in
    is_out ∙ ap (λ (t : List ℕ). joined (map (λ key. recipient_tag key t) signing)) text
    ∙ ap (λ (ss : List (List ℕ)). joined (map (λ key. recipient_tag key (sealed_record c drawn item)) ss)) is_signing
    ∙ ap joined (map-map (λ key. recipient_tag key (sealed_record c drawn item)) (λ (w : Wrap). w.signing)
    (item_wraps c drawn item))

pub row_is : (c : Setting) (drawn : List ℕ) (beacons item row out : Attributes) (head foot : List ℕ) →
    head ≡ header_text (sealed_header c drawn item) → row ≡ sealed_attributes c drawn item →
    foot ≡ sealed_footer c drawn item →
    out ≡ put_all beacons (put_at foot_name (B foot) (put_at head_name (B head) row)) →
    out ≡ sealed_row c drawn beacons item
unfolding sealed_row
row_is c drawn beacons item row out head foot is_head is_row is_foot is_out = is_out
    ∙ ap (λ (h : List ℕ). put_all beacons (put_at foot_name (B foot) (put_at head_name (B h) row))) is_head
    ∙ ap (λ (r : Attributes). put_all beacons (put_at foot_name (B foot) (put_at head_name (B (header_text
    (sealed_header c drawn item))) r))) is_row
    ∙ ap (λ (x : List ℕ). put_all beacons (put_at foot_name (B x) (put_at head_name (B (header_text
    (sealed_header c drawn item))) (sealed_attributes c drawn item)))) is_foot

-- ---- the footer's tags

pub tags_are : (table : List ℕ) (row : Attributes) (names : List (List ℕ))
    (head seen legend shown digest out : List ℕ) →
    (signing keys : List (List ℕ)) → seen ≡ head → shown ≡ legend → keys ≡ signing →
    digest ≡ sha384 (seen ++ entries_text table row names shown) →
    out ≡ joined (map (λ key. hmac sha384 key digest) keys) →
    out ≡ joined (map (λ key. recipient_tag key (head ++ entries_text table row names legend)) signing)
unfolding recipient_tag
tags_are table row names head seen legend shown digest out signing keys is_seen is_shown is_keys is is_out = is_out
    ∙ ap (λ (d : List ℕ). joined (map (λ key. hmac sha384 key d) keys)) (is ∙
    ap (λ (x : List ℕ). sha384 (x ++ entries_text table row names shown)) is_seen ∙
    ap (λ (x : List ℕ). sha384 (head ++ entries_text table row names x)) is_shown)
    ∙ ap (λ (ks : List (List ℕ)). joined (map (λ key. hmac sha384 key (sha384 (head ++ entries_text table row names
    legend))) ks)) is_keys

-- ---- the encrypted names

pub encrypted_are : (c : Setting) (item : Attributes) (names found : List (List ℕ)) (legend : List ℕ) →
    names ≡ signed_names c item → legend ≡ map (legend_byte c) (signed_names c item) → found ≡ marked names legend →
    found ≡ encrypted_names c item
encrypted_are c item names found legend is_names is_legend is = is ∙
    ap (λ (ns : List (List ℕ)). marked ns legend) is_names ∙ ap (marked (signed_names c item)) is_legend ∙
    marked_are c (signed_names c item)

pub encrypted_sorted : (c : Setting) (item : Attributes) (found : List (List ℕ)) → found ≡ encrypted_names c item →
    IsStrictlySortedBy name_cmp (signed_names c item) → IsStrictlySortedBy name_cmp found
encrypted_sorted c item found is sorted = subst (IsStrictlySortedBy name_cmp) (sym is)
    (IsStrictlySortedBy-filter name_cmp (is_encrypted_name c) (signed_names c item) sorted)

pub encrypted_few : (c : Setting) (item : Attributes) (found : List (List ℕ)) → found ≡ encrypted_names c item →
    length (signed_names c item) ≤ length item → length item ≤ 1000 → length found ≤ 65535
encrypted_few c item found is signed few =
    let count : length found ≡ length (encrypted_names c item) = ap (λ (ns : List (List ℕ)). length ns) is in
    let among = length-filter (is_encrypted_name c) (signed_names c item) in
    let less = count_by-le-length (is_encrypted_name c) (signed_names c item) in
    omega (arith, count, among, less, signed, few)
