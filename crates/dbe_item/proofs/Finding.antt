-- The data key of a row, its commitment and its tag.
use Rattle.std.proofs.Common.{◌≡◌, true, ℕ, ◌≤◌, List, ◌++◌, length, Option, Some, None, sym, ap, ◌∙◌, subst, arith}
use Rattle.std.proofs.Common.{length-append}
use Rattle.std.specs.Prelude.{Bool, false, IfSome, IsTrue}
use Rattle.dbe_values.specs.declared.key.KeyName.{KeyName}
use Rattle.dbe_config.specs.Bounds.{IsBounded, HasBytes}
use Rattle.dbe_config.specs.Setting.{Setting}
use Rattle.dbe_rawring.specs.Edk.{EdkParts}
use Rattle.dbe_rawring.specs.Ring.{RawRingParts}
use Rattle.dbe_values.specs.Val.{Val}
use Rattle.dbe_values.specs.Keys.{key_of}
use Rattle.dbe_values.specs.declared.value.AttrValue.{AttrValue}
use Rattle.dbe_itemkeys.specs.ItemKeys.{ItemKeysParts, item_keys, root_key}
use Rattle.dbe_frame.specs.Context.{HasShortNames, full_context}
use Rattle.dbe_frame.specs.Header.{HeaderParts, IsHeader, header_prefix}
use Rattle.dbe_frame.specs.Sizes.{most_named}
use Rattle.dbe_item.specs.Sealed.{raw_rings}
use Rattle.dbe_item.specs.Opens.{Found, IsTagged, Seeks, row_context}
use Rattle.dbe_item.specs.Opening.{SeeksNone, SeeksRing}
use Rattle.dbe_item.proofs.Seeking.{seeks_recipients, seeks_nothing}

short_sort : (sort : Option KeyName) → IfSome sort (λ key. HasBytes 1 245 key.name) →
    IfSome sort (λ key. length key.name ≤ most_named)
short_sort None h = tt
short_sort (Some key) h = omega (arith, h.1)

pub short_names : (s : Setting) → IsBounded s → HasShortNames s.schema s.table
short_names s b = record {
  table_name = b.table.1;
  partition = omega (arith, b.partition.1);
  sort = short_sort s.schema.sort b.sort;
}

-- a header has the 32 bytes of its commitment
pub long_enough : (h : HeaderParts) (bytes : List ℕ) → IsHeader h bytes → bytes ≡ header_prefix h ++ h.commitment →
    32 ≤ length bytes
long_enough h bytes is split =
    omega (
      arith,
      ap length split ∙ length-append (header_prefix h) h.commitment,
      is.parts.commitment,
    )

-- ---- a row's data key

module _ (c : Setting) (row : List (List ℕ × AttrValue)) (h : HeaderParts) where
  pub same_context : (d : Setting) (key : Val × Option Val) (stored : List (List ℕ × List ℕ)) (context : List ℕ) →
      context ≡ full_context d.schema d.table key stored → d ≡ c → key ≡ key_of c.schema row → stored ≡ h.context →
      context ≡ row_context c row h
  same_context d key stored context is same_setting same_key same_stored =
      is ∙ ap (λ (e : Setting). full_context e.schema e.table key stored) same_setting
      ∙ ap (λ (k : Val × Option Val). full_context c.schema c.table k stored) same_key
      ∙ ap (λ (ps : List (List ℕ × List ℕ)). full_context c.schema c.table (key_of c.schema row) ps) same_stored

  module _ (rings : List RawRingParts) (context : List ℕ) (edks : List EdkParts)
      (are : rings ≡ raw_rings c.recipients) (same : context ≡ row_context c row h) (all : edks ≡ h.edks) where
    pub seeks_in : (place : ℕ) (d s : List ℕ) → SeeksRing rings context edks place d s →
        Seeks c.recipients (row_context c row h) h.edks place d s
    seeks_in place d s found =
        subst (λ (es : List EdkParts). Seeks c.recipients (row_context c row h) es place d s) all (subst
        (λ (t : List ℕ). Seeks c.recipients t edks place d s) same (seeks_recipients context c.recipients edks place d s
        (subst (λ (rs : List RawRingParts). SeeksRing rs context edks place d s) are found)))

    pub seeks_none : SeeksNone rings context edks → (place : ℕ) (d s : List ℕ) →
        Seeks c.recipients (row_context c row h) h.edks place d s → ⊥
    seeks_none none place d s found =
        seeks_nothing context c.recipients edks (subst (λ (rs : List RawRingParts). SeeksNone rs context edks) are none)
        place d s (subst (λ (t : List ℕ). Seeks c.recipients t edks place d s) (sym same) (subst
        (λ (es : List EdkParts). Seeks c.recipients (row_context c row h) es place d s) (sym all) found))

-- ---- what was found

abbrev pub found_of : HeaderParts → List (List ℕ) → ℕ → List ℕ → List ℕ → Found
found_of h tags place data_key signing =
    record { header = h; tags = tags; place = place; data_key = data_key; signing = signing }

abbrev pub SaysTagged : Bool → Setting → List (List ℕ × AttrValue) → Found → Type 0
SaysTagged b c row f = (IsTrue b → IsTagged c row f) × (IsTagged c row f → IsTrue b)

module _ (c d : Setting) (row : List (List ℕ × AttrValue)) (f : Found) (b : Bool) (same : d ≡ c)
    (says : SaysTagged b d row f) where
  says_of : SaysTagged b c row f
  says_of = subst (λ (e : Setting). SaysTagged b e row f) same says

  pub tagged : b ≡ true → IsTagged c row f
  tagged e = says_of.0 e

  pub untagged : b ≡ false → IsTagged c row f → ⊥
  untagged e t = let wrong : true ≡ false = sym (says_of.1 t) ∙ e in absurd cc

pub root_of : (data_key message_id : List ℕ) (keys : ItemKeysParts) → keys ≡ item_keys data_key message_id →
    root_key data_key message_id ≡ keys.root
root_of data_key message_id keys is = sym (ap (λ (k : ItemKeysParts). k.root) is)
