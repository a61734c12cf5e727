-- The header and the footer of a sealed row keep the rules of their formats.
use Rattle.std.proofs.Common.{◌≡◌, ℕ, suc, ◌+◌, ◌≤◌, Bool, true, false, ◌||◌, cond, List, [], ◌∷◌, length, map, take}
use Rattle.std.proofs.Common.{drop}
use Rattle.std.proofs.Common.{sum_by, get_or, inl, refl, sym, ap, subst, arith}
use Rattle.std.specs.List.{All, AllByRecursion}
use Rattle.std.specs.List.Sorted.{IsStrictlySortedBy}
use Rattle.std.specs.Ordering.{nat_cmp}
use Rattle.std.specs.Cmp.Lexicographic.{slice_cmp}
use Rattle.std.proofs.lemmas.List.{length-map, length-take-le, length-drop}
use Rattle.std.proofs.lemmas.List.Elements.{All-from_recursion, recursion_from_All}
use Rattle.std.proofs.lemmas.List.Sums.{sum_by-cons}
use Rattle.dbe_config.specs.Setting.{Setting}
use Rattle.dbe_config.specs.Bounds.{IsPair, IsRing}
use Rattle.dbe_config.specs.Rules.{is_empty_list, has_branch}
use Rattle.dbe_config.specs.declared.context_pair.ContextPair.{ContextPair}
use Rattle.dbe_config.specs.declared.recipient.Recipient.{Recipient}
use Rattle.dbe_config.specs.declared.recipient.Recipient.TheVariants as recipient
use Rattle.dbe_rawring.specs.Edk.{EdkParts, IsEdk}
use Rattle.dbe_rawring.specs.Ring.{raw_edk, intermediate_of}
use Rattle.dbe_rawring.specs.Wrap.{signing_key}
use Rattle.dbe_rawring.proofs.Rings.{is_mine, unwraps_raw_edk}
use Rattle.dbe_frame.specs.Header.{ArePairs, IsShortPair, is_legend_byte}
use Rattle.dbe_item.specs.Names.{is_encrypted_name, legend_byte}
use Rattle.dbe_item.specs.Opens.{Seeks}
use Rattle.dbe_item.specs.Sealed.{Wrap, wraps, raw_ring, recipient_draws}

-- ---- the legend

byte_passes : (b : Bool) → is_legend_byte 1 (cond b 101 115) ≡ true
byte_passes true = refl
byte_passes false = refl

pub legend_passes : (c : Setting) (names : List (List ℕ)) →
    AllByRecursion (λ b. is_legend_byte 1 b ≡ true) (map (legend_byte c) names)
legend_passes c [] = tt
legend_passes c (name ∷ names) = (byte_passes (is_encrypted_name c name), legend_passes c names)

-- ---- the context

pairs_short : (pairs : List ContextPair) → AllByRecursion IsPair pairs →
    AllByRecursion IsShortPair (map (λ p. (p.key, p.value)) pairs)
pairs_short [] h = tt
pairs_short (p ∷ pairs) h = ((omega (arith, h.0.0.1), omega (arith, h.0.1.1)), pairs_short pairs h.1)

pair_keys : (pairs : List ContextPair) →
    map (λ (pair : List ℕ × List ℕ). pair.0) (map (λ (p : ContextPair). (p.key, p.value)) pairs)
    ≡ map (λ (p : ContextPair). p.key) pairs
pair_keys [] = refl
pair_keys (p ∷ pairs) = ap (λ ks. p.key ∷ ks) (pair_keys pairs)

pub are_pairs : (pairs : List ContextPair) → length pairs ≤ 32 → All IsPair pairs →
    IsStrictlySortedBy (slice_cmp nat_cmp) (map (λ (p : ContextPair). p.key) pairs)
    → ArePairs (map (λ (p : ContextPair). (p.key, p.value)) pairs)
are_pairs pairs few each sorted =
    let stored : List (List ℕ × List ℕ) = map (λ (p : ContextPair). (p.key, p.value)) pairs in
    let same : length stored ≡ length pairs = length-map pairs (λ (p : ContextPair). (p.key, p.value)) in
    record {
      few = omega (arith, same, few);
      short = All-from_recursion IsShortPair stored (pairs_short pairs (recursion_from_All IsPair pairs each));
      sorted = subst (λ (ks : List (List ℕ)). IsStrictlySortedBy (slice_cmp nat_cmp) ks) (sym (pair_keys pairs)) sorted;
    }

-- ---- the encrypted data keys

or_left : (a b : Bool) → (a || b) ≡ false → a ≡ false
or_left false b e = refl
or_left true b e = absurd cc

or_right : (a b : Bool) → (a || b) ≡ false → b ≡ false
or_right false b e = e
or_right true b e = absurd cc

draws_more : (namespace name key : List ℕ) (others : List Recipient) →
    sum_by recipient_draws (recipient.Raw namespace name key ∷ others) ≡ 44 + sum_by recipient_draws others
draws_more namespace name key others = sum_by-cons recipient_draws (recipient.Raw namespace name key) others

module _ (context data_key : List ℕ) (size : length data_key ≡ 32) where
  pub wraps_count : (recipients : List Recipient) (drawn : List ℕ) → has_branch recipients ≡ false →
      length (wraps recipients context data_key drawn) ≡ length recipients
  wraps_count [] drawn built = refl
  wraps_count (recipient.Raw namespace name key ∷ others) drawn built =
      ap (λ (n : ℕ). suc n) (wraps_count others (drop 44 drawn) built)
  wraps_count (recipient.Branch branch ∷ others) drawn built = absurd cc

  edk_short : (namespace name key drawn : List ℕ) → IsRing (recipient.Raw namespace name key) →
      length drawn ≡ 44 → IsEdk (raw_edk (raw_ring namespace name key) context data_key drawn)
  edk_short namespace name key drawn ring long =
      let edk : EdkParts = raw_edk (raw_ring namespace name key) context data_key drawn in
      let mine = is_mine (raw_ring namespace name key) context edk data_key (signing_key (intermediate_of drawn))
      (unwraps_raw_edk (raw_ring namespace name key) context data_key drawn size long) in
      let n : length namespace ≤ 255 = ring.0.1 in
      let m : length name ≤ 255 = ring.1.1 in
      record { provider = omega (arith, n); info = omega (arith, m); ciphertext = omega (arith, mine.size) }

  pub wraps_short : (recipients : List Recipient) (drawn : List ℕ) → has_branch recipients ≡ false →
      AllByRecursion IsRing recipients → length drawn ≡ sum_by recipient_draws recipients →
      AllByRecursion IsEdk (map (λ (w : Wrap). w.edk) (wraps recipients context data_key drawn))
  wraps_short [] drawn built rings long = tt
  wraps_short (recipient.Raw namespace name key ∷ others) drawn built rings long =
      let sum = draws_more namespace name key others in
      let first : length (take 44 drawn) ≡ 44 = length-take-le 44 drawn (omega (arith, long, sum)) in
      let rest : length (drop 44 drawn) ≡ sum_by recipient_draws others =
      omega (arith, long, sum, length-drop 44 drawn) in (
        edk_short namespace name key (take 44 drawn) rings.0 first,
        wraps_short others (drop 44 drawn) built rings.1 rest,
      )
  wraps_short (recipient.Branch branch ∷ others) drawn built rings long = absurd cc

  -- the key with which the first recipient signs
  pub first_signing : List Wrap → List ℕ
  first_signing [] = []
  first_signing (w ∷ others) = w.signing

  pub seeks_first : (recipients : List Recipient) (drawn : List ℕ) → is_empty_list recipients ≡ false →
      has_branch recipients ≡ false → length drawn ≡ sum_by recipient_draws recipients →
      Seeks recipients context (map (λ (w : Wrap). w.edk) (wraps recipients context data_key drawn)) 0 data_key
      (first_signing (wraps recipients context data_key drawn))
  unfolding first_signing
  seeks_first [] drawn some built long = absurd cc
  seeks_first (recipient.Raw namespace name key ∷ others) drawn some built long =
      let sum = draws_more namespace name key others in
      let first : length (take 44 drawn) ≡ 44 = length-take-le 44 drawn (omega (arith, long, sum)) in
      inl (unwraps_raw_edk (raw_ring namespace name key) context data_key (take 44 drawn) size first)
  seeks_first (recipient.Branch branch ∷ others) drawn some built long = absurd cc

  -- the first tag is the first recipient's
  pub first_tag : (recipients : List Recipient) (drawn : List ℕ) (tag : List ℕ → List ℕ) →
      is_empty_list recipients ≡ false → has_branch recipients ≡ false →
      get_or (map (λ (w : Wrap). tag w.signing) (wraps recipients context data_key drawn)) 0 []
      ≡ tag (first_signing (wraps recipients context data_key drawn))
  unfolding first_signing
  first_tag [] drawn tag some built = absurd cc
  first_tag (recipient.Raw namespace name key ∷ others) drawn tag some built = refl
  first_tag (recipient.Branch branch ∷ others) drawn tag some built = absurd cc
