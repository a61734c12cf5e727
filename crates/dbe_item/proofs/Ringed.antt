-- The rings of a configuration, and the pairs of its context.
use Rattle.std.proofs.Common.{◌≡◌, ℕ, ◌+◌, ◌<◌, ◌≤◌, List, [], ◌∷◌, ◌++◌, length, take, get_or, sym, ap, ◌∙◌}
use Rattle.std.proofs.Common.{subst, arith}
use Rattle.std.specs.List.{All}
use Rattle.std.specs.List.Sorted.{IsStrictlySortedBy}
use Rattle.std.specs.Ordering.{nat_cmp}
use Rattle.std.specs.Cmp.Lexicographic.{slice_cmp}
use Rattle.std.proofs.lemmas.List.{take_more, length-map}
use Rattle.std.proofs.lemmas.List.Elements.{filter_map-append, All-map, All-weaker}
use Rattle.std.proofs.lemmas.Simd.{map-map}
use Rattle.dbe_config.specs.Bounds.{AreInOrder, IsPair}
use Rattle.dbe_config.specs.declared.context_pair.ContextPair.{ContextPair}
use Rattle.dbe_config.specs.declared.recipient.Recipient.{Recipient}
use Rattle.dbe_rawring.specs.Ring.{RawRingParts}
use Rattle.dbe_frame.specs.Header.{ArePairs, IsShortPair}
use Rattle.dbe_item.specs.Sealed.{ring_of, raw_rings, pairs_of}

-- one recipient more
pub rings_more : (rs : List Recipient) (i : ℕ) (r : Recipient) (old new : List RawRingParts) → i < length rs →
    r ≡ get_or rs i r → old ≡ raw_rings (take i rs) → new ≡ old ++ raw_rings (r ∷ []) →
    new ≡ raw_rings (take (i + 1) rs)
rings_more rs i r old new lt is so_far pushed =
    let more : take (i + 1) rs ≡ take i rs ++ r ∷ [] = take_more rs i r lt ∙
    ap (λ (x : Recipient). take i rs ++ x ∷ []) (sym is) in
    pushed ∙ ap (λ (xs : List RawRingParts). xs ++ raw_rings (r ∷ [])) so_far
    ∙ sym (filter_map-append ring_of (take i rs) (r ∷ [])) ∙ ap raw_rings (sym more)

abbrev as_pair : ContextPair → List ℕ × List ℕ
as_pair p = (p.key, p.value)

short_pair : (p : ContextPair) → IsPair p → IsShortPair (as_pair p)
short_pair p h = (omega (arith, h.0.1), omega (arith, h.1.1))

-- a header may store the pairs of a configuration
pub pairs_are : (context : List ContextPair) → length context ≤ 32 → All IsPair context → AreInOrder context →
    ArePairs (pairs_of context)
pairs_are context few each order = record {
  few = omega (arith, length-map context as_pair, few);
  short = All-map IsShortPair as_pair context
      (All-weaker IsPair (λ p. IsShortPair (as_pair p)) short_pair context each);
  sorted = subst (IsStrictlySortedBy (slice_cmp nat_cmp)) (sym (map-map (λ (pair : List ℕ × List ℕ). pair.0) as_pair
      context)) order;
}
