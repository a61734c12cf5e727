-- Seeking a data key among rings.
use Rattle.std.proofs.Common.{◌≡◌, inl, inr, ℕ, zero, suc, ◌+◌, ◌<◌, ◌≤◌, List, [], ◌∷◌, length, drop, get_or, sym, ap}
use Rattle.std.proofs.Common.{◌∙◌}
use Rattle.std.proofs.Common.{subst, arith}
use Rattle.std.specs.List.{All, AllByRecursion}
use Rattle.std.proofs.Math.ListN.{drop_of_length-le}
use Rattle.std.proofs.Math.Seq.{drop-cons}
use Rattle.std.proofs.lemmas.List.Elements.{All-from_recursion}
use Rattle.dbe_config.specs.declared.recipient.Recipient.{Recipient}
use Rattle.dbe_config.specs.declared.recipient.Recipient.TheVariants as recipient
use Rattle.dbe_rawring.specs.Edk.{EdkParts}
use Rattle.dbe_rawring.specs.Ring.{RawRingParts, Unwraps}
use Rattle.dbe_item.specs.Sealed.{raw_rings}
use Rattle.dbe_item.specs.Opens.{UnwrapsNothing, FirstUnwraps, Seeks}
use Rattle.dbe_item.specs.Opening.{RingUnwrapsNothing, FirstRing, NoRing, SeeksRing, SeeksNone}

pub next_of : {A : Type 0} (xs : List A) (i : ℕ) (x : A) → i < length xs → x ≡ get_or xs i x →
    drop i xs ≡ x ∷ drop (i + 1) xs
next_of xs i x lt is =
    let next : i + 1 ≡ suc i = omega arith in
    drop-cons xs i x lt ∙ ap (λ y. y ∷ drop (suc i) xs) (sym is) ∙ ap (λ k. x ∷ drop k xs) (sym next)

-- ---- one encrypted data key

-- what holds of the rings from i on holds of all
pub record RingsLeft (rings : List RawRingParts) (context : List ℕ) (edk : EdkParts) (i : ℕ) : Type 0 where
  pub found : (data_key signing : List ℕ) → FirstRing (drop i rings) context edk data_key signing →
      FirstRing rings context edk data_key signing
  pub none : NoRing (drop i rings) context edk → NoRing rings context edk

module _ (rings : List RawRingParts) (context : List ℕ) (edk : EdkParts) where
  pub rings_start : RingsLeft rings context edk 0
  rings_start = record { found = λ d s h. h; none = λ h. h }

  pub rings_next : (i : ℕ) (ring : RawRingParts) → i < length rings → ring ≡ get_or rings i ring →
      RingsLeft rings context edk i → RingUnwrapsNothing context edk ring → RingsLeft rings context edk (i + 1)
  rings_next i ring lt is left nothing =
      let next = sym (next_of rings i ring lt is) in
      record {
        found =
            λ d s h. left.found d s (subst (λ rs. FirstRing rs context edk d s) next (inr (nothing, h)));
        none = λ h. left.none (subst (λ rs. NoRing rs context edk) next (nothing, h));
      }

  pub ring_found : (i : ℕ) (ring : RawRingParts) (d s : List ℕ) → i < length rings → ring ≡ get_or rings i ring →
      RingsLeft rings context edk i → Unwraps ring context edk d s → FirstRing rings context edk d s
  ring_found i ring d s lt is left u =
      left.found d s (subst (λ rs. FirstRing rs context edk d s) (sym (next_of rings i ring lt is)) (inl u))

  pub rings_end : (i : ℕ) → length rings ≤ i → RingsLeft rings context edk i → NoRing rings context edk
  rings_end i past left = left.none (subst (λ rs. NoRing rs context edk) (sym (drop_of_length-le rings past)) tt)

-- ---- all of them

pub record EdksLeft (rings : List RawRingParts) (context : List ℕ) (edks : List EdkParts) (i : ℕ) : Type 0 where
  pub found : (place : ℕ) (data_key signing : List ℕ) → SeeksRing rings context (drop i edks) place data_key signing →
      SeeksRing rings context edks (i + place) data_key signing
  pub none : SeeksNone rings context (drop i edks) → SeeksNone rings context edks

module _ (rings : List RawRingParts) (context : List ℕ) (edks : List EdkParts) where
  pub edks_start : EdksLeft rings context edks 0
  edks_start = record {
    found = λ p d s h. let at : p ≡ 0 + p = omega arith in subst (λ n. SeeksRing rings context edks n d s) at h;
    none = λ h. h;
  }

  pub edks_next : (i : ℕ) (edk : EdkParts) → i < length edks → edk ≡ get_or edks i edk → EdksLeft rings context edks i →
      NoRing rings context edk → EdksLeft rings context edks (i + 1)
  edks_next i edk lt is left nothing =
      let next = sym (next_of edks i edk lt is) in
      record {
        found = λ p d s h.
            let at : i + suc p ≡ (i + 1) + p = omega arith in
            subst (λ n. SeeksRing rings context edks n d s) at (left.found (suc p) d s (subst
            (λ es. SeeksRing rings context es (suc p) d s) next (nothing, h)));
        none = λ h. left.none (subst (λ es. SeeksNone rings context es) next (nothing, h));
      }

  pub edk_found : (i : ℕ) (edk : EdkParts) (d s : List ℕ) → i < length edks → edk ≡ get_or edks i edk →
      EdksLeft rings context edks i → FirstRing rings context edk d s → SeeksRing rings context edks i d s
  edk_found i edk d s lt is left u =
      let at : i + 0 ≡ i = omega arith in
      subst (λ n. SeeksRing rings context edks n d s) at (left.found 0 d s (subst
      (λ es. SeeksRing rings context es 0 d s) (sym (next_of edks i edk lt is)) u))

  pub edks_end : (i : ℕ) → length edks ≤ i → EdksLeft rings context edks i → SeeksNone rings context edks
  edks_end i past left =
      left.none (subst (λ es. SeeksNone rings context es) (sym (drop_of_length-le edks past)) tt)

-- ---- the recipients of a configuration

module _ (context : List ℕ) where
  none_by_recursion : (rs : List Recipient) (edk : EdkParts) → NoRing (raw_rings rs) context edk →
      AllByRecursion (UnwrapsNothing context edk) rs
  none_by_recursion [] edk h = tt
  none_by_recursion (recipient.Raw namespace name key ∷ rs) edk h = (h.0, none_by_recursion rs edk h.1)
  none_by_recursion (recipient.Branch branch ∷ rs) edk h = (λ d s u. u, none_by_recursion rs edk h)

  no_recipient : (rs : List Recipient) (edk : EdkParts) → NoRing (raw_rings rs) context edk →
      All (UnwrapsNothing context edk) rs
  no_recipient rs edk h = All-from_recursion (UnwrapsNothing context edk) rs (none_by_recursion rs edk h)

  first_recipient : (rs : List Recipient) (edk : EdkParts) (d s : List ℕ) → FirstRing (raw_rings rs) context edk d s →
      FirstUnwraps rs context edk d s
  first_recipient [] edk d s h = h
  first_recipient (recipient.Raw namespace name key ∷ rs) edk d s (inl u) = inl u
  first_recipient (recipient.Raw namespace name key ∷ rs) edk d s (inr h) =
      inr (h.0, first_recipient rs edk d s h.1)
  first_recipient (recipient.Branch branch ∷ rs) edk d s h = inr (λ e t u. u, first_recipient rs edk d s h)

  pub seeks_recipients : (rs : List Recipient) (edks : List EdkParts) (place : ℕ) (d s : List ℕ) →
      SeeksRing (raw_rings rs) context edks place d s → Seeks rs context edks place d s
  seeks_recipients rs [] place d s h = h
  seeks_recipients rs (edk ∷ edks) zero d s h = first_recipient rs edk d s h
  seeks_recipients rs (edk ∷ edks) (suc place) d s h =
      (no_recipient rs edk h.0, seeks_recipients rs edks place d s h.1)

  not_first : (rs : List Recipient) (edk : EdkParts) (d s : List ℕ) → NoRing (raw_rings rs) context edk →
      FirstUnwraps rs context edk d s → ⊥
  not_first [] edk d s none u = u
  not_first (recipient.Raw namespace name key ∷ rs) edk d s none (inl u) = none.0 d s u
  not_first (recipient.Raw namespace name key ∷ rs) edk d s none (inr u) = not_first rs edk d s none.1 u.1
  not_first (recipient.Branch branch ∷ rs) edk d s none (inl u) = u
  not_first (recipient.Branch branch ∷ rs) edk d s none (inr u) = not_first rs edk d s none u.1

  pub seeks_nothing : (rs : List Recipient) (edks : List EdkParts) → SeeksNone (raw_rings rs) context edks →
      (place : ℕ) (d s : List ℕ) → Seeks rs context edks place d s → ⊥
  seeks_nothing rs [] none place d s u = u
  seeks_nothing rs (edk ∷ edks) none zero d s u = not_first rs edk d s none.0 u
  seeks_nothing rs (edk ∷ edks) none (suc place) d s u = seeks_nothing rs edks none.1 place d s u.1
