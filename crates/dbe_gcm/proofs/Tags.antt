-- Two tags, byte by byte.
use Rattle.std.proofs.Common.{inl, inr, ◌≡◌, ℕ, ◌+◌, ◌<◌, List, bit_or, bit_xor, refl, sym, ap, ◌∙◌, arith, length}
use Rattle.std.proofs.Common.{get_or}
use Rattle.std.specs.Int.Bits.{xor_assoc, xor_self, xor_zero_r}
use Rattle.std.proofs.lemmas.Nat.{le_or_l, le_or_r}
use Rattle.std.proofs.lemmas.Bool.{cases_lt}
use Rattle.std.proofs.lemmas.List.{ext_get_or}

same_from_xor : (a b : ℕ) → bit_xor a b ≡ 0 → a ≡ b
same_from_xor a b h =
    sym (xor_zero_r a) ∙ ap (bit_xor a) (sym h) ∙ sym (xor_assoc a a b) ∙ ap (λ (x : ℕ). bit_xor x b) (xor_self a)

-- a difference of 0 says that the bytes below n are the same, and is 0 where they are
pub record Tells (a b : List ℕ) (n difference : ℕ) : Type 0 where
  pub same : difference ≡ 0 → (k : ℕ) → k < n → get_or a k 0 ≡ get_or b k 0
  pub none : ((k : ℕ) → k < n → get_or a k 0 ≡ get_or b k 0) → difference ≡ 0

pub tells_none : (a b : List ℕ) → Tells a b 0 0
tells_none a b = record { same = λ h k lt. absurd (omega arith); none = λ h. refl }

pub tells_more : (a b : List ℕ) (n d : ℕ) → Tells a b n d →
    Tells a b (n + 1) (bit_or d (bit_xor (get_or a n 0) (get_or b n 0)))
tells_more a b n d t =
    let x = get_or a n 0 in
    let y = get_or b n 0 in
    let before = le_or_l d (bit_xor x y) in
    let here = le_or_r d (bit_xor x y) in
    record {
      same = λ h k lt. elim (cases_lt k n) [
        | inl p ↦ t.same (omega (arith, h)) k p
        | inr q ↦ let e : k ≡ n = omega arith in rw e (same_from_xor x y (omega (arith, h)))
      ];
      none = λ h.
          let old : d ≡ 0 = t.none (λ k lt. h k (omega arith)) in
          rw (old, h n (omega arith)) (xor_self y);
    }

pub same_list : (a b : List ℕ) → length a ≡ 16 → length b ≡ 16 → ((k : ℕ) → k < 16 → get_or a k 0 ≡ get_or b k 0) →
    a ≡ b
same_list a b la lb h = ext_get_or 0 a b (la ∙ sym lb) (λ k lt. h k (omega arith))
