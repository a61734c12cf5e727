-- Reading things of one form one after the other, as a loop does.
use Rattle.std.proofs.Common.{◌≡◌, ℕ, suc, ◌-◌, ◌+◌, ◌≤◌, ◌<◌, List, [], ◌∷◌, ◌++◌, Option, Some, None, Result, refl}
use Rattle.std.proofs.Common.{sym, ap, subst, ◌∙◌, append_assoc, append-nil, arith}
use Rattle.dbe_canon.specs.declared.fault.CanonFault.{CanonFault}
use Rattle.dbe_canon.specs.declared.fault.CanonFault.TheVariants.{NotCanonical, Memory}
use Rattle.dbe_canon.specs.Reading.{◌>>=◌, Fails, Gives, many_at}

-- a fault of the first step is one of the whole
pub Fails-first : {A B : Type 0} (e : CanonFault) (r : Option A) (f : A → Option B) → Fails e r → Fails e (r >>= f)
Fails-first Memory r f h = tt
Fails-first NotCanonical r f h = rw h

pub Fails-same : {A : Type 0} (e : CanonFault) (r s : Option A) → r ≡ s → Fails e r → Fails e s
Fails-same {A} e r s q h = subst (λ (x : Option A). Fails e x) q h

pub Gives-same : {A B : Type 0} (f : A → B) (x : Result A CanonFault) (r s : Option B) → r ≡ s → Gives f x r →
    Gives f x s
Gives-same {A} {B} f x r s q h = subst (λ (y : Option B). Gives f x y) q h

-- what was read before, and what is still read
abbrev pub behind : {X : Type 0} → List X → Option (List X × List ℕ) → Option (List X × List ℕ)
behind front read = read >>= λ x. Some (front ++ x.0, x.1)

regroup : {X : Type 0} (front : List X) (y : X) (read : Option (List X × List ℕ)) →
    behind front (read >>= λ x. Some (y ∷ x.0, x.1)) ≡ behind (front ++ y ∷ []) read
regroup {X} front y (Some x) = ap (λ (ys : List X). Some (ys, x.1)) (simp append_assoc)
regroup front y None = refl

module _ {X : Type 0} (one : List ℕ → Option (X × List ℕ)) (front : List X) (count i : ℕ) (bytes : List ℕ)
    (all : Option (List X × List ℕ)) (so_far : behind front (many_at one (count - i) bytes) ≡ all) where
  pub goes_on : (more : List X) (y : X) (after : List ℕ) → i < count → one bytes ≡ Some (y, after) →
      more ≡ front ++ y ∷ [] → behind more (many_at one (count - (i + 1)) after) ≡ all
  unfolding many_at
  goes_on more y after lt h pushed =
      let k : count - i ≡ suc (count - (i + 1)) = omega arith in
      let step : behind front (many_at one (count - i) bytes) ≡ behind (front ++ y ∷ [])
      (many_at one (count - (i + 1)) after) = rw (k, h) (regroup front y (many_at one (count - (i + 1)) after)) in
      ap (λ (ys : List X). behind ys (many_at one (count - (i + 1)) after)) pushed ∙ sym step ∙ so_far

  pub stops : (e : CanonFault) → i < count → Fails e (one bytes) → Fails e all
  unfolding many_at
  stops e lt h =
      let k : count - i ≡ suc (count - (i + 1)) = omega arith in
      let others : List ℕ → Option (List X × List ℕ) = λ rest. many_at one (count - (i + 1)) rest in
      let first : Option (List X × List ℕ) = one bytes >>= λ x. others x.1 >>= λ xs. Some (x.0 ∷ xs.0, xs.1) in
      let step : behind front (many_at one (count - i) bytes) ≡ behind front first = rw k refl in
      Fails-same e (behind front first) all (sym step ∙ so_far) (Fails-first e first (λ x. Some (front ++ x.0, x.1))
      (Fails-first e (one bytes) (λ x. others x.1 >>= λ xs. Some (x.0 ∷ xs.0, xs.1)) h))

  pub ends : count ≤ i → all ≡ Some (front, bytes)
  unfolding many_at
  ends le =
      let k : count - i ≡ 0 = omega arith in
      let step : behind front (many_at one (count - i) bytes) ≡ Some (front, bytes) =
      rw k (ap (λ (ys : List X). Some (ys, bytes)) (append-nil front)) in
      sym so_far ∙ step
