-- Reading things of one form one after the other, as a loop does.
use Rattle.std.proofs.Common.{◌≡◌, ℕ, suc, ◌-◌, ◌+◌, ◌≤◌, ◌<◌, List, [], ◌∷◌, ◌++◌, Option, Some, Result, Ok, Err}
use Rattle.std.proofs.Common.{refl, sym, ap, subst, ◌∙◌, append_assoc, append-nil, arith}
use Rattle.dbe_frame.specs.declared.stop.Stop.{Stop}
use Rattle.dbe_frame.specs.declared.stop.Stop.TheVariants as stop
use Rattle.dbe_frame.specs.Reading.{◌>>=◌, Fails, many_at, pair_at, pairs_at}

-- a fault of the first step is one of the whole
pub Fails-first : {A B : Type 0} (e : Stop) (r : Result A ℕ) (f : A → Result B ℕ) → Fails e r → Fails e (r >>= f)
Fails-first stop.Memory r f h = tt
Fails-first (stop.Left n) r f h = rw h refl

pub Fails-same : {A : Type 0} (e : Stop) (r s : Result A ℕ) → r ≡ s → Fails e r → Fails e s
Fails-same {A} e r s q h = subst (λ (x : Result A ℕ). Fails e x) q h

-- what was read before, and what is still read
abbrev pub behind : {X : Type 0} → List X → Result (List X × List ℕ) ℕ → Result (List X × List ℕ) ℕ
behind front read = read >>= λ x. Ok (front ++ x.0, x.1)

regroup : {X : Type 0} (front : List X) (y : X) (read : Result (List X × List ℕ) ℕ) →
    behind front (read >>= λ x. Ok (y ∷ x.0, x.1)) ≡ behind (front ++ y ∷ []) read
regroup {X} front y (Ok x) = ap (λ (ys : List X). Ok (ys, x.1)) (simp append_assoc)
regroup front y (Err left) = refl

module _ {X : Type 0} (one : List ℕ → Result (X × List ℕ) ℕ) (front : List X) (count i : ℕ) (bytes : List ℕ)
    (all : Result (List X × List ℕ) ℕ) (so_far : behind front (many_at one (count - i) bytes) ≡ all) where
  pub goes_on : (more : List X) (y : X) (after : List ℕ) → i < count → one bytes ≡ Ok (y, after) →
      more ≡ front ++ y ∷ [] → behind more (many_at one (count - (i + 1)) after) ≡ all
  unfolding many_at
  goes_on more y after lt h pushed =
      let k : count - i ≡ suc (count - (i + 1)) = omega arith in
      let step : behind front (many_at one (count - i) bytes) ≡ behind (front ++ y ∷ [])
      (many_at one (count - (i + 1)) after) = rw (k, h) (regroup front y (many_at one (count - (i + 1)) after)) in
      ap (λ (ys : List X). behind ys (many_at one (count - (i + 1)) after)) pushed ∙ sym step ∙ so_far

  pub stops : (e : Stop) → i < count → Fails e (one bytes) → Fails e all
  unfolding many_at
  stops e lt h =
      let k : count - i ≡ suc (count - (i + 1)) = omega arith in
      let others : List ℕ → Result (List X × List ℕ) ℕ = λ rest. many_at one (count - (i + 1)) rest in
      let first : Result (List X × List ℕ) ℕ = one bytes >>= λ x. others x.1 >>= λ xs. Ok (x.0 ∷ xs.0, xs.1) in
      let step : behind front (many_at one (count - i) bytes) ≡ behind front first = rw k refl in
      Fails-same e (behind front first) all (sym step ∙ so_far) (Fails-first e first (λ x. Ok (front ++ x.0, x.1))
      (Fails-first e (one bytes) (λ x. others x.1 >>= λ xs. Ok (x.0 ∷ xs.0, xs.1)) h))

  pub ends : count ≤ i → all ≡ Ok (front, bytes)
  unfolding many_at
  ends le =
      let k : count - i ≡ 0 = omega arith in
      let step : behind front (many_at one (count - i) bytes) ≡ Ok (front, bytes) =
      rw k (ap (λ (ys : List X). Ok (ys, bytes)) (append-nil front)) in
      sym so_far ∙ step

-- the same for pairs, each behind the key before it
module _ (before : Option (List ℕ)) (front : List (List ℕ × List ℕ)) (count i : ℕ) (bytes : List ℕ)
    (all : Result (List (List ℕ × List ℕ) × List ℕ) ℕ) (so_far : behind front (pairs_at before (count - i) bytes) ≡
    all) where
  pub pairs_go_on : (more : List (List ℕ × List ℕ)) (key value after : List ℕ) → i < count →
      pair_at before bytes ≡ Ok ((key, value), after) → more ≡ front ++ (key, value) ∷ [] →
      behind more (pairs_at (Some key) (count - (i + 1)) after) ≡ all
  unfolding pairs_at
  pairs_go_on more key value after lt h pushed =
      let k : count - i ≡ suc (count - (i + 1)) = omega arith in
      let step : behind front (pairs_at before (count - i) bytes) ≡ behind (front ++ (key, value) ∷ [])
      (pairs_at (Some key) (count - (i + 1)) after) =
      rw (k, h) (regroup front (key, value) (pairs_at (Some key) (count - (i + 1)) after)) in
      ap (λ (ys : List (List ℕ × List ℕ)). behind ys (pairs_at (Some key) (count - (i + 1)) after)) pushed ∙
      sym step ∙ so_far

  pub pairs_stop : (e : Stop) → i < count → Fails e (pair_at before bytes) → Fails e all
  unfolding pairs_at
  pairs_stop e lt h =
      let k : count - i ≡ suc (count - (i + 1)) = omega arith in
      let first : Result (List (List ℕ × List ℕ) × List ℕ) ℕ = pair_at before bytes >>=
      λ x. pairs_at (Some x.0.0) (count - (i + 1)) x.1 >>= λ xs. Ok (x.0 ∷ xs.0, xs.1) in
      let step : behind front (pairs_at before (count - i) bytes) ≡ behind front first = rw k refl in
      Fails-same e (behind front first) all (sym step ∙ so_far) (Fails-first e first (λ x. Ok (front ++ x.0, x.1))
      (Fails-first e (pair_at before bytes) (λ x. pairs_at (Some x.0.0) (count - (i + 1)) x.1 >>=
      λ xs. Ok (x.0 ∷ xs.0, xs.1)) h))

  pub pairs_end : count ≤ i → all ≡ Ok (front, bytes)
  unfolding pairs_at
  pairs_end le =
      let k : count - i ≡ 0 = omega arith in
      let step : behind front (pairs_at before (count - i) bytes) ≡ Ok (front, bytes) =
      rw k (ap (λ (ys : List (List ℕ × List ℕ)). Ok (ys, bytes)) (append-nil front)) in
      sym so_far ∙ step
