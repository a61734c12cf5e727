-- Things of one form one behind the other: what is read was spelled so, and what is spelled so is read.
use Rattle.std.proofs.Common.{◌≡◌, ℕ, zero, suc, List, [], ◌∷◌, ◌++◌, length, Option, Some, refl, sym, ap, subst, ◌∙◌}
use Rattle.std.proofs.Common.{append_assoc, append-nil}
use Rattle.std.specs.List.{AllByRecursion}
use Rattle.dbe_canon.specs.Reading.{◌>>=◌, many_at}
use Rattle.dbe_canon.proofs.Fields.{IsBytes, bind_some, some_is, Takes, Takes-then}

abbrev pub spelled_all : {X : Type 0} → (X → List ℕ) → List X → List ℕ
spelled_all spelled [] = []
spelled_all spelled (x ∷ xs) = spelled x ++ spelled_all spelled xs

pub record AreTaken {X : Type 0} (spelled : X → List ℕ) (Good : X → Type 0) (n : ℕ) (bytes : List ℕ) (xs : List X)
    (rest : List ℕ) : Type 0 where
  pub takes : Takes bytes (spelled_all spelled xs) rest
  pub each : AllByRecursion Good xs
  pub count : length xs ≡ n

-- one thing that was read
pub record IsTaken {X : Type 0} (spelled : X → List ℕ) (Good : X → Type 0) (bytes : List ℕ) (x : X) (rest : List ℕ) :
    Type 0 where
  pub takes : Takes bytes (spelled x) rest
  pub good : Good x

pub many_taken : {X : Type 0} (spelled : X → List ℕ) (Good : X → Type 0) (one : List ℕ →
    Option (X × List ℕ)) (sound : (bytes : List ℕ) (x : X) (rest : List ℕ) → IsBytes bytes →
    one bytes ≡ Some (x, rest) → IsTaken spelled Good bytes x rest) (n : ℕ) (bytes : List ℕ) (xs : List X)
    (rest : List ℕ) → IsBytes bytes → many_at one n bytes ≡ Some (xs, rest) → AreTaken spelled Good n bytes xs rest
unfolding many_at
many_taken {X} spelled Good one sound zero bytes xs rest fits e =
    subst (λ (p : List X × List ℕ). AreTaken spelled Good 0 bytes p.0 p.1) (some_is ([], bytes) (xs, rest) e)
    (record { takes = record { parts = refl; rest_fits = fits }; each = tt; count = refl })
many_taken {X} spelled Good one sound (suc n) bytes xs rest fits e =
    let a = bind_some (one bytes) (λ x. many_at one n x.1 >>= λ ys. Some (x.0 ∷ ys.0, ys.1)) (xs, rest) e in
    let b = bind_some (many_at one n a.0.1) (λ ys. Some (a.0.0 ∷ ys.0, ys.1)) (xs, rest) a.2 in
    let first = sound bytes a.0.0 a.0.1 fits a.1 in
    let others = many_taken spelled Good one sound n a.0.1 b.0.0 b.0.1 first.takes.rest_fits b.1 in
    let whole : AreTaken spelled Good (suc n) bytes (a.0.0 ∷ b.0.0) b.0.1 = record {
      takes = Takes-then bytes (spelled a.0.0) a.0.1 (spelled_all spelled b.0.0) b.0.1 first.takes others.takes;
      each = (first.good, others.each);
      count = ap suc others.count;
    } in
    subst (λ (p : List X × List ℕ). AreTaken spelled Good (suc n) bytes p.0 p.1) (some_is (a.0.0 ∷ b.0.0, b.0.1) (
      xs,
      rest,
    ) b.2) whole

pub many_again : {X : Type 0} (spelled : X → List ℕ) (Good : X → Type 0) (one : List ℕ →
    Option (X × List ℕ)) (complete : (x : X) (rest : List ℕ) → Good x → one (spelled x ++ rest) ≡ Some (x, rest))
    (xs : List X) (rest : List ℕ) → AllByRecursion Good xs → many_at one (length xs) (spelled_all spelled xs ++ rest)
    ≡ Some (xs, rest)
unfolding many_at
many_again spelled Good one complete [] rest each = refl
many_again spelled Good one complete (x ∷ xs) rest each =
    let regrouped : spelled_all spelled (x ∷ xs) ++ rest ≡ spelled x ++ (spelled_all spelled xs ++ rest) =
    append_assoc (spelled x) (spelled_all spelled xs) rest in
    ap (many_at one (length (x ∷ xs))) regrouped ∙ rw (
      complete x (spelled_all spelled xs ++ rest) each.0,
      many_again spelled Good one complete xs rest each.1,
    ) refl

-- all of the bytes
pub many_again_all : {X : Type 0} (spelled : X → List ℕ) (Good : X → Type 0) (one : List ℕ →
    Option (X × List ℕ)) (complete : (x : X) (rest : List ℕ) → Good x → one (spelled x ++ rest) ≡ Some (x, rest))
    (xs : List X) → AllByRecursion Good xs → many_at one (length xs) (spelled_all spelled xs) ≡ Some (xs, [])
many_again_all spelled Good one complete xs each =
    ap (many_at one (length xs)) (sym (append-nil (spelled_all spelled xs))) ∙
    many_again spelled Good one complete xs [] each
