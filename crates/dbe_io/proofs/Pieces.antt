-- The bytes before the first newline.
use Rattle.std.proofs.Common.{◌≡◌, ◌≢◌, ◌==◌, ℕ, zero, suc, ◌<◌, ◌≤◌, Bool, List, [], ◌∷◌, ◌++◌, length, take, drop}
use Rattle.std.proofs.Common.{slice_index, if◌then◌else◌, refl, ap, subst, arith, true, false}
use Rattle.std.proofs.lemmas.Bool.Decides.{nat_tests}
use Rattle.dbe_io.specs.Lines.{first_piece, HasNone}

pub HasNone-head : (x : ℕ) (xs : List ℕ) → HasNone 10 (x ∷ xs) → (x == 10) ≡ false
HasNone-head x xs h = let ne : x ≢ 10 = h 0 (omega arith) in grind (arith, nat_tests)

pub HasNone-tail : (x : ℕ) (xs : List ℕ) → HasNone 10 (x ∷ xs) → HasNone 10 xs
HasNone-tail x xs h = λ k lt e. h (suc k) (omega arith) e

pub HasNone-cons : (x : ℕ) (xs : List ℕ) → (x == 10) ≡ false → HasNone 10 xs → HasNone 10 (x ∷ xs)
HasNone-cons x xs ne h zero lt e = let t : (x == 10) ≡ true = rw e refl in cc
HasNone-cons x xs ne h (suc k) lt e = h k (omega arith) e

-- a front of bytes without a newline has none
pub HasNone-front : (xs ys : List ℕ) → HasNone 10 (xs ++ ys) → HasNone 10 xs
HasNone-front [] ys h = λ k lt e. absurd (omega arith)
HasNone-front (x ∷ xs) ys h =
    HasNone-cons x xs (HasNone-head x (xs ++ ys) h) (HasNone-front xs ys (HasNone-tail x (xs ++ ys) h))

-- no newline stands before the first
HasNone-first_if : (x : ℕ) (xs : List ℕ) (t : Bool) → (x == 10) ≡ t → HasNone 10 xs →
    HasNone 10 (if t then [] else x ∷ xs)
HasNone-first_if x xs true e h = λ k lt is. absurd (omega arith)
HasNone-first_if x xs false e h = HasNone-cons x xs e h

pub HasNone-first : (bytes : List ℕ) → HasNone 10 (first_piece bytes)
HasNone-first [] = λ k lt e. absurd (omega arith)
HasNone-first (x ∷ xs) = HasNone-first_if x (first_piece xs) (x == 10) refl (HasNone-first xs)

pub HasNone-whole : (bytes : List ℕ) → first_piece bytes ≡ bytes → HasNone 10 bytes
HasNone-whole bytes e = subst (HasNone 10) e (HasNone-first bytes)

pub first_piece-none : (bytes : List ℕ) → HasNone 10 bytes → first_piece bytes ≡ bytes
first_piece-none [] h = refl
first_piece-none (x ∷ xs) h = rw (HasNone-head x xs h) (ap (λ l. x ∷ l) (first_piece-none xs (HasNone-tail x xs h)))

-- bytes without a newline, and then others
pub first_piece-append : (xs ys : List ℕ) → HasNone 10 xs → first_piece (xs ++ ys) ≡ xs ++ first_piece ys
first_piece-append [] ys h = refl
first_piece-append (x ∷ xs) ys h =
    rw (HasNone-head x xs h) (ap (λ l. x ∷ l) (first_piece-append xs ys (HasNone-tail x xs h)))

pub first_piece-line : (line rest : List ℕ) → HasNone 10 line → first_piece (line ++ 10 ∷ rest) ≡ line
first_piece-line [] rest h = refl
first_piece-line (x ∷ xs) rest h =
    rw (HasNone-head x xs h) (ap (λ l. x ∷ l) (first_piece-line xs rest (HasNone-tail x xs h)))

-- the first newline stands at k
pub first_piece-at : (bytes : List ℕ) (k : ℕ) → k < length bytes → ((j : ℕ) → j < k → slice_index bytes j ≢ 10) →
    slice_index bytes k ≡ 10 → length (first_piece bytes) ≡ k
first_piece-at [] k lt before here = absurd (omega arith)
first_piece-at (x ∷ xs) zero lt before here = let t : (x == 10) ≡ true = rw here refl in rw t refl
first_piece-at (x ∷ xs) (suc k) lt before here =
    let ne : x ≢ 10 = before 0 (omega arith) in
    let t : (x == 10) ≡ false = grind (arith, nat_tests) in
    rw t (ap suc (first_piece-at xs k (omega arith) (λ j below. before (suc j) (omega arith)) here))

-- the first newline comes after the first piece
splits_if : (x : ℕ) (xs : List ℕ) (t : Bool) → (x == 10) ≡ t → length (if t then [] else x ∷ first_piece xs) < length
    (x ∷ xs)
    → (length (first_piece xs) < length xs → xs ≡ first_piece xs ++ 10 ∷ drop (suc (length (first_piece xs))) xs)
    → x ∷ xs ≡ (if t then [] else x ∷ first_piece xs) ++ 10 ∷ drop
    (suc (length (if t then [] else x ∷ first_piece xs))) (x ∷ xs)
splits_if x xs true e lt rest = let is : x ≡ 10 = grind (arith, nat_tests) in ap (λ b. b ∷ xs) is
splits_if x xs false e lt rest = ap (λ l. x ∷ l) (rest (omega arith))

pub first_piece-splits : (bytes : List ℕ) → length (first_piece bytes) < length bytes →
    bytes ≡ first_piece bytes ++ 10 ∷ drop (suc (length (first_piece bytes))) bytes
first_piece-splits [] lt = absurd (omega arith)
first_piece-splits (x ∷ xs) lt = splits_if x xs (x == 10) refl lt (first_piece-splits xs)

take_if : (x : ℕ) (xs : List ℕ) (t : Bool) → first_piece xs ≡ take (length (first_piece xs)) xs
    → (if t then [] else x ∷ first_piece xs) ≡ take (length (if t then [] else x ∷ first_piece xs)) (x ∷ xs)
take_if x xs true rest = refl
take_if x xs false rest = ap (λ l. x ∷ l) rest

pub first_piece-take : (bytes : List ℕ) → first_piece bytes ≡ take (length (first_piece bytes)) bytes
first_piece-take [] = refl
first_piece-take (x ∷ xs) = take_if x xs (x == 10) (first_piece-take xs)

within_if : (x : ℕ) (xs : List ℕ) (t : Bool) → length (first_piece xs) ≤ length xs →
    length (if t then [] else x ∷ first_piece xs) ≤ length (x ∷ xs)
within_if x xs true rest = omega arith
within_if x xs false rest = omega arith

pub first_piece-within : (bytes : List ℕ) → length (first_piece bytes) ≤ length bytes
first_piece-within [] = omega arith
first_piece-within (x ∷ xs) = within_if x xs (x == 10) (first_piece-within xs)

-- more bytes after it make no first piece shorter
grows_if : (x : ℕ) (xs ys : List ℕ) (t : Bool) → length (first_piece xs) ≤ length (first_piece (xs ++ ys))
    → length (if t then [] else x ∷ first_piece xs) ≤ length (if t then [] else x ∷ first_piece (xs ++ ys))
grows_if x xs ys true rest = omega arith
grows_if x xs ys false rest = omega arith

pub first_piece-grows : (xs ys : List ℕ) → length (first_piece xs) ≤ length (first_piece (xs ++ ys))
first_piece-grows [] ys = omega arith
first_piece-grows (x ∷ xs) ys = grows_if x xs ys (x == 10) (first_piece-grows xs ys)
