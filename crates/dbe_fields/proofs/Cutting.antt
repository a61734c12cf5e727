-- Where the pieces of a text end.
use Rattle.std.proofs.Common.{◌≡◌, ◌≢◌, add-one, ℕ, zero, suc, ◌+◌, ◌-◌, ◌<◌, ◌≤◌, Bool, true, false, cond}
use Rattle.std.proofs.Common.{if◌then◌else◌, List, [], ◌∷◌, length, take, drop, get_or, Some, refl, sym, ap, ◌∙◌}
use Rattle.std.proofs.Common.{arith}
use Rattle.std.specs.Prelude.{ℤ, slice_get, slice_range, ◌==◌}
use Rattle.std.specs.List.{join_with_byte, onto_first}
use Rattle.std.proofs.lemmas.Bool.Decides.{Decides-eqb}
use Rattle.std.proofs.lemmas.List.{drop_more, drop_all}
use Rattle.dbe_fields.specs.Steps.{pieces, piece_at}

-- the place of the c that has n others before it, or the length
abbrev pub end_of : ℕ → ℕ → List ℕ → ℕ
end_of c n [] = 0
end_of c zero (x ∷ xs) = if x == c then 0 else suc (end_of c zero xs)
end_of c (suc n) (x ∷ xs) = if x == c then suc (end_of c n xs) else suc (end_of c (suc n) xs)

abbrev HasFirst : List (List ℕ) → Type 0
HasFirst ps = (first : List ℕ) × (others : List (List ℕ)) × (ps ≡ first ∷ others)

has_first_by : (c x : ℕ) (xs : List ℕ) (b : Bool) → HasFirst (pieces c xs) →
    HasFirst (cond b ([] ∷ pieces c xs) (onto_first x (pieces c xs)))
has_first_by c x xs true h = ([], pieces c xs, refl)
has_first_by c x xs false h = (x ∷ h.0, h.1, ap (onto_first x) h.2)

has_first : (c : ℕ) (cs : List ℕ) → HasFirst (pieces c cs)
has_first c [] = ([], [], refl)
has_first c (x ∷ xs) = has_first_by c x xs (x == c) (has_first c xs)

-- ---- the front of a text

join_onto : (c x : ℕ) (p : List ℕ) (ps : List (List ℕ)) → join_with_byte c ((x ∷ p) ∷ ps) ≡ x ∷ join_with_byte c
    (p ∷ ps)
join_onto c x p [] = refl
join_onto c x p (q ∷ ps) = refl

join_longer : (c x n : ℕ) (ps : List (List ℕ)) → HasFirst ps → join_with_byte c (take (suc n) (onto_first x ps)) ≡ x ∷
    join_with_byte c (take (suc n) ps)
join_longer c x n ps h = rw h.2 (join_onto c x h.0 (take n h.1))

join_cut : (c n : ℕ) (ps : List (List ℕ)) → HasFirst ps → join_with_byte c (take (suc (suc n)) ([] ∷ ps)) ≡ c ∷
    join_with_byte c (take (suc n) ps)
join_cut c n ps h = rw h.2 refl

front_zero : (c x : ℕ) (xs : List ℕ) (b : Bool) → take (end_of c zero xs) xs ≡ join_with_byte c (take 1 (pieces c xs))
    → take (if b then 0 else suc (end_of c zero xs)) (x ∷ xs) ≡ join_with_byte c
    (take 1 (cond b ([] ∷ pieces c xs) (onto_first x (pieces c xs))))
front_zero c x xs true more = refl
front_zero c x xs false more = ap (λ ys. x ∷ ys) more ∙ sym (join_longer c x zero (pieces c xs) (has_first c xs))

front_suc : (c n x : ℕ) (xs : List ℕ) (b : Bool) → (b ≡ true → x ≡ c) →
    take (end_of c n xs) xs ≡ join_with_byte c (take (suc n) (pieces c xs)) →
    take (end_of c (suc n) xs) xs ≡ join_with_byte c (take (suc (suc n)) (pieces c xs))
    → take (if b then suc (end_of c n xs) else suc (end_of c (suc n) xs)) (x ∷ xs) ≡ join_with_byte c
    (take (suc (suc n)) (cond b ([] ∷ pieces c xs) (onto_first x (pieces c xs))))
front_suc c n x xs true same fewer more = ap (λ ys. x ∷ ys) fewer ∙
    ap (λ y. y ∷ join_with_byte c (take (suc n) (pieces c xs))) (same refl) ∙
    sym (join_cut c n (pieces c xs) (has_first c xs))
front_suc c n x xs false same fewer more = ap (λ ys. x ∷ ys) more ∙
    sym (join_longer c x (suc n) (pieces c xs) (has_first c xs))

pub front : (c n : ℕ) (cs : List ℕ) → take (end_of c n cs) cs ≡ join_with_byte c (take (suc n) (pieces c cs))
front c zero [] = refl
front c (suc n) [] = refl
front c zero (x ∷ xs) = front_zero c x xs (x == c) (front c zero xs)
front c (suc n) (x ∷ xs) = front_suc c n x xs (x == c) (Decides-eqb x c).0 (front c n xs) (front c (suc n) xs)

pub within : (c n : ℕ) (cs : List ℕ) → end_of c n cs ≤ length cs
within c n [] = omega arith
within c zero (x ∷ xs) = by (x == c) (within c zero xs)
  where
    by : (b : Bool) → end_of c zero xs ≤ length xs → (if b then 0 else suc (end_of c zero xs)) ≤ suc (length xs)
    by true h = omega arith
    by false h = omega arith
within c (suc n) (x ∷ xs) = by (x == c) (within c n xs) (within c (suc n) xs)
  where
    by : (b : Bool) → end_of c n xs ≤ length xs → end_of c (suc n) xs ≤ length xs →
        (if b then suc (end_of c n xs) else suc (end_of c (suc n) xs)) ≤ suc (length xs)
    by true h k = omega arith
    by false h k = omega arith

-- ---- what follows

drop_longer : (x n : ℕ) (ps : List (List ℕ)) → HasFirst ps → drop (suc n) (onto_first x ps) ≡ drop (suc n) ps
drop_longer x n ps h = rw h.2 refl

length_longer : (x : ℕ) (ps : List (List ℕ)) → HasFirst ps → length (onto_first x ps) ≡ length ps
length_longer x ps h = rw h.2 refl

pub after : (c n : ℕ) (cs : List ℕ) → end_of c n cs < length cs →
    drop (suc n) (pieces c cs) ≡ pieces c (drop (suc (end_of c n cs)) cs)
after c n [] = λ lt. absurd (omega arith)
after c zero (x ∷ xs) = by (x == c) (after c zero xs)
  where
    by : (b : Bool) → (end_of c zero xs < length xs →
        drop 1 (pieces c xs) ≡ pieces c (drop (suc (end_of c zero xs)) xs)) →
        (if b then 0 else suc (end_of c zero xs)) < suc (length xs)
        → drop 1 (cond b ([] ∷ pieces c xs) (onto_first x (pieces c xs))) ≡ pieces c
        (drop (if b then 0 else suc (end_of c zero xs)) xs)
    by true more lt = refl
    by false more lt = drop_longer x zero (pieces c xs) (has_first c xs) ∙ more (omega arith)
after c (suc n) (x ∷ xs) = by (x == c) (after c n xs) (after c (suc n) xs)
  where
    by : (b : Bool) → (end_of c n xs < length xs →
        drop (suc n) (pieces c xs) ≡ pieces c (drop (suc (end_of c n xs)) xs)) → (end_of c (suc n) xs < length xs →
        drop (suc (suc n)) (pieces c xs) ≡ pieces c (drop (suc (end_of c (suc n) xs)) xs))
        → (if b then suc (end_of c n xs) else suc (end_of c (suc n) xs)) < suc (length xs)
        → drop (suc (suc n)) (cond b ([] ∷ pieces c xs) (onto_first x (pieces c xs))) ≡ pieces c
        (drop (if b then suc (end_of c n xs) else suc (end_of c (suc n) xs)) xs)
    by true fewer more lt = fewer (omega arith)
    by false fewer more lt = drop_longer x (suc n) (pieces c xs) (has_first c xs) ∙ more (omega arith)

pub few : (c n : ℕ) (cs : List ℕ) → length cs ≤ end_of c n cs → length (pieces c cs) ≤ suc n
few c n [] = λ le. omega arith
few c zero (x ∷ xs) = by (x == c) (few c zero xs)
  where
    by : (b : Bool) → (length xs ≤ end_of c zero xs → length (pieces c xs) ≤ 1) →
        suc (length xs) ≤ (if b then 0 else suc (end_of c zero xs))
        → length (cond b ([] ∷ pieces c xs) (onto_first x (pieces c xs))) ≤ 1
    by true more le = absurd (omega arith)
    by false more le = let k = more (omega arith) in omega (arith, length_longer x (pieces c xs) (has_first c xs))
few c (suc n) (x ∷ xs) = by (x == c) (few c n xs) (few c (suc n) xs)
  where
    by : (b : Bool) → (length xs ≤ end_of c n xs → length (pieces c xs) ≤ suc n) → (length xs ≤ end_of c (suc n) xs →
        length (pieces c xs) ≤ suc (suc n))
        → suc (length xs) ≤ (if b then suc (end_of c n xs) else suc (end_of c (suc n) xs)) →
        length (cond b ([] ∷ pieces c xs) (onto_first x (pieces c xs))) ≤ suc (suc n)
    by true fewer more le = let k = fewer (omega arith) in omega arith
    by false fewer more le = let k = more (omega arith) in omega (arith, length_longer x (pieces c xs) (has_first c xs))

-- ---- as the code counts

pub front_of : (c n : ℕ) (cs : List ℕ) (e : ℕ) → e ≡ end_of c n cs →
    take e cs ≡ join_with_byte c (take (n + 1) (pieces c cs))
front_of c n cs e is = ap (λ k. take k cs) is ∙ front c n cs ∙ ap (λ k. join_with_byte c (take k (pieces c cs)))
    (sym (add-one n))

pub after_of : (c n : ℕ) (cs : List ℕ) (e : ℕ) → e ≡ end_of c n cs → e < length cs →
    drop (n + 1) (pieces c cs) ≡ pieces c (drop (e + 1) cs)
after_of c n cs e is lt =
    ap (λ k. drop k (pieces c cs)) (add-one n) ∙ after c n cs (omega arith) ∙
    ap (λ k. pieces c (drop k cs)) (sym (ap suc is) ∙ sym (add-one e))

pub few_of : (c n : ℕ) (cs : List ℕ) (e : ℕ) → e ≡ end_of c n cs → length cs ≤ e → length (pieces c cs) ≤ n + 1
few_of c n cs e is le = let k = few c n cs (omega arith) in omega arith

-- one character of a text more
step : (c n i : ℕ) (cs : List ℕ) (x : ℕ) → i < length cs → x ≡ get_or cs i x →
    end_of c n (drop i cs) ≡ end_of c n (x ∷ drop (i + 1) cs)
step c n i cs x lt is = ap (end_of c n) (drop_more cs i x lt ∙ ap (λ y. y ∷ drop (i + 1) cs) (sym is))

pub found : (c i e : ℕ) (cs : List ℕ) (x left : ℕ) → i < length cs → x ≡ get_or cs i x → x ≡ c → left ≡ 0 →
    i + end_of c left (drop i cs) ≡ e → i ≡ e
found c i e cs x left lt is cut none all =
    let one : end_of c left (drop i cs) ≡ 0 = ap (λ n. end_of c n (drop i cs)) none ∙ step c 0 i cs x lt is ∙
    ap (λ b. if b then 0 else suc (end_of c 0 (drop (i + 1) cs))) ((Decides-eqb x c).1 cut) in
    omega arith

passed_by : (c n i : ℕ) (cs : List ℕ) (x : ℕ) → x ≡ c →
    end_of c (suc n) (x ∷ drop (i + 1) cs) ≡ suc (end_of c n (drop (i + 1) cs))
passed_by c n i cs x cut =
    ap (λ b. if b then suc (end_of c n (drop (i + 1) cs)) else suc (end_of c (suc n) (drop (i + 1) cs)))
    ((Decides-eqb x c).1 cut)

pub passed : (c i e : ℕ) (cs : List ℕ) (x left : ℕ) → i < length cs → x ≡ get_or cs i x → x ≡ c → left ≢ 0 →
    i + end_of c left (drop i cs) ≡ e → i + 1 + end_of c (left - 1) (drop (i + 1) cs) ≡ e
passed c i e cs x left lt is cut some all =
    let back : left ≡ suc (left - 1) = omega arith in
    let one : end_of c left (drop i cs) ≡ suc (end_of c (left - 1) (drop (i + 1) cs)) = step c left i cs x lt is ∙
    ap (λ n. end_of c n (x ∷ drop (i + 1) cs)) back ∙ passed_by c (left - 1) i cs x cut in
    omega arith

other_by : (c n : ℕ) (xs : List ℕ) (x : ℕ) → (x == c) ≡ false → end_of c n (x ∷ xs) ≡ suc (end_of c n xs)
other_by c zero xs x no_cut = rw no_cut refl
other_by c (suc n) xs x no_cut = rw no_cut refl

pub others : (c i e : ℕ) (cs : List ℕ) (x left : ℕ) → i < length cs → x ≡ get_or cs i x → (x == c) ≡ false →
    i + end_of c left (drop i cs) ≡ e → i + 1 + end_of c left (drop (i + 1) cs) ≡ e
others c i e cs x left lt is no_cut all =
    let one : end_of c left (drop i cs) ≡ suc (end_of c left (drop (i + 1) cs)) = step c left i cs x lt is ∙
    other_by c left (drop (i + 1) cs) x no_cut in
    omega arith

pub none_left : (c i e : ℕ) (cs : List ℕ) (left : ℕ) → length cs ≤ i → i ≤ length cs →
    i + end_of c left (drop i cs) ≡ e → length cs ≡ e
none_left c i e cs left past at all =
    let one : end_of c left (drop i cs) ≡ 0 = ap (end_of c left) (drop_all i cs past) in
    omega arith

-- ---- pieces by their ranges

pub one_alone : (c : ℕ) (ps : List (List ℕ)) (k : ℕ) → k < length ps →
    slice_get ps k ≡ Some (join_with_byte c (take 1 (drop k ps)))
one_alone c [] k lt = absurd (omega arith)
one_alone c (p ∷ ps) zero lt = refl
one_alone c (p ∷ ps) (suc k) lt = one_alone c ps k (omega arith)

pub piece_found : (c : ℕ) (place : ℤ) (cs : List ℕ) (number start e : ℕ) → number < length (pieces c cs) →
    drop number (pieces c cs) ≡ pieces c (drop start cs)
    → take e (drop start cs) ≡ join_with_byte c (take 1 (pieces c (drop start cs))) →
    slice_get (pieces c cs) number ≡ piece_at place (pieces c cs)
    → Some (slice_range cs start (start + e)) ≡ piece_at place (pieces c cs)
piece_found c place cs number start e lt rest front is =
    let len : start + e - start ≡ e = omega arith in
    let same : slice_range cs start (start + e) ≡ join_with_byte c (take 1 (drop number (pieces c cs))) =
    ap (λ k. take k (drop start cs)) len ∙ front ∙ ap (λ ps. join_with_byte c (take 1 ps)) (sym rest) in
    ap Some same ∙ sym (one_alone c (pieces c cs) number lt) ∙ is

pub pieces_found : (c : ℕ) (cs : List ℕ) (first last start e : ℕ) → first < last →
    drop first (pieces c cs) ≡ pieces c (drop start cs)
    → take e (drop start cs) ≡ join_with_byte c (take (last - first - 1 + 1) (pieces c (drop start cs)))
    → slice_range cs start (start + e) ≡ join_with_byte c (take (last - first) (drop first (pieces c cs)))
pieces_found c cs first last start e lt rest front =
    let len : start + e - start ≡ e = omega arith in
    let many : last - first - 1 + 1 ≡ last - first = omega arith in
    ap (λ k. take k (drop start cs)) len ∙ front ∙ ap (λ ps. join_with_byte c (take (last - first - 1 + 1) ps))
    (sym rest) ∙ ap (λ k. join_with_byte c (take k (drop first (pieces c cs)))) many
