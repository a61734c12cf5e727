-- Tags of a footer.
use Rattle.std.proofs.Common.{◌≡◌, ℕ, zero, suc, ◌*◌, ◌/◌, ◌%◌, List, [], ◌∷◌, ◌++◌, length, take, drop, refl, sym}
use Rattle.std.proofs.Common.{ap, subst, ◌∙◌, arith}
use Rattle.std.specs.List.{AllByRecursion}
use Rattle.std.specs.Simd.{first_chunks}
use Rattle.std.proofs.lemmas.List.{take_at, drop_at, take-append-drop, length-take, length-drop, nil_from_length}
use Rattle.std.proofs.lemmas.List.Elements.{All-from_recursion, recursion_from_All}
use Rattle.dbe_frame.specs.Format.{joined}
use Rattle.dbe_frame.specs.Footer.{AreTags}

chunks_joined : (n k : ℕ) (xs : List ℕ) → length xs ≡ n * k → joined (first_chunks n k xs) ≡ xs
chunks_joined n zero xs e = sym (nil_from_length xs (omega (arith, e)))
chunks_joined n (suc k) xs e =
    let rest : length (drop n xs) ≡ n * k = omega (arith, e, length-drop n xs) in
    ap (λ (t : List ℕ). take n xs ++ t) (chunks_joined n k (drop n xs) rest) ∙ take-append-drop n xs

chunks_count : (n k : ℕ) (xs : List ℕ) → length (first_chunks n k xs) ≡ k
chunks_count n zero xs = refl
chunks_count n (suc k) xs = ap suc (chunks_count n k (drop n xs))

chunks_each : (n k : ℕ) (xs : List ℕ) → length xs ≡ n * k → AllByRecursion (λ t. length t ≡ n) (first_chunks n k xs)
chunks_each n zero xs e = tt
chunks_each n (suc k) xs e =
    let rest : length (drop n xs) ≡ n * k = omega (arith, e, length-drop n xs) in
    let size : length (take n xs) ≡ n = omega (arith, e, length-take n xs) in
    (size, chunks_each n k (drop n xs) rest)

pub chunks_are_tags : (n : ℕ) (bytes : List ℕ) → length bytes ≡ 48 * n → AreTags n (first_chunks 48 n bytes) bytes
chunks_are_tags n bytes e = record {
  count = chunks_count 48 n bytes;
  each =
      All-from_recursion (λ t. length t ≡ 48) (first_chunks 48 n bytes) (chunks_each 48 n bytes e);
  text =
      sym (chunks_joined 48 n bytes e);
}

pub tags_found : (n : ℕ) (bytes : List ℕ) (items front : List (List ℕ)) → AreTags n front bytes → items ≡ front →
    AreTags n items bytes
tags_found n bytes items front h e = subst (λ (ts : List (List ℕ)). AreTags n ts bytes) (sym e) h

pub front_tags : (n : ℕ) (bytes : List ℕ) (items front : List (List ℕ)) → length bytes % 48 ≡ 0 →
    length bytes / 48 ≡ n → front ≡ first_chunks 48 (length bytes / 48) bytes → items ≡ front → AreTags n items bytes
front_tags n bytes items front whole count is same =
    let size : length bytes ≡ 48 * n = omega arith in
    let made : front ≡ first_chunks 48 n bytes = is ∙ ap (λ (k : ℕ). first_chunks 48 k bytes) count in
    tags_found n bytes items (first_chunks 48 n bytes) (chunks_are_tags n bytes size) (same ∙ made)

tags_unique : (a b : List (List ℕ)) → AllByRecursion (λ t. length t ≡ 48) a → AllByRecursion (λ t. length t ≡ 48) b →
    length a ≡ length b → joined a ≡ joined b → a ≡ b
tags_unique [] [] f g n e = refl
tags_unique [] (y ∷ b) f g n e = absurd (omega arith)
tags_unique (x ∷ a) [] f g n e = absurd (omega arith)
tags_unique (x ∷ a) (y ∷ b) f g n e =
    let first : x ≡ y = sym (take_at x (joined a) 48 f.0) ∙ ap (λ (t : List ℕ). take 48 t) e ∙
    take_at y (joined b) 48 g.0 in
    let rest : joined a ≡ joined b = sym (drop_at x (joined a) 48 f.0) ∙ ap (λ (t : List ℕ). drop 48 t) e ∙
    drop_at y (joined b) 48 g.0 in
    ap (λ (t : List ℕ). t ∷ a) first ∙ ap (λ (ts : List (List ℕ)). y ∷ ts) (tags_unique a b f.1 g.1 (omega arith) rest)

pub footer_unique : (n : ℕ) (a b : List (List ℕ)) (bytes : List ℕ) → AreTags n a bytes → AreTags n b bytes → a ≡ b
footer_unique n a b bytes x y =
    tags_unique a b (recursion_from_All (λ t. length t ≡ 48) a x.each) (recursion_from_All (λ t. length t ≡ 48) b
    y.each) (x.count ∙ sym y.count) (sym x.text ∙ y.text)
