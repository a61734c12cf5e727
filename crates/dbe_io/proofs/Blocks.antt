-- A block of which a part is held, after bytes that hold no newline.
use Rattle.std.proofs.Common.{◌≡◌, ℕ, suc, ◌+◌, ◌-◌, ◌<◌, ◌≤◌, List, ◌∷◌, ◌++◌, length, take, drop, slice_index}
use Rattle.std.proofs.Common.{slice_range, refl, sym, ap, subst, ◌∙◌, arith, eqb-true, append_assoc, length-append}
use Rattle.std.proofs.Common.{length-take, length-drop}
use Rattle.std.proofs.lemmas.List.{take-take, drop-drop, drop-take}
use Rattle.memchr.specs.Find.{is_byte, Nowhere, Passes, NoneBefore}
use Rattle.dbe_io.specs.Lines.{first_piece, HasNone}
use Rattle.dbe_io.specs.Steps.{EndsAt}
use Rattle.dbe_io.proofs.Pieces.{HasNone-whole, first_piece-none, first_piece-append, first_piece-at}
use Rattle.dbe_io.proofs.Pieces.{first_piece-splits, first_piece-take}

-- no newline was found in the block
pub none_found : (partial bytes : List ℕ) → first_piece partial ≡ partial →
    Nowhere (Passes (is_byte 10) bytes) 0 (length bytes) → first_piece (partial ++ bytes) ≡ partial ++ bytes
none_found partial bytes searched none =
    let has_none : HasNone 10 bytes = λ k lt e. none k (omega arith) lt (rw e refl) in
    first_piece-append partial bytes (HasNone-whole partial searched) ∙
    ap (λ l. partial ++ l) (first_piece-none bytes has_none)

-- the first newline was found in the block
pub found_at : (partial bytes : List ℕ) (k : ℕ) → first_piece partial ≡ partial →
    NoneBefore (Passes (is_byte 10) bytes) 0 (length bytes) k → Passes (is_byte 10) bytes k →
    EndsAt (partial ++ bytes) (length partial + k)
found_at partial bytes k searched first here =
    let is : slice_index bytes k ≡ 10 = eqb-true _ _ here in
    let before = λ (j : ℕ) (below : j < k) (e : slice_index bytes j ≡ 10). first.before j (omega arith) below
    (rw e refl) in
    let place : length (first_piece bytes) ≡ k = first_piece-at bytes k first.high before is in
    record {
      place = ap length (first_piece-append partial bytes (HasNone-whole partial searched)) ∙
          length-append partial (first_piece bytes) ∙ ap (λ n. length partial + n) place;
      within = let high : k < length bytes = first.high in omega (arith, length-append partial bytes);
    }

part_front : (block : List ℕ) (start end k : ℕ) → k ≤ end - start →
    slice_range block start (start + k) ≡ take k (slice_range block start end)
part_front block start end k le =
    let count : start + k - start ≡ k = omega arith in
    rw count (sym (take-take k (end - start) (drop start block) le))

part_back : (block : List ℕ) (start end k : ℕ) → k ≤ end - start →
    slice_range block (start + k) end ≡ drop k (slice_range block start end)
part_back block start end k le =
    let split : end - start ≡ k + (end - (start + k)) = omega arith in
    rw split (sym (drop-take k (end - (start + k)) (drop start block) ∙
    ap (take (end - (start + k))) (drop-drop k start block)))

-- a line is taken from the front, up to a place of the block
pub record TakesLine (partial block : List ℕ) (start end place : ℕ) : Type 0 where
  pub inside : place < end
  pub line : partial ++ slice_range block start place ≡ first_piece (partial ++ slice_range block start end)
  pub whole : partial ++ slice_range block start end ≡ (partial ++ slice_range block start place) ++ 10 ∷ slice_range
      block (place + 1) end

takes_line_of : (partial block : List ℕ) (start end place k : ℕ) → HasNone 10 partial → place ≡ start + k →
    start + k < end
    → length (first_piece (slice_range block start end)) ≡ k → k < length (slice_range block start end) →
    TakesLine partial block start end place
takes_line_of partial block start end place k none place_is within is_first in_block =
    let bytes = slice_range block start end in
    let piece : first_piece (partial ++ bytes) ≡ partial ++ first_piece bytes = first_piece-append partial bytes none in
    let front : slice_range block start (start + k) ≡ first_piece bytes = part_front block start end k (omega arith) ∙
    ap (λ n. take n bytes) (sym is_first) ∙ sym (first_piece-take bytes) in
    let next : start + k + 1 ≡ start + suc k = omega arith in
    let back : slice_range block (start + k + 1) end ≡ drop (suc k) bytes = ap (λ n. slice_range block n end) next ∙
    part_back block start end (suc k) (omega arith) in
    let splits : bytes ≡ first_piece bytes ++ 10 ∷ drop (suc k) bytes =
    subst (λ (n : ℕ). bytes ≡ first_piece bytes ++ 10 ∷ drop (suc n) bytes) is_first (first_piece-splits bytes
    (omega arith)) in
    rw place_is record {
      inside = within;
      line = ap (λ l. partial ++ l) front ∙ sym piece;
      whole = ap (λ l. partial ++ l) splits ∙ sym (append_assoc partial (first_piece bytes) (10 ∷ drop (suc k) bytes))
          ∙ ap (λ l. (partial ++ l) ++ 10 ∷ drop (suc k) bytes) (sym front) ∙
          ap (λ l. (partial ++ slice_range block start (start + k)) ++ 10 ∷ l) (sym back);
    }

pub after_partial : (partial bytes : List ℕ) (at : ℕ) → first_piece partial ≡ partial → EndsAt (partial ++ bytes) at →
    length partial + length (first_piece bytes) ≡ at
after_partial partial bytes at searched ends =
    sym (length-append partial (first_piece bytes)) ∙
    ap length (sym (first_piece-append partial bytes (HasNone-whole partial searched))) ∙ ends.place

pub takes_line : (partial block : List ℕ) (start end at place : ℕ) → first_piece partial ≡ partial → start ≤ end →
    end ≤ length block
    → EndsAt (partial ++ slice_range block start end) at → place ≡ start + (at - length partial) →
    TakesLine partial block start end place
takes_line partial block start end at place searched order within ends place_is =
    let bytes = slice_range block start end in
    let at_is : length partial + length (first_piece bytes) ≡ at = after_partial partial bytes at searched ends in
    let size : length bytes ≡ end - start = omega (
      arith,
      length-take (end - start) (drop start block),
      length-drop start block,
    ) in
    let in_block : length (first_piece bytes) < length bytes = let lt : at < length (partial ++ bytes) =
    ends.within in omega (arith, length-append partial bytes) in
    takes_line_of partial block start end place (length (first_piece bytes)) (HasNone-whole partial searched)
    (omega arith) (omega arith) refl in_block
