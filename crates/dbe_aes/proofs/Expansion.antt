-- The key schedule, word after word.
use Rattle.std.proofs.Common.{◌≡◌, ℕ, suc, ◌+◌, ◌-◌, ◌*◌, ◌<◌, List, bit_xor, refl, get_or, take, arith, length, ◌∙◌}
use Rattle.std.proofs.lemmas.List.{get_or-take, length-take-le, take_more_set}
use Rattle.std.proofs.lemmas.List.FromFn.{fill_by_all}
use Rattle.std.specs.Prelude.{set}
use Rattle.dbe_aes.specs.Words.{word_at, addend, words_of}

-- the first eight words are the key's
pub words_none : (key words : List ℕ) → length words ≡ 60 → ((k : ℕ) → k < 8 → get_or words k 0 ≡ word_at key (4 * k))
    → take 8 words ≡ words_of key 0
unfolding words_of
words_none key words long h = fill_by_all (λ k. word_at key (4 * k)) (take 8 words) 8 0
    (length-take-le 8 words (omega arith)) (λ k lt. get_or-take 8 words k 0 lt ∙ h k lt)

addend-take : (w : List ℕ) (i : ℕ) → 0 < i → addend (take i w) i ≡ addend w i
addend-take w i pos = let e : get_or (take i w) (i - 1) 0 ≡ get_or w (i - 1) 0 =
    get_or-take i w (i - 1) 0 (omega arith) in rw e refl

-- one word more
pub words_more : (key words : List ℕ) (i n v : ℕ) → i ≡ n + 8 → i < length words → take i words ≡ words_of key n →
    v ≡ bit_xor (get_or words n 0) (addend words i) → take (i + 1) (set words i v) ≡ words_of key (suc n)
unfolding words_of
words_more key words i n v at lt before is =
    let first : get_or (words_of key n) n 0 ≡ get_or words n 0 = rw before at (get_or-take i words n 0 (omega arith)) in
    let next : addend (words_of key n) i ≡ addend words i = rw before at (addend-take words i (omega arith)) in
    take_more_set words i v lt ∙ rw (before, is, ← at, first, next) refl
