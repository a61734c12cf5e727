-- Facts of all bytes, by looking at each.
use Rattle.std.proofs.Common.{◌≡◌, ℕ, zero, suc, ◌+◌, ◌<◌, List, [], ◌∷◌, Bool, true, false, ◌&&◌, ◌==◌, bit_xor}
use Rattle.std.proofs.Common.{refl, get_or, arith, length, ap, ◌∙◌}
use Rattle.std.proofs.lemmas.Bool.{eqb-true}
use Rattle.dbe_aes.specs.Bytes.{product_of_bits, product, times_x, inverse_from, inverse, affine, sbox}
use Rattle.dbe_aes.specs.declared.substitution.TheConstants.{SUBSTITUTION}

pub both : (a b : Bool) → (a && b) ≡ true → (a ≡ true) × (b ≡ true)
both true b h = (refl, h)
both false b h = cc

-- whether each entry from number x on is f of its number
abbrev is_table_from : (ℕ → ℕ) → ℕ → List ℕ → Bool
is_table_from f x [] = true
is_table_from f x (y ∷ ys) = (y == f x) && is_table_from f (suc x) ys

entry_at : (f : ℕ → ℕ) (ys : List ℕ) (x k : ℕ) → is_table_from f x ys ≡ true → k < length ys → get_or ys k 0 ≡ f (x + k)
entry_at f [] x k h lt = absurd (omega arith)
entry_at f (y ∷ ys) x zero h lt = let e : x ≡ x + 0 = omega arith in eqb-true _ _ (both _ _ h).0 ∙ ap f e
entry_at f (y ∷ ys) x (suc k) h lt = let e : suc x + k ≡ x + suc k = omega arith in
    entry_at f ys (suc x) k (both _ _ h).1 (omega arith) ∙ ap f e

is_substitution : is_table_from sbox 0 SUBSTITUTION ≡ true
unfolding product_of_bits product inverse_from inverse affine sbox
is_substitution = refl

pub substitution_entry : (x : ℕ) → x < 256 → get_or SUBSTITUTION x 0 ≡ sbox x
substitution_entry x lt = let e : 0 + x ≡ x = omega arith in entry_at sbox SUBSTITUTION 0 x is_substitution lt ∙
    ap sbox e

-- whether f and g agree at the n numbers from x on
abbrev agree_from : (ℕ → ℕ) → (ℕ → ℕ) → ℕ → ℕ → Bool
agree_from f g zero x = true
agree_from f g (suc n) x = (f x == g x) && agree_from f g n (suc x)

agree_at : (f g : ℕ → ℕ) (n x k : ℕ) → agree_from f g n x ≡ true → k < n → f (x + k) ≡ g (x + k)
agree_at f g zero x k h lt = absurd (omega arith)
agree_at f g (suc n) x zero h lt = let e : x + 0 ≡ x = omega arith in rw e (eqb-true _ _ (both _ _ h).0)
agree_at f g (suc n) x (suc k) h lt = let e : x + suc k ≡ suc x + k = omega arith in
    rw e (agree_at f g n (suc x) k (both _ _ h).1 (omega arith))

are_doubles : agree_from times_x (product 2) 256 0 ≡ true
unfolding product_of_bits product
are_doubles = refl

pub double_is_product : (x : ℕ) → x < 256 → times_x x ≡ product 2 x
double_is_product x lt = let e : 0 + x ≡ x = omega arith in
    rw e at (agree_at times_x (product 2) 256 0 x are_doubles lt)

are_triples : agree_from (λ x. bit_xor (product 2 x) x) (product 3) 256 0 ≡ true
unfolding product_of_bits product
are_triples = refl

pub triple_is_product : (x : ℕ) → x < 256 → bit_xor (product 2 x) x ≡ product 3 x
triple_is_product x lt = let e : 0 + x ≡ x = omega arith in
    rw e at (agree_at (λ x. bit_xor (product 2 x) x) (product 3) 256 0 x are_triples lt)
