-- The counter block after the first one.
use Rattle.std.proofs.Common.{ℕ, ◌≡◌, refl, [], ◌∷◌}
use Rattle.dbe_aes.specs.Counters.{inc32}
use Rattle.dbe_gcm.specs.Gcm.{j0}

pub second_block : (a b c d e f g h i j k l : ℕ)
    → a ∷ b ∷ c ∷ d ∷ e ∷ f ∷ g ∷ h ∷ i ∷ j ∷ k ∷ l ∷ 0 ∷ 0 ∷ 0 ∷ 2 ∷ [] ≡ inc32
    (j0 (a ∷ b ∷ c ∷ d ∷ e ∷ f ∷ g ∷ h ∷ i ∷ j ∷ k ∷ l ∷ []))
unfolding inc32
second_block a b c d e f g h i j k l = refl
