-- Parentheses that stand open.
use Rattle.std.proofs.Common.{◌≡◌, ℕ, ◌+◌, ◌<◌, ◌≤◌, List, [], ◌∷◌, length, take, get_or, refl, ap, sym, subst, ◌∙◌}
use Rattle.std.proofs.Common.{arith, zero, suc, add-one, inl, inr}
use Rattle.std.proofs.lemmas.Bool.{cases_lt}
use Rattle.dbe_tokens.specs.declared.token.Token.{Token}
use Rattle.dbe_tokens.specs.Deep.{open_after, open_step, OpensTooMany}

open_suc : (tokens : List Token) (i n : ℕ) (d : Token) → i < length tokens →
    open_after n (take (suc i) tokens) ≡ open_step (open_after n (take i tokens)) (get_or tokens i d)
open_suc [] i n d h = absurd (omega arith)
open_suc (token ∷ tokens) zero n d h = refl
open_suc (token ∷ tokens) (suc i) n d h = open_suc tokens i (open_step n token) d (omega arith)

-- one token more
pub open_more : (tokens : List Token) (i now next : ℕ) (d : Token) → i < length tokens →
    now ≡ open_after 0 (take i tokens) → next ≡ open_step now (get_or tokens i d) →
    next ≡ open_after 0 (take (i + 1) tokens)
open_more tokens i now next d h e q = q ∙ ap (λ x. open_step x (get_or tokens i d)) e ∙
    sym (open_suc tokens i 0 d h) ∙ ap (λ x. open_after 0 (take x tokens)) (sym (add-one i))

pub below_next : (tokens : List Token) (i next : ℕ) → next ≡ open_after 0 (take (i + 1) tokens) → next ≤ 64 →
    ((k : ℕ) → k ≤ i → open_after 0 (take k tokens) ≤ 64) → (k : ℕ) → k ≤ i + 1 → open_after 0 (take k tokens) ≤ 64
below_next tokens i next e h below k le = elim (cases_lt i k) [
  | inl lt ↦ let same : i + 1 ≡ k = omega arith in let P : ℕ → Type 0 = λ x. open_after 0 (take x tokens) ≤ 64 in
      subst P same (let Q : ℕ → Type 0 = λ x. x ≤ 64 in subst Q e h)
  | inr ge ↦ below k ge
]

pub opens : (tokens : List Token) (i next : ℕ) → next ≡ open_after 0 (take (i + 1) tokens) → 64 < next →
    OpensTooMany tokens
opens tokens i next e h = (i + 1, let Q : ℕ → Type 0 = λ x. 64 < x in subst Q e h)
