-- Where a token ends.
use Rattle.std.proofs.Common.{◌≡◌, ℕ, true, false, List, [], ◌∷◌, ◌++◌, Some, None, eqb, refl, sym, subst, ◌∙◌, inl}
use Rattle.std.proofs.Common.{inr}
use Rattle.std.specs.Prelude.{◌≢◌, ◌⊎◌, ◌||◌, ◌&&◌}
use Rattle.std.specs.List.{list_all}
use Rattle.std.proofs.lemmas.Bool.{and_left, and_right, or_cases, eqb-true, cond-true, cond-false, cases_Bool}
use Rattle.dbe_tokens.specs.declared.token.Token.{Token}
use Rattle.dbe_tokens.specs.Token.{is_part, are_parts, begins_word, token_of, signs, two_signs}
use Rattle.dbe_tokens.specs.Text.{IsLongest, EndsToken}

-- a byte with which no token goes on
record IsEnd (b : ℕ) : Type 0 where
  no_part : is_part b ≡ false
  no_sign : (a : ℕ) → two_signs a b ≡ None

two_none : (a b : ℕ) → eqb b 62 ≡ false → eqb b 61 ≡ false → two_signs a b ≡ None
two_none a b h k =
    cond-false (eqb a 60 && eqb b 62) _ _ (and_right (eqb a 60) (eqb b 62) h) ∙
    cond-false (eqb a 60 && eqb b 61) _ _ (and_right (eqb a 60) (eqb b 61) k) ∙
    cond-false (eqb a 62 && eqb b 61) _ _ (and_right (eqb a 62) (eqb b 61) k)

end_cases : (b : ℕ) → (b ≡ 32) ⊎ (b ≡ 40) ⊎ (b ≡ 41) ⊎ (b ≡ 44) → IsEnd b
end_cases b h = elim h [
  | inl e ↦ subst IsEnd (sym e) (record { no_part = refl; no_sign = λ a. two_none a 32 refl refl })
  | inr (inl e) ↦ subst IsEnd (sym e) (record { no_part = refl; no_sign = λ a. two_none a 40 refl refl })
  | inr (inr (inl e)) ↦ subst IsEnd (sym e) (record { no_part = refl; no_sign = λ a. two_none a 41 refl refl })
  | inr (inr (inr e)) ↦ subst IsEnd (sym e) (record { no_part = refl; no_sign = λ a. two_none a 44 refl refl })
]

which : (b : ℕ) → (eqb b 32 || eqb b 40 || eqb b 41 || eqb b 44) ≡ true → (b ≡ 32) ⊎ (b ≡ 40) ⊎ (b ≡ 41) ⊎ (b ≡ 44)
which b h = elim (or_cases (eqb b 32 || eqb b 40 || eqb b 41) (eqb b 44) h) [
  | inl k ↦ elim (or_cases (eqb b 32 || eqb b 40) (eqb b 41) k) [
    | inl l ↦ elim (or_cases (eqb b 32) (eqb b 40) l) [
      | inl m ↦ inl (eqb-true b 32 m)
      | inr m ↦ inr
          (inl (eqb-true b 40 m))
    ]
    | inr l ↦ inr (inr (inl (eqb-true b 41 l)))
  ]
  | inr k ↦ inr (inr (inr (eqb-true b 44 k)))
]

no_parts : (parts more : List ℕ) (b : ℕ) → is_part b ≡ false → list_all is_part (parts ++ b ∷ more) ≡ false
no_parts [] more b h = and_left (is_part b) (list_all is_part more) h
no_parts (a ∷ parts) more b h = and_right (is_part a) (list_all is_part (parts ++ b ∷ more)) (no_parts parts more b h)

no_tail : (parts more : List ℕ) (b : ℕ) → is_part b ≡ false → are_parts (parts ++ b ∷ more) ≡ false
no_tail [] more b h = and_left (is_part b) (list_all is_part more) h
no_tail (a ∷ parts) more b h = and_right (is_part a) (list_all is_part (parts ++ b ∷ more)) (no_parts parts more b h)

no_signs : (a : ℕ) (bytes more : List ℕ) (b : ℕ) → ((c : ℕ) → two_signs c b ≡ None) → signs a (bytes ++ b ∷ more) ≡ None
no_signs a [] [] b h = h a
no_signs a [] (d ∷ more) b h = refl
no_signs a (c ∷ []) more b h = refl
no_signs a (c ∷ d ∷ bytes) more b h = refl

none_with : (start a : ℕ) (bytes more : List ℕ) (b : ℕ) → IsEnd b → token_of start (a ∷ (bytes ++ b ∷ more)) ≡ None
none_with start a bytes more b h = elim (cases_Bool (begins_word a)) [
  | inl w ↦ cond-true (begins_word a) _ _ w ∙ cond-false (list_all is_part (bytes ++ b ∷ more)) _ _
      (no_parts bytes more b h.no_part)
  | inr w ↦ elim (cases_Bool (eqb a 35)) [
    | inl x ↦ cond-false (begins_word a) _ _ w ∙ cond-true (eqb a 35) _ _ x ∙
        cond-false (are_parts (bytes ++ b ∷ more)) _ _ (no_tail bytes more b h.no_part)
    | inr x ↦ elim (cases_Bool (eqb a 58)) [
      | inl y ↦ cond-false (begins_word a) _ _ w ∙ cond-false (eqb a 35) _ _ x ∙ cond-true (eqb a 58) _ _ y ∙
          cond-false (are_parts (bytes ++ b ∷ more)) _ _ (no_tail bytes more b h.no_part)
      | inr y ↦ cond-false (begins_word a) _ _ w ∙ cond-false (eqb a 35) _ _ x ∙ cond-false (eqb a 58) _ _ y ∙
          no_signs a bytes more b h.no_sign
    ]
  ]
]

not_longer : (start : ℕ) (token : Token) (front back more others : List ℕ) → token_of start front ≡ Some token →
    EndsToken back → back ≡ more ++ others → more ≢ [] → token_of start (front ++ more) ≡ None
not_longer start token [] back more others s e q ne = cc
not_longer start token (a ∷ front) back [] others s e q ne = absurd (ne refl)
not_longer start token (a ∷ front) back (b ∷ more) others s e q ne = let h : EndsToken (b ∷ (more ++ others)) =
    subst EndsToken q e in none_with start a front more b (end_cases b (which b h))

pub ends : (start : ℕ) (token : Token) (front back : List ℕ) → token_of start front ≡ Some token → EndsToken back →
    IsLongest start (front ++ back) token front back
ends start token front back s e = record {
  whole = refl;
  spelled = s;
  longest =
      λ more others q ne. not_longer start token front back more others s e q ne;
}
