-- Texts cut into tokens.
use Rattle.std.proofs.Common.{◌≡◌, ℕ, suc, ◌+◌, ◌-◌, ◌≤◌, Bool, true, false, List, [], ◌∷◌, ◌++◌, length, Some, None}
use Rattle.std.proofs.Common.{refl, ap, sym, subst, ◌∙◌, arith, eqb, append_assoc, append-nil, length-append, inl}
use Rattle.std.proofs.Common.{inr}
use Rattle.std.specs.Prelude.{◌⊎◌, ◌||◌, Option}
use Rattle.std.specs.List.{list_all}
use Rattle.std.proofs.lemmas.Bool.{and_from, and_parts, or_cases, eqb-true, false≢true, cases_Bool}
use Rattle.dbe_tokens.specs.declared.token.Token.{Token}
use Rattle.dbe_tokens.specs.Token.{is_space, token_of}
use Rattle.dbe_tokens.specs.Text.{IsGap, IsLongest, AreTokens, BeginsNone, IsBad, IsBadAt, IsCut}
use Rattle.dbe_tokens.specs.Parts.{IsFront}

-- A space more.
spaces_last : (gap : List ℕ) (b : ℕ) → list_all is_space gap ≡ true → is_space b ≡ true →
    list_all is_space (gap ++ b ∷ []) ≡ true
spaces_last [] b h k = and_from (is_space b) true k refl
spaces_last (a ∷ gap) b h k = let r = and_parts (is_space a) (list_all is_space gap) h in
    and_from (is_space a) (list_all is_space (gap ++ b ∷ [])) r.0 (spaces_last gap b r.1 k)

gap_last : (at : ℕ) (text : List ℕ) (end b : ℕ) (back : List ℕ) → IsGap at text end (b ∷ back) → is_space b ≡ true →
    IsGap at text (end + 1) back
gap_last at text end b back g h = record {
  gap = g.gap ++ b ∷ [];
  whole = g.whole ∙ sym (append_assoc g.gap (b ∷ []) back);
  spaces = spaces_last g.gap b g.spaces h;
  place = omega (arith, length-append g.gap (b ∷ []), g.place);
}

pub tokens_space : (at : ℕ) (text : List ℕ) (tokens : List Token) (starts : List ℕ) (end b : ℕ) (back : List ℕ) →
    AreTokens at text tokens starts end (b ∷ back) → is_space b ≡ true → AreTokens at text tokens starts (end + 1) back
tokens_space at text [] [] end b back r h = gap_last at text end b back r h
tokens_space at text [] (start ∷ starts) end b back r h = absurd r
tokens_space at text (token ∷ tokens) [] end b back r h = absurd r
tokens_space at text (token ∷ tokens) (start ∷ starts) end b back r h = (
  r.0,
  r.1,
  r.2,
  r.3,
  r.4,
  tokens_space (start + length r.1) r.2 tokens starts end b back r.5 h,
)

no_gap : (at : ℕ) (text : List ℕ) → IsGap at text at text
no_gap at text = record { gap = []; whole = refl; spaces = refl; place = omega arith }

-- A token more.
pub tokens_more : (at : ℕ) (text : List ℕ) (tokens : List Token) (starts : List ℕ) (end : ℕ) (rest : List ℕ)
    (token : Token) (front back : List ℕ) →
    AreTokens at text tokens starts end rest → IsLongest end rest token front back →
    AreTokens at text (tokens ++ token ∷ []) (starts ++ end ∷ []) (end + length front) back
tokens_more at text [] [] end rest token front back r l = (rest, front, back, r, l, no_gap (end + length front) back)
tokens_more at text [] (start ∷ starts) end rest token front back r l = absurd r
tokens_more at text (old ∷ tokens) [] end rest token front back r l = absurd r
tokens_more at text (old ∷ tokens) (start ∷ starts) end rest token front back r l = (
  r.0,
  r.1,
  r.2,
  r.3,
  r.4,
  tokens_more (start + length r.1) r.2 tokens starts end rest token front back r.5 l,
)

-- No text is left over.
gap_length : (at : ℕ) (text : List ℕ) (end : ℕ) (back : List ℕ) → IsGap at text end back →
    end + length back ≡ at + length text
gap_length at text end back g = omega (arith, ap length g.whole, length-append g.gap back, g.place)

pub tokens_length : (at : ℕ) (text : List ℕ) (tokens : List Token) (starts : List ℕ) (end : ℕ) (back : List ℕ) →
    AreTokens at text tokens starts end back → end + length back ≡ at + length text
tokens_length at text [] [] end back r = gap_length at text end back r
tokens_length at text [] (start ∷ starts) end back r = absurd r
tokens_length at text (token ∷ tokens) [] end back r = absurd r
tokens_length at text (token ∷ tokens) (start ∷ starts) end back r =
    omega (
      arith,
      tokens_length (start + length r.1) r.2 tokens starts end back r.5,
      gap_length at text start r.0 r.3,
      ap length r.4.whole,
      length-append r.1 r.2,
    )

-- Spaces end where a byte is none.
abbrev NoSpace : List ℕ → Type 0
NoSpace [] = Unit {0}
NoSpace (b ∷ bytes) = is_space b ≡ false

not_both : (b : Bool) → b ≡ true → b ≡ false → ⊥
not_both b h k = false≢true (sym k ∙ h)

spaces_unique : (g h x y : List ℕ) → list_all is_space g ≡ true → list_all is_space h ≡ true → NoSpace x → NoSpace y →
    g ++ x ≡ h ++ y → (g ≡ h) × (x ≡ y)
spaces_unique [] [] x y s t n m e = (refl, e)
spaces_unique [] (b ∷ h) x y s t n m e =
    absurd (not_both (is_space b) (and_parts (is_space b) (list_all is_space h) t).0 (subst NoSpace e n))
spaces_unique (a ∷ g) [] x y s t n m e =
    absurd (not_both (is_space a) (and_parts (is_space a) (list_all is_space g) s).0 (subst NoSpace (sym e) m))
spaces_unique (a ∷ g) (b ∷ h) x y s t n m e =
    let r = spaces_unique g h x y (and_parts (is_space a) (list_all is_space g) s).1
    (and_parts (is_space b) (list_all is_space h) t).1 n m (cc) in
    (cc, r.1)

gap_unique : (at : ℕ) (text : List ℕ) (c d : ℕ) (x y : List ℕ) → IsGap at text c x → IsGap at text d y → NoSpace x →
    NoSpace y → (c ≡ d) × (x ≡ y)
gap_unique at text c d x y g h n m =
    let r = spaces_unique g.gap h.gap x y g.spaces h.spaces n m (sym g.whole ∙ h.whole) in
    (g.place ∙ ap (λ z. at + length z) r.0 ∙ sym h.place, r.1)

-- No token begins with a space.
space_cases : (b : ℕ) → is_space b ≡ true → (b ≡ 32) ⊎ (b ≡ 9) ⊎ (b ≡ 13) ⊎ (b ≡ 10)
space_cases b h = elim (or_cases (eqb b 32 || eqb b 9 || eqb b 13) (eqb b 10) h) [
  | inl k ↦ elim (or_cases (eqb b 32 || eqb b 9) (eqb b 13) k) [
    | inl l ↦ elim (or_cases (eqb b 32) (eqb b 9) l) [
      | inl m ↦ inl (eqb-true b 32 m)
      | inr m ↦ inr
          (inl (eqb-true b 9 m))
    ]
    | inr l ↦ inr (inr (inl (eqb-true b 13 l)))
  ]
  | inr k ↦ inr (inr (inr (eqb-true b 10 k)))
]

abbrev Spells : ℕ → List ℕ → ℕ → Type 0
Spells start bytes b = token_of start (b ∷ bytes) ≡ None

at_32 : (start : ℕ) (bytes : List ℕ) → Spells start bytes 32
at_32 start [] = refl
at_32 start (c ∷ []) = refl
at_32 start (c ∷ d ∷ bytes) = refl

at_9 : (start : ℕ) (bytes : List ℕ) → Spells start bytes 9
at_9 start [] = refl
at_9 start (c ∷ []) = refl
at_9 start (c ∷ d ∷ bytes) = refl

at_13 : (start : ℕ) (bytes : List ℕ) → Spells start bytes 13
at_13 start [] = refl
at_13 start (c ∷ []) = refl
at_13 start (c ∷ d ∷ bytes) = refl

at_10 : (start : ℕ) (bytes : List ℕ) → Spells start bytes 10
at_10 start [] = refl
at_10 start (c ∷ []) = refl
at_10 start (c ∷ d ∷ bytes) = refl

space_spells_none : (start b : ℕ) (bytes : List ℕ) → is_space b ≡ true → token_of start (b ∷ bytes) ≡ None
space_spells_none start b bytes h = elim (space_cases b h) [
  | inl e ↦ subst (Spells start bytes) (sym e) (at_32 start bytes)
  | inr (inl e) ↦ subst (Spells start bytes) (sym e) (at_9 start bytes)
  | inr (inr (inl e)) ↦ subst (Spells start bytes) (sym e) (at_13 start bytes)
  | inr (inr (inr e)) ↦ subst (Spells start bytes) (sym e) (at_10 start bytes)
]

not_some : (token : Token) (o : Option Token) → o ≡ None → o ≡ Some token → ⊥
not_some token o e q = cc

front_no_space : (start : ℕ) (token : Token) (front back : List ℕ) → token_of start front ≡ Some token →
    NoSpace (front ++ back)
front_no_space start token [] back e = absurd (not_some token None refl e)
front_no_space start token (b ∷ front) back e = elim (cases_Bool (is_space b)) [
  | inl h ↦ absurd (not_some token (token_of start (b ∷ front)) (space_spells_none start b front h) e)
  | inr h ↦ h
]

longest_no_space : (start : ℕ) (text : List ℕ) (token : Token) (front back : List ℕ) →
    IsLongest start text token front back → NoSpace text
longest_no_space start text token front back l =
    subst NoSpace (sym l.whole) (front_no_space start token front back l.spelled)

-- One front is the other with more behind it.
abbrev Longer : List ℕ → List ℕ → List ℕ → List ℕ → Type 0
Longer a b p q = (more : List ℕ) × (p ≡ a ++ more) × (b ≡ more ++ q)

fronts : (a b p q : List ℕ) → a ++ b ≡ p ++ q → Longer a b p q ⊎ Longer p q a b
fronts [] b p q e = inl (p, refl, e)
fronts (x ∷ a) b [] q e = inr (x ∷ a, refl, sym e)
fronts (x ∷ a) b (y ∷ p) q e = elim (fronts a b p q (cc)) [
  | inl r ↦ inl (r.0, (cc (r.1)), r.2)
  | inr r ↦ inr (r.0, (cc (r.1)), r.2)
]

longer_same : (start : ℕ) (text : List ℕ) (m n : Token) (a b p q : List ℕ) → IsLongest start text m a b →
    IsLongest start text n p q → (more : List ℕ) → p ≡ a ++ more → b ≡ more ++ q → (m ≡ n) × (a ≡ p) × (b ≡ q)
longer_same start text m n a b p q k l [] e r =
    let same : a ≡ p = sym (append-nil a) ∙ sym e in
    let spelled : Some m ≡ Some n = sym k.spelled ∙ ap (token_of start) same ∙ l.spelled in
    (cc, same, r)
longer_same start text m n a b p q k l (c ∷ more) e r =
    absurd (not_some n (token_of start p) (ap (token_of start) e ∙ k.longest (c ∷ more) q r (λ z. cc)) l.spelled)

longest_unique : (start : ℕ) (text : List ℕ) (m n : Token) (a b p q : List ℕ) → IsLongest start text m a b →
    IsLongest start text n p q → (m ≡ n) × (a ≡ p) × (b ≡ q)
longest_unique start text m n a b p q k l = elim (fronts a b p q (sym k.whole ∙ l.whole)) [
  | inl r ↦ longer_same start text m n a b p q k l r.0 r.1 r.2
  | inr r ↦ let s = longer_same start text n m p q a b l k r.0 r.1 r.2 in (sym s.0, sym s.1, sym s.2)
]

-- where the cutting ends
abbrev pub Ends : ℕ → List ℕ → Type 0
Ends at [] = Unit {0}
Ends at (b ∷ bytes) = IsBad at (b ∷ bytes)

ends_no_space : (at : ℕ) (text : List ℕ) → Ends at text → NoSpace text
ends_no_space at [] e = tt
ends_no_space at (b ∷ bytes) e = e.0

ends_no_token : (at : ℕ) (text : List ℕ) (token : Token) (front back : List ℕ) → Ends at text →
    IsLongest at text token front back → ⊥
ends_no_token at [] token [] back e l = not_some token None refl l.spelled
ends_no_token at [] token (b ∷ front) back e l = let q : [] ≡ b ∷ (front ++ back) = l.whole in cc
ends_no_token at (b ∷ bytes) token front back e l = not_some token (token_of at front) (e.1 front back l.whole)
    l.spelled

pub tokens_unique : (at : ℕ) (text : List ℕ) (m n : List Token) (a b : List ℕ) (c d : ℕ) (x y : List ℕ) →
    AreTokens at text m a c x → AreTokens at text n b d y → Ends c x → Ends d y → (m ≡ n) × (a ≡ b) × (c ≡ d) × (x ≡ y)
tokens_unique at text [] [] [] [] c d x y r s e g = let u = gap_unique at text c d x y r s (ends_no_space c x e)
    (ends_no_space d y g) in (refl, refl, u.0, u.1)
tokens_unique at text [] [] [] (i ∷ b) c d x y r s e g = absurd s
tokens_unique at text [] [] (i ∷ a) b c d x y r s e g = absurd r
tokens_unique at text [] (k ∷ n) (i ∷ a) b c d x y r s e g = absurd r
tokens_unique at text [] (k ∷ n) [] [] c d x y r s e g = absurd s
tokens_unique at text [] (k ∷ n) [] (i ∷ b) c d x y r s e g =
    let u = gap_unique at text c i x s.0 r s.3 (ends_no_space c x e) (longest_no_space i s.0 k s.1 s.2 s.4) in
    let f : Ends i s.0 = subst (λ z. Ends i z) u.1 (subst (λ z. Ends z x) u.0 e) in
    absurd (ends_no_token i s.0 k s.1 s.2 f s.4)
tokens_unique at text (j ∷ m) n [] b c d x y r s e g = absurd r
tokens_unique at text (j ∷ m) [] (i ∷ a) (h ∷ b) c d x y r s e g = absurd s
tokens_unique at text (j ∷ m) [] (i ∷ a) [] c d x y r s e g =
    let u = gap_unique at text d i y r.0 s r.3 (ends_no_space d y g) (longest_no_space i r.0 j r.1 r.2 r.4) in
    let f : Ends i r.0 = subst (λ z. Ends i z) u.1 (subst (λ z. Ends z y) u.0 g) in
    absurd (ends_no_token i r.0 j r.1 r.2 f r.4)
tokens_unique at text (j ∷ m) (k ∷ n) (i ∷ a) [] c d x y r s e g = absurd s
tokens_unique at text (j ∷ m) (k ∷ n) (i ∷ a) (h ∷ b) c d x y r s e g =
    let u = gap_unique at text i h r.0 s.0 r.3 s.3 (longest_no_space i r.0 j r.1 r.2 r.4) (longest_no_space h s.0 k
    s.1 s.2 s.4) in
    let l : IsLongest i r.0 k s.1 s.2 =
    subst (λ z. IsLongest i z k s.1 s.2) (sym u.1) (subst (λ z. IsLongest z s.0 k s.1 s.2) (sym u.0) s.4) in
    let v = longest_unique i r.0 j k r.1 r.2 s.1 s.2 r.4 l in
    let place : i + length r.1 ≡ h + length s.1 = omega (arith, u.0, ap length v.1) in
    let later : AreTokens (i + length r.1) r.2 n b d y = subst (λ z. AreTokens (i + length r.1) z n b d y) (sym v.2)
    (subst (λ z. AreTokens z s.2 n b d y) (sym place) s.5) in
    let w = tokens_unique (i + length r.1) r.2 m n a b c d x y r.5 later e g in
    (cc (v.0, w.0), cc (u.0, w.1), w.2, w.3)

ends_bad : (at : ℕ) (text : List ℕ) → IsBad at text → Ends at text
ends_bad at [] b = tt
ends_bad at (a ∷ bytes) b = b

pub cut_unique : (text : List ℕ) (m n : List Token) (a b : List ℕ) → IsCut text m a → IsCut text n b → (m ≡ n) × (a ≡ b)
cut_unique text m n a b r s = let u = tokens_unique 0 text m n a b (length text) (length text) [] [] r s tt tt in
    (u.0, u.1)

pub place_unique : (text : List ℕ) (m n : ℕ) → IsBadAt text m → IsBadAt text n → m ≡ n
place_unique text m n r s = (tokens_unique 0 text r.tokens s.tokens r.starts s.starts m n r.back s.back r.before
    s.before (ends_bad m r.back r.bad) (ends_bad n s.back s.bad)).2

pub cut_not_bad : (text : List ℕ) (tokens : List Token) (starts : List ℕ) (at : ℕ) → IsCut text tokens starts →
    IsBadAt text at → ⊥
cut_not_bad text tokens starts at r s =
    let u = tokens_unique 0 text tokens s.tokens starts s.starts (length text) at [] s.back r s.before tt
    (ends_bad at s.back s.bad) in
    subst (IsBad at) (sym u.3) s.bad

-- A step of the cutting.
pub space_step : (text rest others : List ℕ) (tokens : List Token) (starts : List ℕ) (b : ℕ) →
    AreTokens 0 text tokens starts (length text - length rest) rest → length rest ≤ length text →
    rest ≡ b ∷ others → is_space b ≡ true → AreTokens 0 text tokens starts (length text - length others) others
space_step text rest others tokens starts b r h e s =
    let next : AreTokens 0 text tokens starts (length text - length rest + 1) others =
    tokens_space 0 text tokens starts (length text - length rest) b others
    (subst (AreTokens 0 text tokens starts (length text - length rest)) e r) s in
    let place : length text - length rest + 1 ≡ length text - length others = omega (arith, ap length e) in
    subst (λ n. AreTokens 0 text tokens starts n others) place next

pub token_step : (text rest back : List ℕ) (tokens more : List Token) (starts ends : List ℕ) (token : Token) →
    AreTokens 0 text tokens starts (length text - length rest) rest → length rest ≤ length text →
    IsFront (length text - length rest) rest token back → more ≡ tokens ++ token ∷ [] →
    ends ≡ starts ++ (length text - length rest) ∷ [] → AreTokens 0 text more ends (length text - length back) back
token_step text rest back tokens more starts ends token r h f e q =
    let next = tokens_more 0 text tokens starts (length text - length rest) rest token f.front back r f.longest in
    let place : length text - length rest + length f.front ≡ length text - length back =
    omega (arith, ap length f.longest.whole, length-append f.front back) in
    rw (e, q) (subst (λ n. AreTokens 0 text (tokens ++ token ∷ []) (starts ++ (length text - length rest) ∷ []) n
    back) place next)

pub bad_at : (text rest others : List ℕ) (tokens : List Token) (starts : List ℕ) (b at : ℕ) →
    AreTokens 0 text tokens starts at rest → rest ≡ b ∷ others → is_space b ≡ false → BeginsNone at rest →
    IsBadAt text at
bad_at text rest others tokens starts b at r e s n = record {
  tokens = tokens;
  starts = starts;
  back = b ∷ others;
  before = subst (AreTokens 0 text tokens starts at) e r;
  bad = (s, subst (BeginsNone at) e n);
}

pub whole_cut : (text rest : List ℕ) (tokens : List Token) (starts : List ℕ) →
    AreTokens 0 text tokens starts (length text - length rest) rest → length rest ≡ 0 → IsCut text tokens starts
whole_cut text [] tokens starts r e = let place : length text - length {A = ℕ} [] ≡ length text = omega arith in
    subst (λ n. AreTokens 0 text tokens starts n []) place r
whole_cut text (b ∷ rest) tokens starts r e = absurd (omega arith)

-- as many starts as tokens
pub tokens_starts : (at : ℕ) (text : List ℕ) (tokens : List Token) (starts : List ℕ) (end : ℕ) (back : List ℕ) →
    AreTokens at text tokens starts end back → length starts ≡ length tokens
tokens_starts at text [] [] end back r = refl
tokens_starts at text [] (start ∷ starts) end back r = absurd r
tokens_starts at text (token ∷ tokens) [] end back r = absurd r
tokens_starts at text (token ∷ tokens) (start ∷ starts) end back r =
    ap suc (tokens_starts (start + length r.1) r.2 tokens starts end back r.5)
