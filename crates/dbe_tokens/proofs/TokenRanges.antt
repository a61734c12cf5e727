-- The ranges of names and placeholders lie in the text.
use Rattle.std.proofs.Common.{◌≡◌, ℕ, ◌+◌, ◌<◌, Bool, true, cond, List, [], ◌∷◌, ◌++◌, length, take, drop, Some, None}
use Rattle.std.proofs.Common.{eqb, refl, ap, sym, subst, ◌∙◌, arith, append_assoc, length-append}
use Rattle.std.specs.Prelude.{◌&&◌, codes, bytes_eq, nat_lt, nat_le, Option}
use Rattle.std.specs.List.{list_all}
use Rattle.std.specs.Char.{is_ascii}
use Rattle.std.proofs.lemmas.List.{take_at, drop_at}
use Rattle.std.proofs.lemmas.Bool.{and_from, and_parts, eqb-true, cond_both, lt-ltb, le-leb}
use Rattle.std.proofs.lemmas.Bool.Decides.{nat_tests}
use Rattle.dbe_tokens.specs.declared.token.Token.{Token}
use Rattle.dbe_tokens.specs.declared.token.Token.TheVariants as t
use Rattle.dbe_tokens.specs.declared.token.Operand.TheVariants as o
use Rattle.dbe_tokens.specs.declared.token.Name.TheVariants as n
use Rattle.dbe_tokens.specs.declared.token.Span.{Span}
use Rattle.dbe_tokens.specs.Token.{is_part, are_parts, begins_word, is_keyword, word_token, function_or_name}
use Rattle.dbe_tokens.specs.Token.{one_sign, two_signs, signs, token_of}
use Rattle.dbe_tokens.specs.Text.{AreTokens, IsCut, bytes_in}
use Rattle.dbe_tokens.specs.Ranges.{is_range, has_range}

abbrev span_of : ℕ → ℕ → Span
span_of start count = record { start = start; end = start + count }

-- bytes of ASCII within a text are a range of it
range_is : (before front after : List ℕ) (start : ℕ) → start ≡ length before → 0 < length front →
    list_all is_ascii front ≡ true → is_range (before ++ (front ++ after)) (span_of start (length front)) ≡ true
range_is before front after start place some h =
    let cut : bytes_in (before ++ (front ++ after)) (span_of start (length front)) ≡ front =
    ap (λ n. take n (drop start (before ++ (front ++ after)))) (omega arith) ∙
    ap (take (length front)) (drop_at before (front ++ after) start (sym place)) ∙
    take_at front after (length front) refl in
    and_from (nat_lt start (start + length front) && nat_le (start + length front)
    (length (before ++ (front ++ after)))) (list_all is_ascii (bytes_in (before ++ (front ++ after))
    (span_of start (length front))))
    (and_from (nat_lt start (start + length front)) (nat_le (start + length front)
    (length (before ++ (front ++ after)))) (lt-ltb start (start + length front) (omega arith))
    (le-leb (start + length front) (length (before ++ (front ++ after))) (omega (
      arith,
      place,
      length-append before (front ++ after),
      length-append front after,
    ))))
    (ap (list_all is_ascii) cut ∙ h)

part_ascii : (b : ℕ) → is_part b ≡ true → is_ascii b ≡ true
part_ascii b h = grind (arith, nat_tests, h)

word_ascii : (b : ℕ) → begins_word b ≡ true → is_ascii b ≡ true
word_ascii b h = grind (arith, nat_tests, h)

parts_ascii : (bytes : List ℕ) → list_all is_part bytes ≡ true → list_all is_ascii bytes ≡ true
parts_ascii [] h = refl
parts_ascii (b ∷ bytes) h = let r = and_parts (is_part b) (list_all is_part bytes) h in
    and_from (is_ascii b) (list_all is_ascii bytes) (part_ascii b r.0) (parts_ascii bytes r.1)

tail_ascii : (bytes : List ℕ) → are_parts bytes ≡ true → list_all is_ascii bytes ≡ true
tail_ascii [] h = refl
tail_ascii (b ∷ bytes) h = parts_ascii (b ∷ bytes) h

abbrev Has : List ℕ → Token → Type 0
Has text token = has_range text token ≡ true

either : (text : List ℕ) (b : Bool) (x y : Token) → Has text x → Has text y → Has text (cond b x y)
either text b x y h k = cond_both b x y (Has text) (λ _. h) (λ _. k)

name_has : (text : List ℕ) (span : Span) (word : List ℕ) → is_range text span ≡ true →
    Has text (function_or_name span word)
unfolding function_or_name
name_has text span word h =
    either text (bytes_eq word (codes "attribute_exists")) t.Exists _ refl
    (either text (bytes_eq word (codes "attribute_not_exists")) t.NotExists _ refl
    (either text (bytes_eq word (codes "begins_with")) t.BeginsWith (t.Operand (o.Name (n.Word span))) refl h))

word_has : (text : List ℕ) (span : Span) (word : List ℕ) → is_range text span ≡ true → Has text (word_token span word)
unfolding word_token
word_has text span word h =
    either text (is_keyword word (codes "OR")) t.Or _ refl
    (either text (is_keyword word (codes "AND")) t.And _ refl
    (either text (is_keyword word (codes "NOT")) t.Not _ refl
    (either text (is_keyword word (codes "BETWEEN")) t.Between _ refl
    (either text (is_keyword word (codes "IN")) t.In (function_or_name span word) refl (name_has text span word h)))))

-- what an option holds
abbrev Holds : List ℕ → Option Token → Type 0
Holds text found = (token : Token) → found ≡ Some token → Has text token

holds_none : (text : List ℕ) → Holds text None
holds_none text = λ token e. cc

holds_some : (text : List ℕ) (token : Token) → Has text token → Holds text (Some token)
holds_some text token h = λ other e. let same : token ≡ other = cc in subst (Has text) same h

chosen : (text : List ℕ) (b : Bool) (x y : Option Token) → (b ≡ true → Holds text x) → Holds text y →
    Holds text (cond b x y)
chosen text b x y h k = cond_both b x y (Holds text) h (λ _. k)

one_holds : (text : List ℕ) (b : ℕ) → Holds text (one_sign b)
one_holds text b =
    chosen text (eqb b 61) _ _ (λ _. holds_some text _ refl) (chosen text (eqb b 60) _ _ (λ _. holds_some text _ refl)
    (chosen text (eqb b 62) _ _ (λ _. holds_some text _ refl)
    (chosen text (eqb b 40) _ _ (λ _. holds_some text _ refl) (chosen text (eqb b 41) _ _
    (λ _. holds_some text _ refl) (chosen text (eqb b 44) _ _ (λ _. holds_some text _ refl) (holds_none text))))))

two_holds : (text : List ℕ) (b c : ℕ) → Holds text (two_signs b c)
two_holds text b c =
    chosen text (eqb b 60 && eqb c 62) _ _ (λ _. holds_some text _ refl) (chosen text (eqb b 60 && eqb c 61) _ _
    (λ _. holds_some text _ refl) (chosen text (eqb b 62 && eqb c 61) _ _ (λ _. holds_some text _ refl)
    (holds_none text)))

signs_holds : (text : List ℕ) (b : ℕ) (bytes : List ℕ) → Holds text (signs b bytes)
signs_holds text b [] = one_holds text b
signs_holds text b (c ∷ []) = two_holds text b c
signs_holds text b (c ∷ d ∷ bytes) = holds_none text

token_holds : (text : List ℕ) (start : ℕ) (front : List ℕ) → (list_all is_ascii front ≡ true →
    is_range text (span_of start (length front)) ≡ true) → Holds text (token_of start front)
token_holds text start [] h = holds_none text
token_holds text start (b ∷ bytes) h =
    chosen text (begins_word b) _ _
    (λ w. chosen text (list_all is_part bytes) _ None
    (λ p. holds_some text _ (word_has text (span_of start (length (b ∷ bytes))) (b ∷ bytes)
    (h (and_from (is_ascii b) (list_all is_ascii bytes) (word_ascii b w) (parts_ascii bytes p)))))
    (holds_none text))
    (chosen text (eqb b 35) _ _
    (λ x. chosen text (are_parts bytes) _ None
    (λ p. holds_some text _ (h (and_from (is_ascii b) (list_all is_ascii bytes) (ap is_ascii (eqb-true b 35 x))
    (tail_ascii bytes p)))) (holds_none text))
    (chosen text (eqb b 58) _ _
    (λ x. chosen text (are_parts bytes) _ None
    (λ p. holds_some text _ (h (and_from (is_ascii b) (list_all is_ascii bytes) (ap is_ascii (eqb-true b 58 x))
    (tail_ascii bytes p)))) (holds_none text))
    (signs_holds text b bytes)))

not_empty : (start : ℕ) (token : Token) (front : List ℕ) → token_of start front ≡ Some token → 0 < length front
not_empty start token [] e = cc
not_empty start token (b ∷ front) e = omega arith

ranges_from : (whole before text : List ℕ) (tokens : List Token) (at : ℕ) (starts : List ℕ) (end : ℕ) (back : List ℕ)
    → whole ≡ before ++ text → at ≡ length before → AreTokens at text tokens starts end back →
    list_all (has_range whole) tokens ≡ true
ranges_from whole before text [] at starts end back w p r = refl
ranges_from whole before text (token ∷ tokens) at [] end back w p r = absurd r
ranges_from whole before text (token ∷ tokens) at (start ∷ starts) end back w p r =
    let front = before ++ r.3.gap in
    let place : start ≡ length front = omega (arith, r.3.place, p, length-append before r.3.gap) in
    let split : whole ≡ front ++ (r.1 ++ r.2) = w ∙ ap (λ x. before ++ x) (r.3.whole ∙
    ap (λ x. r.3.gap ++ x) r.4.whole) ∙ sym (append_assoc before r.3.gap (r.1 ++ r.2)) in
    let here : has_range whole token ≡ true =
    token_holds whole start r.1 (λ h. ap (λ x. is_range x (span_of start (length r.1))) split ∙
    range_is front r.1 r.2 start place (not_empty start token r.1 r.4.spelled) h) token r.4.spelled in
    and_from (has_range whole token) (list_all (has_range whole) tokens) here
    (ranges_from whole (front ++ r.1) r.2 tokens (start + length r.1) starts end back (split ∙
    sym (append_assoc front r.1 r.2)) (omega (arith, place, length-append front r.1)) r.5)

pub cut_ranges : (text : List ℕ) (tokens : List Token) (starts : List ℕ) → IsCut text tokens starts →
    list_all (has_range text) tokens ≡ true
cut_ranges text tokens starts is = ranges_from text [] text tokens 0 starts (length text) [] refl refl is
