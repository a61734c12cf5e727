-- Tokens at the front of a text.
use Rattle.std.proofs.Common.{◌≡◌, ℕ, ◌+◌, true, false, cond, List, [], ◌∷◌, ◌++◌, length, take, drop, Some, None}
use Rattle.std.proofs.Common.{refl, ap, sym, subst, ◌∙◌, arith, suc, add-one, eqb}
use Rattle.std.specs.Prelude.{◌≢◌}
use Rattle.std.specs.List.{list_all, prefix_len}
use Rattle.std.proofs.lemmas.List.{take_at, take-append-drop}
use Rattle.std.proofs.lemmas.Bool.{and_left, and_right, and_from, cond-true, cond-false, false≢true, ne_eqb}
use Rattle.dbe_tokens.specs.declared.token.Token.{Token}
use Rattle.dbe_tokens.specs.declared.token.Token.TheVariants as t
use Rattle.dbe_tokens.specs.declared.token.Operand.TheVariants as operand
use Rattle.dbe_tokens.specs.declared.token.Name.TheVariants as name
use Rattle.dbe_tokens.specs.declared.token.Span.{Span}
use Rattle.dbe_tokens.specs.Token.{is_part, are_parts, begins_word, word_token, token_of, signs, two_signs}
use Rattle.dbe_tokens.specs.Text.{BeginsNone}
use Rattle.dbe_tokens.specs.Parts.{EndsParts, IsSplit, IsTail, IsSign, BeginsNoSign, IsFront}

-- the parts at the front, and what follows them
parts_true : (b : ℕ) (bytes : List ℕ) (n : ℕ) → is_part b ≡ true → (list_all is_part (take n bytes) ≡ true) ×
    EndsParts (drop n bytes) → (list_all is_part (take (suc n) (b ∷ bytes)) ≡ true) ×
    EndsParts (drop (suc n) (b ∷ bytes))
parts_true b bytes n h r = (and_from (is_part b) (list_all is_part (take n bytes)) h r.0, r.1)

pub parts_at : (bytes : List ℕ) (n : ℕ) → n ≡ prefix_len is_part bytes → (list_all is_part (take n bytes) ≡ true) ×
    EndsParts (drop n bytes)
parts_at [] n e = let z : n ≡ 0 = e in rw z (refl, tt)
parts_at (b ∷ bytes) n e = elim (is_part b) as (λ v. is_part b ≡ v → n ≡ cond v (1 + prefix_len is_part bytes) 0 →
    (list_all is_part (take n (b ∷ bytes)) ≡ true) × EndsParts (drop n (b ∷ bytes))) [
      | true ↦ λ h q.
          let s : n ≡ suc (prefix_len is_part bytes) = omega arith in
          rw s (parts_true b bytes (prefix_len is_part bytes) h (parts_at bytes (prefix_len is_part bytes) refl))
      | false ↦ λ h q. let z : n ≡ 0 = q in rw z (refl, h)
    ] refl e

pub split_is : (bytes front back : List ℕ) (n : ℕ) → n ≡ prefix_len is_part bytes → front ≡ take n bytes →
    back ≡ drop n bytes → IsSplit bytes front back
split_is bytes front back n e f b =
    let r = parts_at bytes n e in
    rw (f, b) (record { whole = sym (take-append-drop n bytes); parts = r.0; ends = r.1 })

-- more after parts is no part
not_all : (parts more others : List ℕ) → EndsParts (more ++ others) → more ≢ [] →
    list_all is_part (parts ++ more) ≡ false
not_all [] [] others e ne = absurd (ne refl)
not_all [] (b ∷ more) others e ne = and_left (is_part b) (list_all is_part more) e
not_all (a ∷ parts) more others e ne = and_right (is_part a) (list_all is_part (parts ++ more))
    (not_all parts more others e ne)

abbrev span_of : ℕ → ℕ → Span
span_of start n = record { start = start; end = start + n }

word_is : (start b : ℕ) (parts : List ℕ) → begins_word b ≡ true → list_all is_part parts ≡ true →
    token_of start (b ∷ parts) ≡ Some (word_token (span_of start (length (b ∷ parts))) (b ∷ parts))
word_is start b parts h k = cond-true (begins_word b) _ _ h ∙ cond-true (list_all is_part parts) _ _ k

word_none : (start b : ℕ) (parts : List ℕ) → begins_word b ≡ true → list_all is_part parts ≡ false →
    token_of start (b ∷ parts) ≡ None
word_none start b parts h k = cond-true (begins_word b) _ _ h ∙ cond-false (list_all is_part parts) _ _ k

pub word_front : (start b : ℕ) (text others parts back word : List ℕ) (span : Span) (token : Token) →
    text ≡ b ∷ others → begins_word b ≡ true → IsSplit others parts back →
    span ≡ span_of start (length parts + 1) → word ≡ take (length parts + 1) text → token ≡ word_token span word →
    IsFront start text token back
word_front start b text others parts back word span token w h s p q r =
    let whole : text ≡ b ∷ (parts ++ back) = w ∙ ap (λ x. b ∷ x) s.whole in
    let is : word ≡ b ∷ parts = q ∙ ap (take (length parts + 1)) whole ∙
    rw add-one (ap (λ x. b ∷ x) (take_at parts back (length parts) refl)) in
    let placed : span ≡ span_of start (length (b ∷ parts)) = p ∙ ap (span_of start) (omega arith) in
    record {
      front = b ∷ parts;
      longest = record {
        whole = whole;
        spelled = word_is start b parts h s.parts ∙ ap (λ x. Some (word_token x (b ∷ parts))) (sym placed) ∙
            ap (λ x. Some (word_token span x)) (sym is) ∙ ap Some (sym r);
        longest = λ more last e ne. word_none start b (parts ++ more) h (not_all parts more last
            (subst EndsParts e s.ends) ne);
      };
    }

not_tail : (tail more others : List ℕ) → are_parts tail ≡ true → EndsParts (more ++ others) → more ≢ [] →
    are_parts (tail ++ more) ≡ false
not_tail [] more others h e ne = absurd (false≢true h)
not_tail (t ∷ tail) more others h e ne = and_right (is_part t) (list_all is_part (tail ++ more))
    (not_all tail more others e ne)

-- # and :
abbrev IsMark : ℕ → ℕ → (Span → Token) → Type 0
IsMark start b make = (bytes : List ℕ) → token_of start (b ∷ bytes) ≡ cond (are_parts bytes)
    (Some (make (span_of start (length (b ∷ bytes))))) None

mark_front : (start b : ℕ) (make : Span → Token) (text others back : List ℕ) (span : Span) → IsMark start b make →
    text ≡ b ∷ others → IsTail start others span back → IsFront start text (make span) back
mark_front start b make text others back span mark w s =
    let placed : span ≡ span_of start (length (b ∷ s.tail)) = s.place ∙ ap (span_of start) (omega arith) in
    record {
      front = b ∷ s.tail;
      longest = record {
        whole = w ∙ ap (λ x. b ∷ x) s.whole;
        spelled = mark s.tail ∙ cond-true (are_parts s.tail) _ _ s.parts ∙ ap (λ x. Some (make x)) (sym placed);
        longest = λ more last e ne. mark (s.tail ++ more) ∙
            cond-false (are_parts (s.tail ++ more)) _ _ (not_tail s.tail more last s.parts (subst EndsParts e s.ends)
            ne);
      };
    }

pub hash_front : (start b : ℕ) (text others back : List ℕ) (span : Span) → text ≡ b ∷ others → b ≡ 35 →
    IsTail start others span back → IsFront start text (t.Operand (operand.Name (name.Placeholder span))) back
hash_front start b text others back span w h s =
    mark_front start 35 (λ x. t.Operand (operand.Name (name.Placeholder x))) text others back span (λ bytes. refl)
    (w ∙ ap (λ x. x ∷ others) h) s

pub colon_front : (start b : ℕ) (text others back : List ℕ) (span : Span) → text ≡ b ∷ others → b ≡ 58 →
    IsTail start others span back → IsFront start text (t.Operand (operand.Value span)) back
colon_front start b text others back span w h s = mark_front start 58 (λ x. t.Operand (operand.Value x)) text others
    back span (λ bytes. refl) (w ∙ ap (λ x. x ∷ others) h) s

no_parts : (bytes front back : List ℕ) → EndsParts bytes → bytes ≡ front ++ back → are_parts front ≡ false
no_parts bytes [] back e q = refl
no_parts bytes (b ∷ front) back e q = let h : is_part b ≡ false = subst EndsParts q e in
    and_left (is_part b) (list_all is_part front) h

mark_none : (start b : ℕ) (make : Span → Token) (others front back : List ℕ) → IsMark start b make →
    EndsParts others → b ∷ others ≡ front ++ back → token_of start front ≡ None
mark_none start b make others [] back mark e q = refl
mark_none start b make others (a ∷ front) back mark e q =
    let same : a ≡ b = cc in
    rw same (mark front ∙ cond-false (are_parts front) _ _ (no_parts others front back e (cc)))

pub hash_none : (start b : ℕ) (text others : List ℕ) → text ≡ b ∷ others → b ≡ 35 → EndsParts others →
    BeginsNone start text
hash_none start b text others w h e =
    λ front back q. mark_none start 35 (λ x. t.Operand (operand.Name (name.Placeholder x))) others front back
    (λ bytes. refl) e (ap (λ x. x ∷ others) (sym h) ∙ sym w ∙ q)

pub colon_none : (start b : ℕ) (text others : List ℕ) → text ≡ b ∷ others → b ≡ 58 → EndsParts others →
    BeginsNone start text
colon_none start b text others w h e = λ front back q. mark_none start 58 (λ x. t.Operand (operand.Value x)) others
    front back (λ bytes. refl) e (ap (λ x. x ∷ others) (sym h) ∙ sym w ∙ q)

-- comparisons, parentheses and the comma
two_longest : (a b : ℕ) (more : List ℕ) → more ≢ [] → signs a (b ∷ more) ≡ None
two_longest a b [] ne = absurd (ne refl)
two_longest a b (c ∷ more) ne = refl

pub two_front : (a b : ℕ) (others back : List ℕ) (token : Token) → others ≡ b ∷ back → Some token ≡ two_signs a b →
    IsSign a others token back
two_front a b others back token w h = record {
  rest = b ∷ [];
  whole = w;
  spelled = sym h;
  longest =
      λ more last e ne. two_longest a b more ne;
}

signs_are : (start b : ℕ) (bytes : List ℕ) → begins_word b ≡ false → (b ≡ 35 → ⊥) → (b ≡ 58 → ⊥) →
    token_of start (b ∷ bytes) ≡ signs b bytes
signs_are start b bytes h k l = cond-false (begins_word b) _ _ h ∙ cond-false (eqb b 35) _ _ (ne_eqb b 35 k) ∙
    cond-false (eqb b 58) _ _ (ne_eqb b 58 l)

pub sign_front : (start b : ℕ) (text others back : List ℕ) (token : Token) → text ≡ b ∷ others →
    begins_word b ≡ false → (b ≡ 35 → ⊥) → (b ≡ 58 → ⊥) → IsSign b others token back → IsFront start text token back
sign_front start b text others back token w h k l s = record {
  front = b ∷ s.rest;
  longest = record {
    whole = w ∙ ap (λ x. b ∷ x) s.whole;
    spelled = signs_are start b s.rest h k l ∙ s.spelled;
    longest = λ more last e ne. signs_are start b (s.rest ++ more) h k l ∙ s.longest more last e ne;
  };
}

none_sign : (start b : ℕ) (others front back : List ℕ) → begins_word b ≡ false → (b ≡ 35 → ⊥) → (b ≡ 58 → ⊥) →
    BeginsNoSign b others → b ∷ others ≡ front ++ back → token_of start front ≡ None
none_sign start b others [] back h k l s q = refl
none_sign start b others (a ∷ front) back h k l s q =
    let same : a ≡ b = cc in
    rw same (signs_are start b front h k l ∙ s front back (cc))

pub sign_none : (start b : ℕ) (text others : List ℕ) → text ≡ b ∷ others → begins_word b ≡ false → (b ≡ 35 → ⊥) →
    (b ≡ 58 → ⊥) → BeginsNoSign b others → BeginsNone start text
sign_none start b text others w h k l s = λ front back q. none_sign start b others front back h k l s (sym w ∙ q)
