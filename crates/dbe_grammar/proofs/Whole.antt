-- All of the tokens.
use Rattle.std.proofs.Common.{◌≡◌, ℕ, ◌+◌, ◌-◌, ◌<◌, List, [], ◌∷◌, ◌++◌, length, take, drop, refl, ap, sym, subst}
use Rattle.std.proofs.Common.{◌∙◌, append_assoc, arith, length-append, suc, add-one, inl, inr}
use Rattle.std.specs.Prelude.{◌≢◌}
use Rattle.std.proofs.lemmas.Bool.{cases_order}
use Rattle.std.proofs.lemmas.List.{take_at, take-take, take-append-drop}
use Rattle.dbe_tokens.specs.declared.token.Token.{Token}
use Rattle.dbe_grammar.specs.Form.{Form}
use Rattle.dbe_grammar.specs.Grammar.{or_text, or_form, IsCond}
use Rattle.dbe_grammar.specs.Parts.{next_of, AfterOr, OrFront, OrStuck}
use Rattle.dbe_grammar.specs.Reading.{Begins, IsMisfit}
use Rattle.dbe_grammar.proofs.Unique.{or_text-append, or_unique}

end_after : AfterOr []
end_after = ((λ q. cc), (λ q. cc))

pub cond_unique : (tokens : List Token) (one two : Form) → IsCond tokens one → IsCond tokens two → one ≡ two
cond_unique tokens one two x y =
    let r = or_unique x.parts y.parts [] [] end_after end_after (sym x.text ∙ y.text) in
    x.means ∙ ap or_form r.0 ∙ sym y.means

pub whole_found : (tokens : List Token) (found : Form) (others : List Token) → OrFront tokens found others →
    length others ≡ 0 → IsCond tokens found
whole_found tokens found [] f e = record { parts = f.parts; text = f.spelled; means = f.means }
whole_found tokens found (token ∷ others) f e = absurd (omega arith)

-- a front with one token more
front_suc : (front back : List Token) (token : Token) → take (suc (length front)) (front ++ token ∷ back) ≡ front ++
    token ∷ []
front_suc [] back token = refl
front_suc (a ∷ front) back token = ap (λ x. a ∷ x) (front_suc front back token)

front_more : (front back : List Token) (token : Token) → take (length front + 1) (front ++ token ∷ back) ≡ front ++
    token ∷ []
front_more front back token = ap (λ n. take n (front ++ token ∷ back)) (add-one (length front)) ∙
    front_suc front back token

-- a place, from the front before it
misfit_at : (tokens front back : List Token) (at : ℕ) → tokens ≡ front ++ back → at ≡ length front →
    ((found : Form) → IsCond tokens found → ⊥) → Begins front →
    ((token : Token) (rest : List Token) → back ≡ token ∷ rest → Begins (front ++ token ∷ []) → ⊥) → IsMisfit tokens at
misfit_at tokens front [] at whole place none begins fails =
    let front_is : take at tokens ≡ front = ap (take at) whole ∙ take_at front [] at (sym place) in
    record {
      none = none;
      within = omega (arith, ap length whole, length-append front [], place);
      begins = subst Begins (sym front_is) begins;
      fails = λ less b. absurd (omega (arith, ap length whole, length-append front [], place, less));
    }
misfit_at tokens front (token ∷ rest) at whole place none begins fails =
    let front_is : take at tokens ≡ front = ap (take at) whole ∙ take_at front (token ∷ rest) at (sym place) in
    let more_is : take (at + 1) tokens ≡ front ++ token ∷ [] = ap (take (at + 1)) whole ∙
    ap (λ n. take (n + 1) (front ++ token ∷ rest)) place ∙ front_more front rest token in
    record {
      none = none;
      within = omega (arith, ap length whole, length-append front (token ∷ rest), place);
      begins = subst Begins (sym front_is) begins;
      fails = λ less b. fails token rest refl (subst Begins more_is b);
    }

pub stuck_whole : (tokens : List Token) (left at : ℕ) → OrStuck tokens left → at ≡ length tokens - left →
    IsMisfit tokens at
stuck_whole tokens left at f e = misfit_at tokens f.front f.back at f.whole (omega (
  arith,
  length-append f.front f.back,
  ap length f.whole,
  f.is_left,
))
    (λ found is. f.none is.parts f.back [] refl (sym f.whole ∙ is.text) end_after)
    (record {
      missing = f.missing;
      found = or_form f.parts;
      whole = record {
        parts = f.parts;
        text = f.begins;
        means =
            refl;
      };
    })
    (λ token rest back b. f.none b.whole.parts (token ∷ b.missing) [] (ap next_of (sym back))
    (sym (append_assoc f.front (token ∷ []) b.missing) ∙ b.whole.text) end_after)

-- a condition, and then more
pub front_whole : (tokens : List Token) (found : Form) (others : List Token) (at : ℕ) → OrFront tokens found others →
    length others ≢ 0 → at ≡ length tokens - length others → IsMisfit tokens at
front_whole tokens found others at f h e =
    let split : tokens ≡ or_text f.parts [] ++ others = f.spelled ∙ sym (or_text-append f.parts [] others) in
    misfit_at tokens (or_text f.parts []) others at split (omega (
      arith,
      length-append (or_text f.parts []) others,
      ap length split,
    ))
    (λ wanted is. h (ap length ((or_unique f.parts is.parts others [] f.after end_after (sym f.spelled ∙ is.text)).1)))
    (record {
      missing = [];
      found = or_form f.parts;
      whole = record {
        parts = f.parts;
        text =
            or_text-append f.parts [] [];
        means = refl;
      };
    })
    (λ token rest back b.
    let text : or_text f.parts (token ∷ b.missing) ≡ or_text b.whole.parts [] =
    sym (or_text-append f.parts [] (token ∷ b.missing)) ∙
    sym (append_assoc (or_text f.parts []) (token ∷ []) b.missing) ∙ b.whole.text in
    let next : next_of (token ∷ b.missing) ≡ next_of others = ap next_of (sym back) in
    let r = or_unique f.parts b.whole.parts (token ∷ b.missing) [] (
      (λ x. f.after.0 (sym next ∙ x)),
      (λ x. f.after.1 (sym next ∙ x)),
    ) end_after text in
    let nothing : token ∷ b.missing ≡ [] = r.1 in
    cc)

begins_before : (front more : List Token) → Begins (front ++ more) → Begins front
begins_before front more b = record {
  missing = more ++ b.missing;
  found = b.found;
  whole =
      record {
        parts = b.whole.parts;
        text = sym (append_assoc front more b.missing) ∙ b.whole.text;
        means =
            b.whole.means;
      };
}

-- of two places the earlier fails where the later begins
not_before : (tokens : List Token) (m n : ℕ) → IsMisfit tokens m → IsMisfit tokens n → m < n → ⊥
not_before tokens m n x y less =
    let shorter : take (m + 1) (take n tokens) ≡ take (m + 1) tokens = take-take (m + 1) n tokens (omega arith) in
    let cut : take (m + 1) tokens ++ drop (m + 1) (take n tokens) ≡ take n tokens =
    ap (λ z. z ++ drop (m + 1) (take n tokens)) (sym shorter) ∙ take-append-drop (m + 1) (take n tokens) in
    x.fails (omega (arith, y.within)) (begins_before (take (m + 1) tokens) (drop (m + 1) (take n tokens))
    (subst Begins (sym cut) y.begins))

pub place_unique : (tokens : List Token) (m n : ℕ) → IsMisfit tokens m → IsMisfit tokens n → m ≡ n
place_unique tokens m n x y = elim (cases_order m n) [
  | inl e ↦ e
  | inr (inl l) ↦ absurd (not_before tokens m n x y l)
  | inr (inr l) ↦ absurd (not_before tokens n m y x l)
]
