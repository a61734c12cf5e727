-- At the places of the printed text stand the placeholders, and what is given for them are the condition's names and
-- values.
use Rattle.std.proofs.Common.{◌≡◌, ℕ, suc, ◌+◌, ◌-◌, Bool, true, List, [], ◌∷◌, ◌++◌, map, length, take, drop, codes}
use Rattle.std.proofs.Common.{refl, sym, ap, ◌∙◌, arith, length-append, append_assoc, not, is_some}
use Rattle.std.specs.List.{flat_map}
use Rattle.std.proofs.Math.Seq.{drop-append_seam, take-append_seam}
use Rattle.std.proofs.lemmas.Bool.{cond-false}
use Rattle.dbe_values.specs.declared.value.AttrValue.{AttrValue}
use Rattle.dbe_tokens.specs.Text.{bytes_in}
use Rattle.dbe_tokens.specs.Ranges.{range_of}
use Rattle.dbe_tokens.specs.declared.token.Span.{Span}
use Rattle.dbe_tokens.specs.declared.token.Token.{Token}
use Rattle.dbe_tokens.specs.declared.token.Token.TheVariants as t
use Rattle.dbe_tokens.specs.declared.token.Operand.TheVariants as o
use Rattle.dbe_cond.specs.Given.{given, not_given}
use Rattle.dbe_cond.specs.Names.{operand_names}
use Rattle.dbe_cond.specs.Values.{operand_values}
use Rattle.dbe_cond.specs.Placeholders.{name_placeholders, value_placeholders}
use Rattle.dbe_cond.specs.Printed.{operand_shape, gap, token_text, has_gap_behind}
use Rattle.dbe_cond.specs.declared.operand.Operand.{Operand}
use Rattle.dbe_cond.specs.declared.operand.Operand.TheVariants.{Name, Value}
use Rattle.dbe_cond.proofs.Numbering.{GivesAll}
use Rattle.dbe_cond.proofs.PrintedLeaves.{operands}
use Rattle.dbe_cond.proofs.Relabelled.{tokens_at}
use Rattle.dbe_cond.proofs.Spelling.{spelled, spelled_tokens, token_at}
use Rattle.dbe_cond.proofs.Fitting.{Fits}

-- the ranges of the placeholders among tokens
abbrev pub ranges_of : List Token → List Span
ranges_of tokens = map range_of (operands tokens)

-- tokens with their placeholders at the places where their text stands
pub tokens-spelled : (tokens : List Token) (at n v : ℕ) (b : Bool) →
    tokens_at (ranges_of (spelled_tokens at n v b tokens)) tokens ≡ spelled_tokens at n v b tokens
tokens-spelled [] at n v b = refl
tokens-spelled (t.Operand (o.Name name) ∷ tokens) at n v b =
    let token : Token = t.Operand (o.Name name) in
    ap (λ x. token_at (at + length (gap b token)) (length (token_text n v token)) token ∷ x)
    (tokens-spelled tokens (at + length (gap b token) + length (token_text n v token)) (suc n) v true)
tokens-spelled (t.Operand (o.Value span) ∷ tokens) at n v b =
    let token : Token = t.Operand (o.Value span) in
    ap (λ x. token_at (at + length (gap b token)) (length (token_text n v token)) token ∷ x)
    (tokens-spelled tokens (at + length (gap b token) + length (token_text n v token)) n (suc v) true)
tokens-spelled (token ∷ tokens) at n v b =
    ap (λ x. token ∷ x) (tokens-spelled tokens (at + length (gap b token) + length (token_text n v token)) n v
    (has_gap_behind token))

-- the bytes between those before and those behind
bytes-between : (before space word back : List ℕ) (at : ℕ) → at ≡ length before →
    bytes_in (before ++ (space ++ (word ++ back))) (record {
      start = at + length space;
      end =
          at + length space + length word;
    }) ≡ word
bytes-between before space word back at e =
    let size : at + length space + length word - (at + length space) ≡ length word = omega arith in
    let place : at + length space ≡ length (before ++ space) = ap (λ x. x + length space) e ∙
    sym (length-append before space) in
    let whole : before ++ (space ++ (word ++ back)) ≡ (before ++ space) ++ (word ++ back) =
    sym (append_assoc before space (word ++ back)) in
    ap (λ k. take k (drop (at + length space) (before ++ (space ++ (word ++ back))))) size
    ∙ ap (λ x. take (length word) (drop (at + length space) x)) whole
    ∙ ap (λ k. take (length word) (drop k ((before ++ space) ++ (word ++ back)))) place
    ∙ ap (λ x. take (length word) x) (drop-append_seam (before ++ space) (word ++ back))
    ∙ take-append_seam word back

module _ (text : List ℕ) (names : List (List ℕ × List ℕ)) (values : List (List ℕ × AttrValue)) where
  -- one token more has been passed
  passed : (before : List ℕ) (at : ℕ) (n v : ℕ) (b : Bool) (token : Token) (back : List ℕ) →
      text ≡ before ++ (gap b token ++ (token_text n v token ++ back)) →
      text ≡ (before ++ gap b token ++ token_text n v token) ++ back
  passed before at n v b token back e =
      e ∙ ap (λ x. before ++ x) (sym (append_assoc (gap b token) (token_text n v token) back)) ∙
      sym (append_assoc before (gap b token ++ token_text n v token) back)
      ∙ ap (λ x. x ++ back) (sym (append_assoc before (gap b token) (token_text n v token)))

  longer : (before : List ℕ) (at : ℕ) (n v : ℕ) (b : Bool) (token : Token) → at ≡ length before →
      at + length (gap b token) + length (token_text n v token) ≡ length (before ++ gap b token ++ token_text n v token)
  longer before at n v b token e =
      ap (λ x. x + length (gap b token) + length (token_text n v token)) e ∙
      ap (λ x. x + length (token_text n v token)) (sym (length-append before (gap b token))) ∙
      sym (length-append (before ++ gap b token) (token_text n v token))

  found_bytes : (before : List ℕ) (at n v : ℕ) (b : Bool) (token : Token) (back : List ℕ) →
      text ≡ before ++ (gap b token ++ (token_text n v token ++ back)) → at ≡ length before →
      bytes_in text (record {
        start = at + length (gap b token);
        end =
            at + length (gap b token) + length (token_text n v token);
      }) ≡ token_text n v token
  found_bytes before at n v b token back e place =
      ap (λ x. bytes_in x (record {
        start = at + length (gap b token);
        end =
            at + length (gap b token) + length (token_text n v token);
      })) e ∙
      bytes-between before (gap b token) (token_text n v token) back at place

  pub spelled_fits : (tokens : List Token) (leaves : List Operand) (before : List ℕ) (at n v : ℕ) (b : Bool) →
      operands tokens ≡ map operand_shape leaves →
      GivesAll (codes "#") names n (flat_map operand_names leaves) →
      GivesAll (codes ":") values v (flat_map operand_values leaves) →
      text ≡ before ++ spelled n v b tokens → at ≡ length before →
      Fits text names values (ranges_of (spelled_tokens at n v b tokens)) leaves
  spelled_fits [] [] before at n v b same gn gv e place = tt
  spelled_fits [] (a ∷ leaves) before at n v b same gn gv e place = absurd (cc)
  spelled_fits (t.Operand (o.Name name) ∷ tokens) [] before at n v b same gn gv e place = absurd (cc)
  spelled_fits (t.Operand (o.Name name) ∷ tokens) (Value w ∷ leaves) before at n v b same gn gv e place = absurd (cc)
  spelled_fits (t.Operand (o.Name name) ∷ tokens) (Name y ∷ leaves) before at n v b same gn gv e place =
      let token : Token = t.Operand (o.Name name) in
      let back = spelled (suc n) v true tokens in (
        ap (λ p. given p names) (found_bytes before at n v b token back e place) ∙ gn.0,
        spelled_fits tokens leaves (before ++ gap b token ++ token_text n v token) (at + length (gap b token) + length
            (token_text n v token)) (suc n) v true (cc) gn.1 gv (passed before at n v b token back e)
            (longer before at n v b token place),
      )
  spelled_fits (t.Operand (o.Value span) ∷ tokens) [] before at n v b same gn gv e place = absurd (cc)
  spelled_fits (t.Operand (o.Value span) ∷ tokens) (Name y ∷ leaves) before at n v b same gn gv e place = absurd (cc)
  spelled_fits (t.Operand (o.Value span) ∷ tokens) (Value w ∷ leaves) before at n v b same gn gv e place =
      let token : Token = t.Operand (o.Value span) in
      let back = spelled n (suc v) true tokens in (
        ap (λ p. given p values) (found_bytes before at n v b token back e place) ∙ gv.0,
        spelled_fits tokens leaves (before ++ gap b token ++ token_text n v token) (at + length (gap b token) + length
            (token_text n v token)) n (suc v) true (cc) gn gv.1 (passed before at n v b token back e)
            (longer before at n v b token place),
      )
  spelled_fits (token ∷ tokens) leaves before at n v b same gn gv e place =
      spelled_fits tokens leaves (before ++ gap b token ++ token_text n v token) (at + length (gap b token) + length
      (token_text n v token)) n v (has_gap_behind token) same gn gv (passed before at n v b token
      (spelled n v (has_gap_behind token) tokens) e) (longer before at n v b token place)

  -- so no placeholder is without its name or value
  pub names_fit : (tokens : List Token) (leaves : List Operand) (at n v : ℕ) (b : Bool) →
      operands tokens ≡ map operand_shape leaves → Fits text names values (ranges_of (spelled_tokens at n v b tokens))
      leaves →
      not_given names (name_placeholders text (spelled_tokens at n v b tokens)) ≡ []
  names_fit [] leaves at n v b same h = refl
  names_fit (t.Operand (o.Name name) ∷ tokens) [] at n v b same h = absurd h
  names_fit (t.Operand (o.Name name) ∷ tokens) (Value w ∷ leaves) at n v b same h = absurd (cc)
  names_fit (t.Operand (o.Name name) ∷ tokens) (Name y ∷ leaves) at n v b same h =
      cond-false _ _ _ (ap (λ x. not (is_some x)) h.0) ∙
      names_fit tokens leaves (at + length (gap b (t.Operand (o.Name name))) + length
      (token_text n v (t.Operand (o.Name name)))) (suc n) v true (cc) h.1
  names_fit (t.Operand (o.Value span) ∷ tokens) [] at n v b same h = absurd h
  names_fit (t.Operand (o.Value span) ∷ tokens) (a ∷ leaves) at n v b same h =
      names_fit tokens leaves (at + length (gap b (t.Operand (o.Value span))) + length
      (token_text n v (t.Operand (o.Value span)))) n (suc v) true (cc) h.1
  names_fit (token ∷ tokens) leaves at n v b same h =
      names_fit tokens leaves (at + length (gap b token) + length (token_text n v token)) n v (has_gap_behind token)
      same h

  pub values_fit : (tokens : List Token) (leaves : List Operand) (at n v : ℕ) (b : Bool) →
      operands tokens ≡ map operand_shape leaves → Fits text names values (ranges_of (spelled_tokens at n v b tokens))
      leaves →
      not_given values (value_placeholders text (spelled_tokens at n v b tokens)) ≡ []
  values_fit [] leaves at n v b same h = refl
  values_fit (t.Operand (o.Value span) ∷ tokens) [] at n v b same h = absurd h
  values_fit (t.Operand (o.Value span) ∷ tokens) (Name y ∷ leaves) at n v b same h = absurd (cc)
  values_fit (t.Operand (o.Value span) ∷ tokens) (Value w ∷ leaves) at n v b same h =
      cond-false _ _ _ (ap (λ x. not (is_some x)) h.0) ∙
      values_fit tokens leaves (at + length (gap b (t.Operand (o.Value span))) + length
      (token_text n v (t.Operand (o.Value span)))) n (suc v) true (cc) h.1
  values_fit (t.Operand (o.Name name) ∷ tokens) [] at n v b same h = absurd h
  values_fit (t.Operand (o.Name name) ∷ tokens) (a ∷ leaves) at n v b same h =
      values_fit tokens leaves (at + length (gap b (t.Operand (o.Name name))) + length
      (token_text n v (t.Operand (o.Name name)))) (suc n) v true (cc) h.1
  values_fit (token ∷ tokens) leaves at n v b same h =
      values_fit tokens leaves (at + length (gap b token) + length (token_text n v token)) n v (has_gap_behind token)
      same h
