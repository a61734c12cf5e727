-- Loops over the names of a row.
use Rattle.std.proofs.Common.{◌≡◌, ℕ, zero, suc, ◌+◌, ◌<◌, Bool, true, false, cond, List, [], ◌∷◌, ◌++◌, length, take}
use Rattle.std.proofs.Common.{get_or, Some, refl, sym, ap, ◌∙◌, append_assoc, append-nil, arith}
use Rattle.std.specs.Prelude.{filter, not, slice_get}
use Rattle.std.proofs.lemmas.List.{take_more, map-append}
use Rattle.std.proofs.lemmas.List.Elements.{filter-append}
use Rattle.std.proofs.lemmas.Option.{slice_get_within, get_or_from_slice_get}
use Rattle.dbe_values.specs.Lawful.{names_of}
use Rattle.dbe_values.specs.declared.value.AttrValue.{AttrValue}
use Rattle.dbe_config.specs.Actions.{is_unsigned}
use Rattle.dbe_config.specs.Setting.{Setting}
use Rattle.dbe_frame.specs.Signed.{signed_among}
use Rattle.dbe_frame.specs.Record.{entry_text, entries_text}

abbrev is_signed : Setting → List ℕ → Bool
is_signed s name = not (is_unsigned s.schema s.actions s.unsigned_prefix name)

abbrev one_if : Bool → List ℕ → List (List ℕ)
one_if b name = cond b (name ∷ []) []

among_one : (s : Setting) (a : List ℕ × AttrValue) → filter (is_signed s) (names_of (a ∷ [])) ≡ one_if
    (is_signed s a.0) a.0
among_one s a = refl

among_more : (s : Setting) (row : List (List ℕ × AttrValue)) (i : ℕ) (a : List ℕ × AttrValue) →
    slice_get row i ≡ Some a → signed_among s (take (i + 1) row) ≡ signed_among s (take i row) ++ one_if
    (is_signed s a.0) a.0
among_more s row i a is =
    let more : take (i + 1) row ≡ take i row ++ a ∷ [] = take_more row i a (slice_get_within row i a is) ∙
    ap (λ (x : List ℕ × AttrValue). take i row ++ x ∷ []) (get_or_from_slice_get row i a a is) in
    ap (λ (r : List (List ℕ × AttrValue)). signed_among s r) more
    ∙ ap (λ (n : List (List ℕ)). filter (is_signed s) n) (map-append (λ (x : List ℕ × AttrValue). x.0) (take i row)
    (a ∷ []))
    ∙ filter-append (is_signed s) (names_of (take i row)) (names_of (a ∷ []))

-- a name that is unsigned is left out, and any other comes last
pub unsigned_more : (s : Setting) (row : List (List ℕ × AttrValue)) (i : ℕ) (a : List ℕ ×
    AttrValue) (names : List (List ℕ)) → slice_get row i ≡ Some a →
    is_unsigned s.schema s.actions s.unsigned_prefix a.0 ≡ true
    → names ≡ signed_among s (take i row) → names ≡ signed_among s (take (i + 1) row)
unsigned_more s row i a names is unsigned so_far =
    so_far ∙ sym (append-nil (signed_among s (take i row))) ∙
    ap (λ (b : Bool). signed_among s (take i row) ++ one_if (not b) a.0) (sym unsigned) ∙
    sym (among_more s row i a is)

pub signed_more : (s : Setting) (row : List (List ℕ × AttrValue)) (i : ℕ) (a : List ℕ ×
    AttrValue) (names more : List (List ℕ)) (name : List ℕ) → slice_get row i ≡ Some a →
    is_unsigned s.schema s.actions s.unsigned_prefix a.0 ≡ false
    → names ≡ signed_among s (take i row) → name ≡ a.0 → more ≡ names ++ name ∷ [] →
    more ≡ signed_among s (take (i + 1) row)
signed_more s row i a names more name is signed so_far same pushed =
    pushed ∙ ap (λ (n : List ℕ). names ++ n ∷ []) same ∙ ap (λ (ns : List (List ℕ)). ns ++ a.0 ∷ []) so_far
    ∙ ap (λ (b : Bool). signed_among s (take i row) ++ one_if (not b) a.0) (sym signed) ∙ sym (among_more s row i a is)

-- ---- the entries of a record

module _ (table : List ℕ) (row : List (List ℕ × AttrValue)) where
  entries_one_more : (i : ℕ) (names : List (List ℕ)) (legend : List ℕ) (name : List ℕ) → i < length names →
      i < length legend
      → entries_text table row (take (suc i) names) (take (suc i) legend) ≡ entries_text table row (take i names)
      (take i legend) ++ entry_text table row (get_or names i name) (get_or legend i 0)
  unfolding entries_text
  entries_one_more i [] legend name lt le = absurd (omega arith)
  entries_one_more i (n ∷ names) [] name lt le = absurd (omega arith)
  entries_one_more zero (n ∷ names) (b ∷ legend) name lt le = append-nil (entry_text table row n b)
  entries_one_more (suc i) (n ∷ names) (b ∷ legend) name lt le =
      ap (λ (t : List ℕ). entry_text table row n b ++ t) (entries_one_more i names legend name (omega arith)
      (omega arith))
      ∙ sym (append_assoc (entry_text table row n b) (entries_text table row (take i names) (take i legend))
      (entry_text table row (get_or names i name) (get_or legend i 0)))

  pub entries_none : (old : List ℕ) → old ≡ old ++ entries_text table row [] []
  unfolding entries_text
  entries_none old = sym (append-nil old)

  pub entries_more : (i : ℕ) (names : List (List ℕ)) (legend : List ℕ) (name old so_far new : List ℕ) →
      i < length names → length legend ≡ length names → name ≡ get_or names i name
      → so_far ≡ old ++ entries_text table row (take i names) (take i legend) →
      new ≡ so_far ++ entry_text table row name (get_or legend i 0) →
      new ≡ old ++ entries_text table row (take (i + 1) names) (take (i + 1) legend)
  entries_more i names legend name old so_far new lt same is before added =
      let next : i + 1 ≡ suc i = omega arith in
      let inside : i < length legend = omega arith in
      let last : entry_text table row name (get_or legend i 0) ≡ entry_text table row (get_or names i name)
      (get_or legend i 0) = ap (λ (n : List ℕ). entry_text table row n (get_or legend i 0)) is in
      let more : entries_text table row (take i names) (take i legend) ++ entry_text table row name
      (get_or legend i 0) ≡ entries_text table row (take (i + 1) names) (take (i + 1) legend) =
      ap (λ (t : List ℕ). entries_text table row (take i names) (take i legend) ++ t) last ∙
      sym (entries_one_more i names legend name lt inside) ∙
      ap (λ (n : ℕ). entries_text table row (take n names) (take n legend)) (sym next) in
      added ∙ ap (λ (t : List ℕ). t ++ entry_text table row name (get_or legend i 0)) before ∙
      append_assoc old (entries_text table row (take i names) (take i legend)) (entry_text table row name
      (get_or legend i 0)) ∙ ap (λ (t : List ℕ). old ++ t) more
