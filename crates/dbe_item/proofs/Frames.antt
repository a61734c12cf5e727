-- The frame of a row: its legend and its footer.
use Rattle.std.proofs.Common.{◌≡◌, ℕ, zero, suc, ◌*◌, ◌<◌, Bool, true, false, List, [], ◌∷◌, length, get_or, bytes_eq}
use Rattle.std.proofs.Common.{Option, Some, refl, sym, ap, ◌∙◌, arith, length-append}
use Rattle.std.specs.List.{AllByRecursion, list_any}
use Rattle.std.proofs.lemmas.List.Elements.{recursion_from_All}
use Rattle.std.proofs.lemmas.List.Folds.{list_any_at}
use Rattle.std.proofs.lemmas.List.Sums.{position_or_len_is}
use Rattle.dbe_values.specs.declared.value.AttrValue.{AttrValue, B}
use Rattle.dbe_frame.specs.Format.{joined}
use Rattle.dbe_frame.specs.Sizes.{signed_only}
use Rattle.dbe_item.specs.Names.{foot_name, number_of}
use Rattle.dbe_item.specs.Opens.{HasBinary, HasFooter}

-- a name that is not there has no number
fails_at : (test : List ℕ → Bool) (xs : List (List ℕ)) (k : ℕ) (b : Bool) → k < length xs → list_any test xs ≡ false →
    test (get_or xs k []) ≡ b → test (get_or xs k []) ≡ false
fails_at test xs k false lt none e = e
fails_at test xs k true lt none e = let wrong : true ≡ false = sym (list_any_at test xs k [] lt e) ∙ none in absurd cc

pub number_past : (name : List ℕ) (names : List (List ℕ)) → list_any (bytes_eq name) names ≡ false →
    number_of name names ≡ length names
number_past name names none =
    position_or_len_is (bytes_eq name) names (length names) [] (omega arith) (λ k lt. fails_at (bytes_eq name) names k
    (bytes_eq name (get_or names k [])) lt none refl) (λ lt. absurd (omega arith))

pub past_end : (xs : List ℕ) (i : ℕ) → length xs ≡ i → get_or xs i 0 ≡ 0
past_end [] i e = refl
past_end (x ∷ xs) zero e = absurd (omega arith)
past_end (x ∷ xs) (suc i) e = past_end xs i (omega arith)

-- the legend does not say of it that it is signed only
pub absent_is_unsigned : (name : List ℕ) (names : List (List ℕ)) (legend : List ℕ) → length legend ≡ length names →
    list_any (bytes_eq name) names ≡ false → get_or legend (number_of name names) 0 ≡ signed_only → ⊥
absent_is_unsigned name names legend same none e =
    let wrong : 0 ≡ 115 = sym (past_end legend (number_of name names) (same ∙ sym (number_past name names none))) ∙ e
    in absurd (omega (arith, wrong))

-- ---- the footer

bytes_in : Option AttrValue → List ℕ
bytes_in (Some (B x)) = x
bytes_in _ = []

-- a row has one binary of a name
pub same_binary : (name : List ℕ) (row : List (List ℕ × AttrValue)) (a b : List ℕ) → HasBinary name row a →
    HasBinary name row b → a ≡ b
unfolding bytes_in
same_binary name row a b h g = ap bytes_in (sym h ∙ g)

tags_length : (tags : List (List ℕ)) → AllByRecursion (λ t. length t ≡ 48) tags → length (joined tags) ≡ 48 *
    length tags
tags_length [] h = refl
tags_length (t ∷ tags) h = omega (arith, length-append t (joined tags), h.0, tags_length tags h.1)

pub no_tags : (row : List (List ℕ × AttrValue)) (n : ℕ) (bytes : List ℕ) → HasBinary foot_name row bytes →
    (length bytes ≡ 48 * n → ⊥) → (tags : List (List ℕ)) → HasFooter row n tags → ⊥
no_tags row n bytes stored wrong tags h =
    let size : length (joined tags) ≡ 48 * n = tags_length tags
    (recursion_from_All (λ t. length t ≡ 48) tags h.are.each) ∙ ap (λ k. 48 * k) h.are.count in
    wrong (ap length (same_binary foot_name row bytes h.bytes stored h.stored ∙ h.are.text) ∙ size)

pub no_footer : (row : List (List ℕ × AttrValue)) (n : ℕ) →
    ((bytes : List ℕ) → HasBinary foot_name row bytes → ⊥) → (tags : List (List ℕ)) → HasFooter row n tags → ⊥
no_footer row n none tags h = none h.bytes h.stored
