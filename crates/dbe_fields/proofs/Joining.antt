-- Texts joined one after another.
use Rattle.std.proofs.Common.{◌≡◌, ℕ, Bool, true, false, if◌then◌else◌, List, [], ◌∷◌, ◌++◌, map, Some, None, Option}
use Rattle.std.proofs.Common.{option_map, flat_map, filter_map, ◌<◌, ◌+◌, length, get_or, drop, option_and_then}
use Rattle.std.proofs.Common.{append_assoc, append-nil, refl, sym, ap, ◌∙◌, encode_utf8_all}
use Rattle.std.specs.List.{cons_option}
use Rattle.std.proofs.lemmas.List.{drop_more}
use Rattle.std.proofs.lemmas.Str.{encodes-append}
use Rattle.dbe_config.specs.declared.compound.Part.{Part}
use Rattle.dbe_config.specs.Setting.{Setting}
use Rattle.dbe_config.specs.declared.constructor.ConstructorPart.{ConstructorPart}
use Rattle.dbe_config.specs.declared.virtual_field.Virtual.{Virtual}
use Rattle.dbe_config.specs.declared.virtual_field.VirtualPart.{VirtualPart}
use Rattle.dbe_values.specs.declared.value.AttrValue.{AttrValue, S}
use Rattle.dbe_fields.proofs.Views.{view-S}
use Rattle.dbe_fields.specs.Texts.{value_text, text_in}
use Rattle.dbe_fields.specs.Virtuals.{joined, virtual_text, virtual_named, virtual_or_attribute, field_value}
use Rattle.dbe_fields.specs.Compounds.{joined_pieces}

-- ---- the texts of the parts of a virtual field

more_by : (bytes cs : List ℕ) (others : Option (List ℕ)) →
    option_map (λ ds. bytes ++ encode_utf8_all ds) (option_map (λ ds. cs ++ ds) others) ≡ option_map
    (λ ds. (bytes ++ encode_utf8_all cs) ++ encode_utf8_all ds) others
more_by bytes cs None = refl
more_by bytes cs (Some ds) = ap Some (ap (λ e. bytes ++ e) (encodes-append cs ds) ∙
    sym (append_assoc bytes (encode_utf8_all cs) (encode_utf8_all ds)))

pub joined_more : (bytes cs : List ℕ) (o : Option (List ℕ)) (others : List (Option (List ℕ))) → o ≡ Some cs
    → option_map (λ ds. bytes ++ encode_utf8_all ds) (joined (o ∷ others)) ≡ option_map
    (λ ds. (bytes ++ encode_utf8_all cs) ++ encode_utf8_all ds) (joined others)
joined_more bytes cs o others is = ap (λ x. option_map (λ ds. bytes ++ encode_utf8_all ds) (joined (x ∷ others))) is ∙
    more_by bytes cs (joined others)

-- ---- the pieces of a compound

abbrev pub piece_of : Part × List ℕ → List ℕ
piece_of u = u.0.prefix ++ u.1

abbrev pub behind : ℕ → List (Part × List ℕ) → List ℕ
behind split used = flat_map (λ u. (split ∷ []) ++ piece_of u) used

-- what is still to be written of some parts, behind others or at the front
abbrev pub rest_of : ℕ → Bool → List (Part × List ℕ) → List ℕ
rest_of split gap used = if gap then behind split used else joined_pieces split used

joined_behind : (split : ℕ) (u : Part × List ℕ) (used : List (Part × List ℕ)) →
    joined_pieces split (u ∷ used) ≡ piece_of u ++ behind split used
joined_behind split u [] = sym (append-nil (piece_of u))
joined_behind split u (v ∷ used) = ap (λ x. piece_of u ++ (split ∷ x)) (joined_behind split v used)

pub piece_more : (split : ℕ) (gap : Bool) (text : List ℕ) (u : Part × List ℕ) (used : List (Part × List ℕ))
    → text ++ rest_of split gap (u ∷ used) ≡ (text ++ ((if gap then split ∷ [] else []) ++ piece_of u)) ++ rest_of
    split true used
piece_more split true text u used = sym (append_assoc text ((split ∷ []) ++ piece_of u) (behind split used))
piece_more split false text u used = ap (λ x. text ++ x) (joined_behind split u used) ∙
    sym (append_assoc text (piece_of u) (behind split used))

front : {X : Type 0} → (xs : List X) (i : ℕ) (x : X) → i < length xs → x ≡ get_or xs i x →
    drop i xs ≡ x ∷ drop (i + 1) xs
front xs i x lt is = drop_more xs i x lt ∙ ap (λ y. y ∷ drop (i + 1) xs) (sym is)

module _ (split : ℕ) (gap : Bool) (f : ConstructorPart → Option (Part × List ℕ)) (entries : List ConstructorPart)
    (i : ℕ) (e : ConstructorPart) (lt : i < length entries) (is : e ≡ get_or entries i e) (all : List ℕ) where
  abbrev kept : Option (Part × List ℕ) → List (Part × List ℕ)
  kept o = cons_option o (filter_map f (drop (i + 1) entries))

  opened : filter_map f (drop i entries) ≡ kept (f e)
  opened = ap (filter_map f) (front entries i e lt is)

  pub entry_present : (text longer : List ℕ) (u : Part × List ℕ) → Some u ≡ f e →
      longer ≡ text ++ ((if gap then split ∷ [] else []) ++ piece_of u)
      → text ++ rest_of split gap (filter_map f (drop i entries)) ≡ all →
      longer ++ rest_of split true (filter_map f (drop (i + 1) entries)) ≡ all
  entry_present text longer u there more done =
      ap (λ t. t ++ rest_of split true (filter_map f (drop (i + 1) entries))) more ∙
      sym (piece_more split gap text u (filter_map f (drop (i + 1) entries)))
      ∙ ap (λ o. text ++ rest_of split gap (kept o)) there ∙ ap (λ us. text ++ rest_of split gap us) (sym opened) ∙ done

  pub entry_absent : (text : List ℕ) → None ≡ f e → text ++ rest_of split gap (filter_map f (drop i entries)) ≡ all →
      text ++ rest_of split gap (filter_map f (drop (i + 1) entries)) ≡ all
  entry_absent text none done = ap (λ o. text ++ rest_of split gap (kept o)) none ∙
      ap (λ us. text ++ rest_of split gap us) (sym opened) ∙ done

pub part_more : (f : VirtualPart → Option (List ℕ)) (parts : List VirtualPart) (i : ℕ) (p : VirtualPart)
    (bytes longer cs : List ℕ) (all : Option (List ℕ)) → i < length parts → p ≡ get_or parts i p
    → Some cs ≡ f p → longer ≡ bytes ++ encode_utf8_all cs
    → option_map (λ ds. bytes ++ encode_utf8_all ds) (joined (map f (drop i parts))) ≡ all →
    option_map (λ ds. longer ++ encode_utf8_all ds) (joined (map f (drop (i + 1) parts))) ≡ all
part_more f parts i p bytes longer cs all lt is there more done =
    ap (λ b. option_map (λ ds. b ++ encode_utf8_all ds) (joined (map f (drop (i + 1) parts)))) more
    ∙ sym (joined_more bytes cs (f p) (map f (drop (i + 1) parts)) (sym there))
    ∙ ap (λ ps. option_map (λ ds. bytes ++ encode_utf8_all ds) (joined (map f ps))) (sym (front parts i p lt is)) ∙ done

-- ---- the text of a virtual field as a value

text_of_s : (o : Option (List ℕ)) → option_and_then value_text (option_map S o) ≡ o
text_of_s None = refl
text_of_s (Some x) = ap text_in (view-S x)

pub field_text_is : (s : Setting) (name : List ℕ) (row : List (List ℕ × AttrValue)) (v : Virtual) →
    Some v ≡ virtual_named s name → virtual_text row v.parts ≡ option_and_then value_text (field_value s name row)
field_text_is s name row v is = sym (text_of_s (virtual_text row v.parts)) ∙
    ap (λ o. option_and_then value_text (virtual_or_attribute o name row)) is
