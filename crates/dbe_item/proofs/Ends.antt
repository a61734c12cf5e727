-- Attributes put behind those before them.
use Rattle.std.proofs.Common.{◌≡◌, ℕ, ◌+◌, ◌<◌, true, false, cond, List, [], ◌∷◌, ◌++◌, length, take, drop}
use Rattle.std.proofs.Common.{map, get_or, Some, Greater, Less, refl, sym, ap, ◌∙◌, subst, append-nil, arith}
use Rattle.std.specs.Prelude.{not, slice_get}
use Rattle.std.specs.List.{All}
use Rattle.std.proofs.lemmas.List.{take_more, get_or-take, length-take, get_or-map, length-map, map-append}
use Rattle.std.proofs.lemmas.List.Elements.{filter-append, All-filter, All-map, All-head, All-tail}
use Rattle.std.proofs.lemmas.Option.{slice_get_within, get_or_from_slice_get}
use Rattle.dbe_config.specs.Actions.{is_reserved}
use Rattle.dbe_values.specs.Attributes.{put_at}
use Rattle.dbe_values.specs.Lawful.{IsLawfulAttribute, IsLawfulItem, names_of}
use Rattle.dbe_values.specs.declared.value.AttrValue.{AttrValue}
use Rattle.dbe_values.proofs.Placing.{order, turned}
use Rattle.dbe_item.specs.Names.{strip}
use Rattle.dbe_item.specs.Sealed.{put_all}
use Rattle.dbe_item.proofs.Walks.{drop_at}

abbrev pub Attribute : Type 0
Attribute = List ℕ × AttrValue

-- a name above those of all attributes
abbrev pub IsAbove : List ℕ → Attribute → Type 0
IsAbove name a = order name a.0 ≡ Greater

pub put_end : (name : List ℕ) (value : AttrValue) (xs : List Attribute) → All (IsAbove name) xs →
    put_at name value xs ≡ xs ++ (name, value) ∷ []
put_end name value [] h = refl
put_end name value (x ∷ xs) h =
    rw (All-head (IsAbove name) x xs h) (ap (λ (ys : List Attribute). x ∷ ys) (put_end name value xs
    (All-tail (IsAbove name) x xs h)))

module _ (row : List Attribute) (lawful : IsLawfulItem row) (i : ℕ) (a : Attribute)
    (is : slice_get row i ≡ Some a) where
  within : i < length row
  within = slice_get_within row i a is

  at_place : (d : Attribute) → get_or row i d ≡ a
  at_place d = get_or_from_slice_get row i a d is

  -- each attribute keeps the rules of an item
  pub is_lawful_at : IsLawfulAttribute a
  is_lawful_at = subst IsLawfulAttribute (at_place a) (lawful.each i a within)

  named : (k : ℕ) (d : Attribute) → k < length row → get_or (names_of row) k [] ≡ (get_or row k d).0
  named k d lt = get_or-map (λ (x : Attribute). x.0) row k d [] lt

  below : (k : ℕ) (d : Attribute) → k < i → order a.0 (get_or row k d).0 ≡ Greater
  below k d lt =
      let long : i < length (names_of row) = omega (arith, length-map row (λ (x : Attribute). x.0), within) in
      let less : order (get_or row k d).0 a.0 ≡ Less = subst (λ x. order x a.0 ≡ Less) (named k d (omega (
        arith,
        lt,
        within,
      ))) (subst (λ x. order (get_or (names_of row) k []) x ≡ Less) (named i a within ∙
      ap (λ (x : Attribute). x.0) (at_place a)) (lawful.increasing k i lt long)) in
      turned (get_or row k d).0 a.0 Less less

  -- its name is above those before it
  pub above : All (IsAbove a.0) (take i row)
  above k d lt =
      let low : k < i = omega (arith, lt, length-take i row) in
      subst (λ (x : Attribute). IsAbove a.0 x) (sym (get_or-take i row k d low)) (below k d low)

  pub one_more : take (i + 1) row ≡ take i row ++ a ∷ []
  one_more = take_more row i a within ∙ ap (λ (x : Attribute). take i row ++ x ∷ []) (at_place a)

  strip_more : strip (take (i + 1) row) ≡ strip (take i row) ++ cond (not (is_reserved a.0)) (a ∷ []) []
  strip_more = ap strip one_more ∙ filter-append (λ (x : Attribute). not (is_reserved x.0)) (take i row) (a ∷ [])

  pub strip_without : (item : List Attribute) → item ≡ strip (take i row) → is_reserved a.0 ≡ true →
      item ≡ strip (take (i + 1) row)
  strip_without item so_far r = so_far ∙ sym (append-nil (strip (take i row))) ∙
      ap (λ b. strip (take i row) ++ cond (not b) (a ∷ []) []) (sym r) ∙ sym strip_more

  pub strip_with : (item new : List Attribute) (name : List ℕ) (value : AttrValue) → item ≡ strip (take i row) →
      is_reserved a.0 ≡ false → name ≡ a.0 → value ≡ a.1 → new ≡ put_at name value item →
      new ≡ strip (take (i + 1) row)
  strip_with item new name value so_far r same_name same_value put =
      let end : put_at a.0 a.1 (strip (take i row)) ≡ strip (take i row) ++ a ∷ [] =
      put_end a.0 a.1 (strip (take i row)) (All-filter (λ (x : Attribute). not (is_reserved x.0)) (IsAbove a.0)
      (take i row) above) in
      put ∙ ap (λ (n : List ℕ). put_at n value item) same_name ∙ ap (λ (v : AttrValue). put_at a.0 v item) same_value ∙
      ap (put_at a.0 a.1) so_far ∙ end ∙ ap (λ b. strip (take i row) ++ cond (not b) (a ∷ []) []) (sym r) ∙
      sym strip_more

-- an attribute changed but not renamed, put last
pub changed_more : (f : Attribute → Attribute) → ((x : Attribute) → (f x).0 ≡ x.0) → (row : List Attribute) →
    IsLawfulItem row →
    (i : ℕ) (a : Attribute) (old new : List Attribute) (name : List ℕ) (value : AttrValue) → slice_get row i ≡ Some a →
    old ≡ map f (take i row) → name ≡ a.0 → value ≡ (f a).1 → new ≡ put_at name value old →
    new ≡ map f (take (i + 1) row)
changed_more f same row lawful i a old new name value is so_far same_name same_value put =
    let high : All (IsAbove (f a).0) (map f (take i row)) = All-map (IsAbove (f a).0) f (take i row) (λ k d lt.
    subst (λ n. order n (f (get_or (take i row) k d)).0 ≡ Greater) (sym (same a))
    (subst (λ n. order a.0 n ≡ Greater) (sym (same (get_or (take i row) k d)))
    (above row lawful i a is k d lt))) in
    put ∙ ap (λ (n : List ℕ). put_at n value old) (same_name ∙ sym (same a)) ∙
    ap (λ (v : AttrValue). put_at (f a).0 v old) same_value ∙ ap (put_at (f a).0 (f a).1) so_far ∙
    put_end (f a).0 (f a).1 (map f (take i row)) high ∙ sym (map-append f (take i row) (a ∷ [])) ∙
    ap (map f) (sym (one_more row lawful i a is))

-- one attribute more is put
pub put_more : (others : List Attribute) (i : ℕ) (a : Attribute) (row new all : List Attribute) (name : List ℕ) →
    (value : AttrValue) → slice_get others i ≡ Some a → name ≡ a.0 → value ≡ a.1 → new ≡ put_at name value row →
    put_all (drop i others) row ≡ all → put_all (drop (i + 1) others) new ≡ all
put_more others i a row new all name value is same_name same_value put so_far =
    ap (put_all (drop (i + 1) others)) (put ∙ ap (λ (n : List ℕ). put_at n value row) same_name ∙
    ap (λ (v : AttrValue). put_at a.0 v row) same_value) ∙
    ap (λ (xs : List Attribute). put_all xs row) (sym (drop_at others i a is)) ∙ so_far
