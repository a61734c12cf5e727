-- The item of a row, from the values that its fields open to.
use Rattle.std.proofs.Common.{◌≡◌, ◌⊎◌, inl, inr, ℕ, ◌+◌, ◌<◌, ◌≤◌, Bool, true, false, cond, List, [], ◌∷◌, ◌++◌}
use Rattle.std.proofs.Common.{length}
use Rattle.std.proofs.Common.{map, take, get_or, Some, refl, sym, ap, ◌∙◌, subst, append-nil, arith}
use Rattle.std.specs.Prelude.{bytes_eq, not, slice_get}
use Rattle.std.specs.List.{All, AllZip, list_any}
use Rattle.std.proofs.lemmas.List.{map-append, length-map, get_or-map}
use Rattle.std.proofs.lemmas.List.Elements.{filter-append, All-filter, All-map, All-head, All-tail}
use Rattle.std.proofs.lemmas.List.Folds.{list_any_none}
use Rattle.std.proofs.lemmas.List.Sums.{fails_before_first, passes_at_first}
use Rattle.std.proofs.lemmas.Option.{slice_get-get_or}
use Rattle.std.proofs.lemmas.Slice.Eq.{bytes_eq-Decides}
use Rattle.dbe_values.specs.Attributes.{put_at, value_at}
use Rattle.dbe_values.specs.Lawful.{IsLawful, IsLawfulItem, names_of}
use Rattle.dbe_values.specs.View.{view}
use Rattle.dbe_values.specs.declared.value.AttrValue.{AttrValue, B}
use Rattle.dbe_values.proofs.Lookups.{there_value}
use Rattle.dbe_config.specs.Setting.{Setting}
use Rattle.dbe_config.specs.Actions.{is_reserved}
use Rattle.dbe_item.specs.Names.{marked, number_of, strip}
use Rattle.dbe_frame.specs.Header.{HeaderParts}
use Rattle.dbe_frame.specs.Signed.{signed_names}
use Rattle.dbe_item.specs.Opens.{AttributeOpens, ValueOpens, HasHeader, FitsLegend, OpensSealed, AreSealedCounts}
use Rattle.dbe_item.specs.Opens.{opened_names}
use Rattle.dbe_item.specs.Opening.{AreFields, IsSignedWith, opened_value, opened_attribute, opened_attributes}
use Rattle.dbe_item.proofs.MarkedNames.{marked_count}
use Rattle.dbe_item.proofs.Ends.{Attribute, IsAbove, put_end, above, one_more}

abbrev not_reserved : Attribute → Bool
not_reserved a = not (is_reserved a.0)

-- ---- the loop

module _ (names : List (List ℕ)) (values : List AttrValue) (row : List Attribute) (lawful : IsLawfulItem row) (i : ℕ)
    (a : Attribute) (is : slice_get row i ≡ Some a) where
  step : Attribute → Attribute
  step = opened_attribute names values

  more : opened_attributes names values (take (i + 1) row) ≡ opened_attributes names values (take i row) ++
      map (opened_attribute names values) (cond (not (is_reserved a.0)) (a ∷ []) [])
  more = ap (opened_attributes names values) (one_more row lawful i a is) ∙
      ap (map (opened_attribute names values)) (filter-append not_reserved (take i row) (a ∷ [])) ∙
      map-append (opened_attribute names values) (strip (take i row)) (cond (not (is_reserved a.0)) (a ∷ []) [])

  pub kept_out : (item : List Attribute) → item ≡ opened_attributes names values (take i row) →
      is_reserved a.0 ≡ true → item ≡ opened_attributes names values (take (i + 1) row)
  kept_out item so_far r =
      so_far ∙ sym (append-nil (opened_attributes names values (take i row))) ∙
      ap (λ b. opened_attributes names values (take i row) ++ map (opened_attribute names values) (cond (not b) (a ∷ [])
      [])) (sym r) ∙ sym more

  high : All (IsAbove a.0) (opened_attributes names values (take i row))
  high = All-map (IsAbove a.0) (opened_attribute names values) (strip (take i row)) (All-filter not_reserved
      (IsAbove a.0) (take i row) (above row lawful i a is))

  pub put_in : (item new : List Attribute) (name : List ℕ) (value : AttrValue) →
      item ≡ opened_attributes names values (take i row) → is_reserved a.0 ≡ false → name ≡ a.0 →
      value ≡ opened_value names values a.0 a.1 → new ≡ put_at name value item →
      new ≡ opened_attributes names values (take (i + 1) row)
  put_in item new name value so_far r same_name same_value put =
      let front = opened_attributes names values (take i row) in
      put ∙ ap (λ (n : List ℕ). put_at n value item) same_name ∙ ap (λ (v : AttrValue). put_at a.0 v item) same_value ∙
      ap (put_at a.0 (opened_value names values a.0 a.1)) so_far ∙
      put_end a.0 (opened_value names values a.0 a.1) front high ∙
      ap (λ b. front ++ map (opened_attribute names values) (cond (not b) (a ∷ []) [])) (sym r) ∙ sym more

-- ---- what the item is

numbered : (name : List ℕ) (names : List (List ℕ)) → list_any (bytes_eq name) names ≡ true →
    number_of name names < length names
numbered name names any = elim side [
  | inl lt ↦ lt
  | inr ge ↦
      let none : list_any (bytes_eq name) names ≡ false = list_any_none (bytes_eq name) names (λ k d lt.
      fails_before_first (bytes_eq name) names k d (omega (arith, lt, ge))) in
      let wrong : true ≡ false = sym any ∙ none in absurd cc
]
  where
    side : (number_of name names < length names) ⊎ (length names ≤ number_of name names)
    side = grind arith

at_number : (name : List ℕ) (names : List (List ℕ)) → list_any (bytes_eq name) names ≡ true →
    slice_get names (number_of name names) ≡ Some name
at_number name names any =
    let lt = numbered name names any in
    let same : name ≡ get_or names (number_of name names) [] = (bytes_eq-Decides name (get_or names
    (number_of name names) [])).0 (passes_at_first (bytes_eq name) names [] lt) in
    slice_get-get_or names (number_of name names) [] lt ∙ ap (λ (n : List ℕ). Some n) (sym same)

-- a row's attribute is found by its name
value_here : (row : List Attribute) → IsLawfulItem row → (k : ℕ) (d : Attribute) → k < length row →
    value_at (get_or row k d).0 row ≡ Some (get_or row k d).1
value_here row lawful k d lt =
    let long : k < length (names_of row) = omega (arith, length-map row (λ (x : Attribute). x.0), lt) in
    there_value (get_or row k d).0 row k d lawful.increasing long (get_or-map (λ (x : Attribute). x.0) row k d [] lt)

same_value : (a b : AttrValue) → Some a ≡ Some b → a ≡ b
same_value a b e = cc

module _ (c : Setting) (row : List Attribute) (root : List ℕ) (names : List (List ℕ)) (values : List AttrValue)
    (lawful : IsLawfulItem row) (are : AreFields c row root names values) where
  value_opens : (name : List ℕ) (stored : AttrValue) (any : Bool) → value_at name row ≡ Some stored →
      list_any (bytes_eq name) names ≡ any →
      ValueOpens any c root (number_of name names) name stored (cond any (get_or values (number_of name names) stored)
      stored)
  value_opens name stored false at e = refl
  value_opens name stored true at e =
      let lt : number_of name names < length values = omega (arith, numbered name names e, are.count) in
      let opens = are.each (number_of name names) name (get_or values (number_of name names) stored)
      (at_number name names e) (slice_get-get_or values (number_of name names) stored lt) in
      (opens.0, same_value stored (B opens.0) (sym at ∙ opens.1), opens.2)

  opens_at : All (λ a. AttributeOpens c root names a (opened_attribute names values a)) row
  opens_at k d lt = (
    refl,
    value_opens (get_or row k d).0 (get_or row k d).1 (list_any (bytes_eq (get_or row k d).0)
        names) (value_here row lawful k d lt) refl,
  )

  zip_opened : (xs : List Attribute) → All (λ a. AttributeOpens c root names a (opened_attribute names values a)) xs →
      AllZip (AttributeOpens c root names) xs (map (opened_attribute names values) xs)
  zip_opened [] h = tt
  zip_opened (x ∷ xs) h = (
    All-head (λ a. AttributeOpens c root names a (opened_attribute names values a)) x xs h,
    zip_opened xs (All-tail (λ a. AttributeOpens c root names a (opened_attribute names values a)) x xs h),
  )

  pub attributes_open : AllZip (AttributeOpens c root names) (strip row) (opened_attributes names values row)
  attributes_open = zip_opened (strip row) (All-filter not_reserved
      (λ a. AttributeOpens c root names a (opened_attribute names values a)) row opens_at)

  -- the opened values are lawful
  pub values_lawful : All (λ v. IsLawful 32 (view v)) values
  values_lawful k d lt =
      let within : k < length names = omega (arith, lt, are.count) in
      let opens = are.each k (get_or names k []) (get_or values k d) (slice_get-get_or names k [] within)
      (slice_get-get_or values k d lt) in
      opens.2.lawful

module _ (names : List (List ℕ)) (values : List AttrValue) (count : length values ≡ length names)
    (lawful : All (λ v. IsLawful 32 (view v)) values) where
  pub opened_lawful : (name : List ℕ) (stored : AttrValue) → IsLawful 32 (view stored) →
      IsLawful 32 (view (opened_value names values name stored))
  opened_lawful name stored h = by_case (list_any (bytes_eq name) names) refl
    where
      by_case : (any : Bool) → list_any (bytes_eq name) names ≡ any → IsLawful 32 (view (cond any (get_or values
          (number_of name names) stored) stored))
      by_case false e = h
      by_case true e = lawful (number_of name names) stored (omega (arith, numbered name names e, count))

-- ---- the whole row

module _ (c : Setting) (row : List Attribute) (h : HeaderParts) (place : ℕ) (root : List ℕ) (names : List (List ℕ))
    (s : IsSignedWith c row h place root) (are : names ≡ opened_names c row h) where
  pub same_opened : opened_names c row s.by.header ≡ names
  same_opened = ap (opened_names c row) s.header_found ∙ sym are

  pub opens_sealed : (values : List AttrValue) (item : List Attribute) → IsLawfulItem row →
      AreFields c row root names values → item ≡ opened_attributes names values row → OpensSealed c row item place
  opens_sealed values item lawful fields is = record {
    by = s.by;
    signed = s.signed;
    place_found = s.place_found;
    attributes = subst (λ (r : List ℕ). AllZip (AttributeOpens c r (opened_names c row s.by.header)) (strip row) item)
        (sym s.root_found) (subst (λ (ns : List (List ℕ)). AllZip (AttributeOpens c root ns) (strip row) item)
        (sym same_opened) (subst (λ (xs : List Attribute). AllZip (AttributeOpens c root names) (strip row) xs) (sym is)
        (attributes_open c row root names values lawful fields)));
  }

pub sealed_counts : (c : Setting) (row : List Attribute) (h : HeaderParts) (names : List (List ℕ)) → HasHeader row h →
    FitsLegend c row h → names ≡ opened_names c row h → AreSealedCounts row (length names) (length h.legend)
sealed_counts c row h names has fits are = record {
  header = h;
  has = has;
  encrypted_count = ap length are ∙ marked_count (signed_names c row) h.legend fits;
  signed_count = refl;
}

-- the names that were found to be marked
pub found_names : (c : Setting) (row : List Attribute) (h : HeaderParts) (seen found : List (List ℕ))
    (legend : List ℕ) →
    seen ≡ signed_names c row → legend ≡ h.legend → found ≡ marked seen legend → found ≡ opened_names c row h
found_names c row h seen found legend are same is =
    is ∙ ap (λ (ns : List (List ℕ)). marked ns legend) are ∙ ap (marked (signed_names c row)) same
