-- The keys of a set, seen as lists of numbers, are elements placed one after another.
use Rattle.std.proofs.Common.{◌≡◌, ℕ, ◌+◌, List, [], ◌∷◌, ◌++◌, map, length, Bool, true, false, if◌then◌else◌, Option}
use Rattle.std.proofs.Common.{Some, None, option_map, Ok, Err, Ordering, Less, Equal, Greater, nat_cmp, refl, sym, ap}
use Rattle.std.proofs.Common.{◌∙◌, subst, arith}
use Rattle.std.specs.Cmp.Lexicographic.{slice_cmp}
use Rattle.std.specs.Ordering.{match_ordering}
use Rattle.std.specs.BTreeSet.{insert_key}
use Rattle.std.specs.List.Sorted.{IsStrictlySortedBy}
use Rattle.std.proofs.lemmas.List.{append-nil}
use Rattle.std.proofs.lemmas.List.Elements.{All-map}
use Rattle.std.proofs.lemmas.Map.Views.{All-after_first}
use Rattle.std.proofs.lemmas.Map.Keys.{sorted_tail}
use Rattle.dbe_values.specs.Sets.{placed, IsIncreasing}
use Rattle.dbe_values.specs.Faults.{or_fault}
use Rattle.dbe_values.specs.declared.fault.ValueFault.TheVariants.{DoubledElement}
use Rattle.dbe_values.proofs.Placing.{increasing_cons}

module _ {K : Type 0} (seen : K → List ℕ) where
  -- keys in order of what they are seen as
  abbrev pub key_cmp : K → K → Ordering
  key_cmp a b = slice_cmp nat_cmp (seen a) (seen b)

  -- one key more, or one that is there already
  abbrev Adds : List K → List K → Option (List (List ℕ)) → Bool → Type 0
  Adds old new put true = put ≡ Some (map seen new)
  Adds old new put false = put ≡ None

  adds_behind : (y : K) (old new : List K) (put : Option (List (List ℕ))) (added : Bool) → Adds old new put added →
      Adds (y ∷ old) (y ∷ new) (option_map (λ zs. seen y ∷ zs) put) added
  adds_behind y old new put true h = rw h
  adds_behind y old new put false h = rw h

  adds_by_order : (o : Ordering) (k y : K) (old new : List K) (put : Option (List (List ℕ))) (added : Bool)
      → (length new ≡ length old + (if added then 1 else 0) → Adds old new put added)
      → length (match_ordering o (k ∷ y ∷ old) (y ∷ old) (y ∷ new)) ≡ length (y ∷ old) + (if added then 1 else 0)
      → Adds (y ∷ old) (match_ordering o (k ∷ y ∷ old) (y ∷ old) (y ∷ new))
      (match_ordering o (Some (seen k ∷ seen y ∷ map seen old)) None (option_map (λ zs. seen y ∷ zs) put)) added
  adds_by_order Less k y old new put true more h = refl
  adds_by_order Less k y old new put false more h = absurd (omega (arith, h))
  adds_by_order Equal k y old new put true more h = absurd (omega (arith, h))
  adds_by_order Equal k y old new put false more h = refl
  adds_by_order Greater k y old new put added more h = adds_behind y old new put added (more (omega (arith, h)))

  pub adds : (k : K) (old : List K) (added : Bool) →
      length (insert_key key_cmp old k) ≡ length old + (if added then 1 else 0) →
      Adds old (insert_key key_cmp old k) (placed (seen k) (map seen old)) added
  adds k [] true h = refl
  adds k [] false h = absurd (omega (arith, h))
  adds k (y ∷ old) added h = adds_by_order (key_cmp k y) k y old (insert_key key_cmp old k)
      (placed (seen k) (map seen old)) added (adds k old added) h

  module _ (k : K) (x : List ℕ) (old new : List K) (added : Bool) (is : seen k ≡ x) (put : new ≡ insert_key key_cmp
      old k) (longer : length new ≡ length old + (if added then 1 else 0)) where
    added_so : Adds old new (placed x (map seen old)) added
    added_so = subst (λ y. Adds old new (placed y (map seen old)) added) is
        (subst (λ (ks : List K). Adds old ks (placed (seen k) (map seen old)) added) (sym put)
        (adds k old added (ap length (sym put) ∙ longer)))

    pub put_new : added ≡ true → or_fault DoubledElement (placed x (map seen old)) ≡ Ok (map seen new)
    put_new e = ap (or_fault DoubledElement) (subst (Adds old new (placed x (map seen old))) e added_so)

    pub put_old : added ≡ false → or_fault DoubledElement (placed x (map seen old)) ≡ Err DoubledElement
    put_old e = ap (or_fault DoubledElement) (subst (Adds old new (placed x (map seen old))) e added_so)

  pub keys_rise : (ks : List K) → IsStrictlySortedBy key_cmp ks → IsIncreasing (map seen ks)
  keys_rise [] h = λ i j lt k. absurd (omega arith)
  keys_rise (k ∷ ks) h =
      increasing_cons (seen k) (map seen ks) (All-map (λ y. slice_cmp nat_cmp (seen k) y ≡ Less) seen ks
      (All-after_first key_cmp k ks h)) (keys_rise ks (sorted_tail key_cmp k ks h))

  -- a list that is made of keys one after another
  pub made_rise : (ks left : List K) (made : List (List ℕ)) → IsStrictlySortedBy key_cmp ks → left ≡ [] →
      made ++ map seen left ≡ map seen ks → IsIncreasing made
  made_rise ks left made h none so_far = subst IsIncreasing (sym so_far ∙ ap (λ y. made ++ map seen y) none ∙
      append-nil made) (keys_rise ks h)
