-- What holds of the elements that are read one after another.
use Rattle.std.proofs.Common.{◌≡◌, ℕ, List, [], ◌∷◌, Option, Some, None, Result, Ok, Ordering, Less, Equal, Greater}
use Rattle.std.proofs.Common.{nat_cmp, option_map, refl, ap, subst}
use Rattle.std.specs.Cmp.Lexicographic.{slice_cmp}
use Rattle.std.specs.Ordering.{match_ordering}
use Rattle.std.specs.List.{All}
use Rattle.std.proofs.lemmas.List.Elements.{All-cons, All-head, All-tail}
use Rattle.dbe_values.specs.Sets.{placed}
use Rattle.dbe_values.specs.Faults.{or_fault}
use Rattle.dbe_values.specs.declared.fault.ValueFault.{ValueFault}

some_same : {A : Type 0} (a b : A) → Some a ≡ Some b → a ≡ b
some_same a b h = cc

ok_same : {A : Type 0} (r : Result A ValueFault) (a b : A) → r ≡ Ok a → r ≡ Ok b → a ≡ b
ok_same r a b g h = cc

module _ (P : List ℕ → Type 0) where
  behind : (y : List ℕ) (r : Option (List (List ℕ))) (ys : List (List ℕ)) → P y →
      ((zs : List (List ℕ)) → r ≡ Some zs → All P zs) → option_map (λ zs. y ∷ zs) r ≡ Some ys → All P ys
  behind y None ys p h e = absurd (cc)
  behind y (Some zs) ys p h e = subst (All P) (some_same (y ∷ zs) ys e) (All-cons P y zs p (h zs refl))

  by_order : (o : Ordering) (x y : List ℕ) (xs ys : List (List ℕ)) (r : Option (List (List ℕ))) → P x →
      All P (y ∷ xs) → ((zs : List (List ℕ)) → r ≡ Some zs → All P zs)
      → match_ordering o (Some (x ∷ y ∷ xs)) None (option_map (λ zs. y ∷ zs) r) ≡ Some ys → All P ys
  by_order Less x y xs ys r p a h e = subst (All P) (some_same (x ∷ y ∷ xs) ys e) (All-cons P x (y ∷ xs) p a)
  by_order Equal x y xs ys r p a h e = absurd (cc)
  by_order Greater x y xs ys r p a h e = behind y r ys (All-head P y xs a) h e

  placed_each : (x : List ℕ) (xs ys : List (List ℕ)) → placed x xs ≡ Some ys → P x → All P xs → All P ys
  placed_each x [] ys e p a = subst (All P) (some_same (x ∷ []) ys e) (All-cons P x [] p a)
  placed_each x (y ∷ xs) ys e p a = by_order (slice_cmp nat_cmp x y) x y xs ys (placed x xs) p a
      (λ zs h. placed_each x xs zs h p (All-tail P y xs a)) e

  placed_or : (fault : ValueFault) (r : Option (List (List ℕ))) (ys : List (List ℕ)) → or_fault fault r ≡ Ok ys →
      r ≡ Some ys
  placed_or fault None ys e = absurd (cc)
  placed_or fault (Some zs) ys e = ap Some (ok_same (or_fault fault (Some zs)) zs ys refl e)

  pub put_each : (fault : ValueFault) (x : List ℕ) (xs ys : List (List ℕ)) → or_fault fault (placed x xs) ≡ Ok ys →
      P x → All P xs → All P ys
  put_each fault x xs ys e p a = placed_each x xs ys (placed_or fault (placed x xs) ys e) p a
