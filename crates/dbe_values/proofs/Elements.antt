-- Reading step by step: what a fault of a step says of the whole.
use Rattle.std.proofs.Common.{◌≡◌, ℕ, ◌+◌, ◌<◌, List, length, drop, get_or, Result, Ok, sym, ap, ◌∙◌, subst}
use Rattle.std.proofs.lemmas.List.{drop_more}
use Rattle.serde_json.specs.Data.{Data, item}
use Rattle.serde_json.specs.View.{view as data_of, items_view}
use Rattle.serde_json.specs.declared.value.Value.{Value}
use Rattle.dbe_values.specs.Faults.{◌>>=◌, or_fault, Fails}
use Rattle.dbe_values.specs.Sets.{placed}
use Rattle.dbe_values.specs.Reading.{elements_after}
use Rattle.dbe_values.specs.declared.fault.ValueFault.{ValueFault}
use Rattle.dbe_values.specs.declared.fault.ValueFault.TheVariants.{Shape, BadNumber, BadBase64, EmptySet}
use Rattle.dbe_values.specs.declared.fault.ValueFault.TheVariants.{DoubledElement, TooDeep, BadName, Memory}

-- a fault of the first step is one of the whole
pub Fails-first : {A B : Type 0} (e : ValueFault) (r : Result A ValueFault) (f : A → Result B ValueFault) →
    Fails e r → Fails e (r >>= f)
Fails-first Memory r f h = tt
Fails-first Shape r f h = rw h
Fails-first BadNumber r f h = rw h
Fails-first BadBase64 r f h = rw h
Fails-first EmptySet r f h = rw h
Fails-first DoubledElement r f h = rw h
Fails-first TooDeep r f h = rw h
Fails-first BadName r f h = rw h

pub Fails-same : {A : Type 0} (e : ValueFault) (r s : Result A ValueFault) → r ≡ s → Fails e r → Fails e s
Fails-same {A} e r s q h = subst (λ (x : Result A ValueFault). Fails e x) q h

module _ (element : Data → Result (List ℕ) ValueFault) (others : List (List ℕ)) (items : List Value) (i : ℕ)
    (v : Value) (lt : i < length items) (is : v ≡ get_or items i v) (all : Result (List (List ℕ)) ValueFault)
    (so_far : elements_after element others (items_view (drop i items)) ≡ all) where
  next : items_view (drop i items) ≡ item (data_of v) (items_view (drop (i + 1) items))
  next = ap items_view (drop_more items i v lt) ∙ rw (← is)

  pub element_fails : (e : ValueFault) → Fails e (element (data_of v)) → Fails e all
  element_fails e h =
      Fails-same e _ _ (sym (ap (elements_after element others) next) ∙
      so_far) (Fails-first e (element (data_of v)) (λ x. or_fault DoubledElement (placed x others) >>=
      λ more. elements_after element more (items_view (drop (i + 1) items))) h)

  pub element_doubled : (x : List ℕ) (e : ValueFault) → element (data_of v) ≡ Ok x →
      Fails e (or_fault DoubledElement (placed x others)) → Fails e all
  element_doubled x e read h =
      let whole : elements_after element others (item (data_of v) (items_view (drop (i + 1) items))) ≡
      (or_fault DoubledElement (placed x others) >>=
      λ more. elements_after element more (items_view (drop (i + 1) items))) = rw read in
      Fails-same e _ _ (sym whole ∙ sym (ap (elements_after element others) next) ∙
      so_far) (Fails-first e (or_fault DoubledElement (placed x others)) (λ more. elements_after element more
      (items_view (drop (i + 1) items))) h)

  pub element_more : (x : List ℕ) (more : List (List ℕ)) → element (data_of v) ≡ Ok x →
      or_fault DoubledElement (placed x others) ≡ Ok more →
      elements_after element more (items_view (drop (i + 1) items)) ≡ all
  element_more x more read put =
      let whole : elements_after element others (item (data_of v) (items_view (drop (i + 1) items))) ≡ elements_after
      element more (items_view (drop (i + 1) items)) = rw (read, put) in
      sym whole ∙ sym (ap (elements_after element others) next) ∙ so_far
