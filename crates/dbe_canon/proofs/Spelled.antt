-- What the bytes of a value with parts are, and how many.
use Rattle.std.proofs.Common.{◌≡◌, ℕ, ◌+◌, ◌-◌, ◌^◌, min, List, ◌++◌, length, Result, Ok, Err, sym, ap, ◌∙◌}
use Rattle.std.specs.Prelude.{OnOk}
use Rattle.dbe_values.specs.View.{view}
use Rattle.dbe_values.specs.declared.value.AttrValue.{AttrValue, Ss, Ns, Bs, L, M}
use Rattle.dbe_values.proofs.Views.{view-L, view-M}
use Rattle.dbe_canon.specs.Canon.{count_bytes, long_strings, canon_of}
use Rattle.dbe_canon.proofs.Views.{view-Ss, view-Ns, view-Bs}
use Rattle.dbe_canon.proofs.Appending.{values_spelled, entries_spelled, vals_count_is, entries_count_is}
use Rattle.dbe_canon.proofs.Lengths.{counted_length}

-- the bytes behind the count
pub record IsCounted (value : AttrValue) (n : ℕ) (bytes : List ℕ) : Type 0 where
  pub spelled : canon_of (view value) ≡ count_bytes n ++ bytes

pub counted_Ss : (value : AttrValue) (s xs : List (List ℕ)) → value ≡ Ss s → xs ≡ s →
    IsCounted value (length xs) (long_strings xs)
unfolding canon_of
counted_Ss value s xs e f = record {
  spelled = ap (λ x. canon_of (view x)) e ∙ ap canon_of (view-Ss s) ∙
      ap (λ (y : List (List ℕ)). count_bytes (length y) ++ long_strings y) (sym f);
}

pub counted_Ns : (value : AttrValue) (s xs : List (List ℕ)) → value ≡ Ns s → xs ≡ s →
    IsCounted value (length xs) (long_strings xs)
unfolding canon_of
counted_Ns value s xs e f = record {
  spelled = ap (λ x. canon_of (view x)) e ∙ ap canon_of (view-Ns s) ∙
      ap (λ (y : List (List ℕ)). count_bytes (length y) ++ long_strings y) (sym f);
}

pub counted_Bs : (value : AttrValue) (s xs : List (List ℕ)) → value ≡ Bs s → xs ≡ s →
    IsCounted value (length xs) (long_strings xs)
unfolding canon_of
counted_Bs value s xs e f = record {
  spelled = ap (λ x. canon_of (view x)) e ∙ ap canon_of (view-Bs s) ∙
      ap (λ (y : List (List ℕ)). count_bytes (length y) ++ long_strings y) (sym f);
}

pub counted_L : (value : AttrValue) (s xs : List AttrValue) → value ≡ L s → xs ≡ s →
    IsCounted value (length xs) (values_spelled xs)
unfolding canon_of
counted_L value s xs e f = record {
  spelled = ap (λ x. canon_of (view x)) e ∙ ap canon_of (view-L s) ∙
      ap (λ n. count_bytes n ++ values_spelled s) (vals_count_is s) ∙
      ap (λ (y : List AttrValue). count_bytes (length y) ++ values_spelled y) (sym f);
}

pub counted_M : (value : AttrValue) (s xs : List (List ℕ × AttrValue)) → value ≡ M s → xs ≡ s →
    IsCounted value (length xs) (entries_spelled xs)
unfolding canon_of
counted_M value s xs e f = record {
  spelled = ap (λ x. canon_of (view x)) e ∙ ap canon_of (view-M s) ∙
      ap (λ n. count_bytes n ++ entries_spelled s) (entries_count_is s) ∙
      ap (λ (y : List (List ℕ × AttrValue)). count_bytes (length y) ++ entries_spelled y) (sym f);
}

-- the length of such bytes
pub length_counted : (value : AttrValue) (n : ℕ) (bytes : List ℕ) (part total : ℕ) → IsCounted value n bytes →
    part ≡ min (length bytes) (2 ^ 64 - 1) → total ≡ min (part + 8) (2 ^ 64 - 1) →
    total ≡ min (length (canon_of (view value))) (2 ^ 64 - 1)
length_counted value n bytes part total h e f = f ∙ counted_length n part bytes e ∙
    ap (λ (y : List ℕ). min (length y) (2 ^ 64 - 1)) (sym h.spelled)

-- such bytes behind others
pub put_counted : (value : AttrValue) (n : ℕ) (bytes old new : List ℕ) → IsCounted value n bytes →
    new ≡ old ++ (count_bytes n ++ bytes) → new ≡ old ++ canon_of (view value)
put_counted value n bytes old new h e = e ∙ ap (λ (y : List ℕ). old ++ y) (sym h.spelled)

pub put_counted_ok : {A E : Type 0} (r : Result A E) (value : AttrValue) (n : ℕ) (bytes old new : List ℕ) →
    IsCounted value n bytes → OnOk r (new ≡ old ++ (count_bytes n ++ bytes)) →
    OnOk r (new ≡ old ++ canon_of (view value))
put_counted_ok (Ok x) value n bytes old new h e = put_counted value n bytes old new h e
put_counted_ok (Err x) value n bytes old new h e = tt
