-- Values compared one after another.
use Rattle.std.proofs.Common.{◌≡◌, ◌≢◌, ℕ, suc, Bool, true, false, ◌&&◌, List, [], ◌∷◌, length, refl, sym, ap}
use Rattle.std.specs.Prelude.{map}
use Rattle.std.specs.Str.{bytes_eq}
use Rattle.dbe_values.specs.Val.{same, same_vals, same_entries, same_elements}
use Rattle.dbe_values.specs.View.{view, vals_of, entries_of, entry_view}
use Rattle.dbe_values.specs.declared.value.AttrValue.{AttrValue}

and_false : (a b : Bool) → b ≡ false → a && b ≡ false
and_false true b h = h
and_false false b h = refl

-- lists of different lengths are not the same
pub elements_apart : (xs ys : List (List ℕ)) → length xs ≢ length ys → false ≡ same_elements xs ys
elements_apart [] [] h = absurd (h refl)
elements_apart [] (y ∷ ys) h = refl
elements_apart (x ∷ xs) [] h = refl
elements_apart (x ∷ xs) (y ∷ ys) h =
    sym (and_false (bytes_eq x y) (same_elements xs ys) (sym (elements_apart xs ys (λ e. h (ap suc e)))))

pub vals_apart : (xs ys : List AttrValue) → length xs ≢ length ys →
    false ≡ same_vals (vals_of (map view xs)) (vals_of (map view ys))
vals_apart [] [] h = absurd (h refl)
vals_apart [] (y ∷ ys) h = refl
vals_apart (x ∷ xs) [] h = refl
vals_apart (x ∷ xs) (y ∷ ys) h =
    sym (and_false (same (view x) (view y)) (same_vals (vals_of (map view xs)) (vals_of (map view ys)))
    (sym (vals_apart xs ys (λ e. h (ap suc e)))))

pub entries_apart : (xs ys : List (List ℕ × AttrValue)) → length xs ≢ length ys →
    false ≡ same_entries (entries_of (map entry_view xs)) (entries_of (map entry_view ys))
entries_apart [] [] h = absurd (h refl)
entries_apart [] (y ∷ ys) h = refl
entries_apart (x ∷ xs) [] h = refl
entries_apart (x ∷ xs) (y ∷ ys) h =
    sym (and_false (bytes_eq x.0 y.0 && same (view x.1) (view y.1)) (same_entries (entries_of (map entry_view xs))
    (entries_of (map entry_view ys))) (sym (entries_apart xs ys (λ e. h (ap suc e)))))
