-- Names that are put into an object one after another.
use Rattle.std.proofs.Common.{◌≡◌, ◌≤◌, ◌+◌, ℕ, List, ◌∷◌, Some, refl, sym, ap, ◌∙◌, length, drop, String, Global}
use Rattle.std.proofs.Common.{string_bytes, string_cmp}
use Rattle.std.specs.List.{slice_get}
use Rattle.std.proofs.lemmas.Option.{slice_get_within, get_or_from_slice_get}
use Rattle.std.proofs.lemmas.List.{drop_more, drop_all}
use Rattle.std.specs.BTreeMap.{insert_entry}
use Rattle.serde_json.specs.Data.{Members, string, put}
use Rattle.serde_json.specs.View.{view, members_view}
use Rattle.serde_json.specs.declared.value.Value.{Value}
use Rattle.serde_json.proofs.Views.{members_view-insert_entry}
use Rattle.dbe_lines.specs.Texts.{with_names}

drop_at : (names : List (List ℕ × List ℕ)) (i : ℕ) (a : List ℕ × List ℕ) → slice_get names i ≡ Some a →
    drop i names ≡ a ∷ drop (i + 1) names
drop_at names i a is = drop_more names i a (slice_get_within names i a is) ∙
    ap (λ x. x ∷ drop (i + 1) names) (get_or_from_slice_get names i a a is)

-- one name more
pub with_names_put : (es es' : List (String Global × Value)) (names : List (List ℕ × List ℕ)) (i : ℕ)
    (placeholder name : List ℕ) (key : String Global) (value : Value) {all : Members}
    → slice_get names i ≡ Some (placeholder, name) → string_bytes key ≡ placeholder → view value ≡ string name →
    es' ≡ insert_entry string_cmp es key value
    → with_names (members_view es) (drop i names) ≡ all → with_names (members_view es') (drop (i + 1) names) ≡ all
with_names_put es es' names i placeholder name key value is is_key is_value put done =
    ap (λ e. with_names (members_view e) (drop (i + 1) names)) put
    ∙ ap (λ m. with_names m (drop (i + 1) names)) (members_view-insert_entry es key value ∙ rw (is_key, is_value) refl)
    ∙ sym (ap (with_names (members_view es)) (drop_at names i (placeholder, name) is)) ∙ done

-- no name more
pub with_names_end : (ms : Members) (names : List (List ℕ × List ℕ)) (i : ℕ) → length names ≤ i →
    with_names ms (drop i names) ≡ ms
with_names_end ms names i le = ap (with_names ms) (drop_all i names le)
