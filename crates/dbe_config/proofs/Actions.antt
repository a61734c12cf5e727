-- The entries of a map from texts to actions.
use Rattle.std.proofs.Common.{◌≡◌, ℕ, Bool, List, [], ◌∷◌, Some, refl, ap, sym, ◌∙◌, String, string_bytes, string_cmp}
use Rattle.std.proofs.Common.{Global, Ordering, Less, Equal, Greater, nat_cmp, cond}
use Rattle.std.specs.List.{AllZip}
use Rattle.std.specs.Map.{lookup}
use Rattle.std.proofs.lemmas.Map.Text.{is_eq-slice_cmp}
use Rattle.std.specs.declared.option.Option.{Option}
use Rattle.std.specs.Cmp.Lexicographic.{slice_cmp}
use Rattle.std.specs.Ordering.{match_ordering}
use Rattle.std.specs.BTreeMap.{insert_entry, is_at}
use Rattle.dbe_config.specs.declared.action.Action.{Action}
use Rattle.dbe_config.specs.Entries.{entries_of}
use Rattle.dbe_config.specs.Actions.{action_at}
use Rattle.dbe_config.specs.Shape.{listed_action, actions_in}
use Rattle.serde_json.specs.Find.{as_str}
use Rattle.serde_json.specs.View.{view, members_view}
use Rattle.serde_json.specs.declared.value.Value.{Value}

entries_of-match_ordering : (o : Ordering) (a b c : List (String Global × Action)) →
    entries_of (match_ordering o a b c) ≡ match_ordering o (entries_of a) (entries_of b) (entries_of c)
entries_of-match_ordering Less a b c = refl
entries_of-match_ordering Equal a b c = refl
entries_of-match_ordering Greater a b c = refl

-- what is put into the map is put among its entries
pub entries_of-insert_entry : (es : List (String Global × Action)) (k : String Global) (a : Action)
    → entries_of (insert_entry string_cmp es k a) ≡ insert_entry (slice_cmp nat_cmp) (entries_of es) (string_bytes k) a
entries_of-insert_entry [] k a = refl
entries_of-insert_entry (e ∷ es) k a = entries_of-match_ordering (string_cmp k e.0) _ _ _ ∙
    rw (entries_of-insert_entry es k a) refl

-- one listed name more
pub actions_step : (found found' : List (String Global × Action)) (all : Option (List (List ℕ × Action)))
    (es others : List (String Global × Value)) (e : String Global × Value) (k : String Global) (a : Action)
    → es ≡ e ∷ others → listed_action (string_bytes e.0) (as_str (view e.1)) ≡ Some a →
    string_bytes k ≡ string_bytes e.0 → found' ≡ insert_entry string_cmp found k a
    → actions_in (entries_of found) (members_view es) ≡ all → actions_in (entries_of found') (members_view others) ≡ all
actions_step found found' all es others e k a is listed same put done =
    let front : actions_in (entries_of found) (members_view es) ≡ actions_in (insert_entry (slice_cmp nat_cmp)
    (entries_of found) (string_bytes e.0) a) (members_view others) = rw (is, listed) refl in
    ap (λ f. actions_in f (members_view others)) (ap entries_of put ∙ entries_of-insert_entry found k a ∙
    ap (λ b. insert_entry (slice_cmp nat_cmp) (entries_of found) b a) same) ∙ sym front ∙ done

same_choice : (t u : Bool) (a : Action) (x y : Option Action) → t ≡ u → x ≡ y → cond t (Some a) x ≡ cond u (Some a) y
same_choice t u a x y e h = (cc)

-- a name has the action that the map has at it
pub action_at_lookup : (name : List ℕ) (es : List (String Global × Action)) →
    lookup (is_at (λ k. slice_cmp nat_cmp name (string_bytes k))) es ≡ action_at name (entries_of es)
action_at_lookup name [] = refl
action_at_lookup name (e ∷ es) = same_choice _ _ _ _ _ (is_eq-slice_cmp name (string_bytes e.0))
    (action_at_lookup name es)

same_entry : (s u : List ℕ) (a b : Action) (others more : List (List ℕ × Action)) → u ≡ s → b ≡ a → more ≡ others →
    ((u, b) ∷ more) ≡ ((s, a) ∷ others)
same_entry s u a b others more names acts rest = rw (names, acts, rest) refl

-- the entries of a clone are those of its source
pub cloned_entries : (es fs : List (String Global × Action)) → AllZip (λ p q. (string_bytes q.0 ≡ string_bytes p.0) ×
    (q.1 ≡ p.1)) es fs → entries_of fs ≡ entries_of es
cloned_entries [] [] h = refl
cloned_entries [] (f ∷ fs) h = absurd h
cloned_entries (e ∷ es) [] h = absurd h
cloned_entries (e ∷ es) (f ∷ fs) h = same_entry (string_bytes e.0) (string_bytes f.0) e.1 f.1 (entries_of es)
    (entries_of fs) h.0.0 h.0.1 (cloned_entries es fs h.1)
