-- What loops have read so far, and what is still to be read.
use Rattle.std.proofs.Common.{◌≡◌, List, [], ◌∷◌, ◌++◌, append_assoc, None, Some, refl, ap, sym, ◌∙◌, String}
use Rattle.std.proofs.Common.{string_bytes, string_cmp, Global, ℕ, map, Bool, true, false, ◌&&◌, nat_lt, nat_le}
use Rattle.std.proofs.Common.{nat_cmp, Less, length, append-nil, subst, if◌then◌else◌}
use Rattle.std.specs.List.{AllByRecursion}
use Rattle.std.specs.List.Sorted.{IsStrictlySortedBy}
use Rattle.std.specs.Map.{keys_of}
use Rattle.std.specs.Option.{option_map_or}
use Rattle.std.specs.Cmp.Lexicographic.{slice_cmp}
use Rattle.dbe_config.specs.Bounds.{AreInOrder}
use Rattle.std.specs.declared.option.Option.{Option}
use Rattle.serde_json.specs.Find.{as_str}
use Rattle.serde_json.specs.View.{view, members_view}
use Rattle.serde_json.specs.declared.value.Value.{Value}
use Rattle.dbe_config.specs.declared.context_pair.ContextPair.{ContextPair}
use Rattle.dbe_config.specs.Spelling.{with_first, text_of}
use Rattle.dbe_config.specs.Shape.{pair_of, pairs_in}

-- what is there, and others behind it
abbrev pub after : {A : Type 0} → List A → Option (List A) → Option (List A)
after first None = None
after first (Some others) = Some (first ++ others)

pub after_more : {A : Type 0} → (first : List A) (a : A) (others : Option (List A)) →
    after (first ++ a ∷ []) others ≡ after first (with_first (Some a) others)
after_more first a None = refl
after_more first a (Some others) = ap Some (append_assoc first _ others)

-- one pair more
pub pairs_step : (first : List ContextPair) (all : Option (List ContextPair)) (es others : List (String Global ×
    Value)) (e : String Global × Value) (p : ContextPair) (found : List ContextPair)
    → es ≡ e ∷ others → pair_of (string_bytes e.0) (text_of 0 1024 (as_str (view e.1))) ≡ Some p →
    found ≡ first ++ p ∷ []
    → after first (pairs_in (members_view es)) ≡ all → after found (pairs_in (members_view others)) ≡ all
pairs_step first all es others e p found is spelled more done =
    let front : pairs_in (members_view es) ≡ with_first (Some p) (pairs_in (members_view others)) =
    rw (is, spelled) refl in
    ap (λ x. after x (pairs_in (members_view others))) more ∙ after_more first p (pairs_in (members_view others)) ∙
    sym (ap (after first) front) ∙ done

-- the keys of pairs, and of a map
abbrev pub pair_keys : List ContextPair → List (List ℕ)
pair_keys pairs = map (λ p. p.key) pairs

abbrev pub entry_keys : List (String Global × Value) → List (List ℕ)
entry_keys es = map (λ e. string_bytes e.0) es

pair_keys-append : (first : List ContextPair) (p : ContextPair) →
    pair_keys (first ++ p ∷ []) ≡ pair_keys first ++ p.key ∷ []
pair_keys-append [] p = refl
pair_keys-append (q ∷ first) p = ap (λ ks. q.key ∷ ks) (pair_keys-append first p)

-- one pair more has the key of one entry less
pub keys_step : (first found : List ContextPair) (es others all : List (String Global × Value)) (e : String Global ×
    Value) (p : ContextPair)
    → es ≡ e ∷ others → p.key ≡ string_bytes e.0 → found ≡ first ++ p ∷ []
    → pair_keys first ++ entry_keys es ≡ entry_keys all → pair_keys found ++ entry_keys others ≡ entry_keys all
keys_step first found es others all e p is same more done =
    ap (λ ps. pair_keys ps ++ entry_keys others) more ∙ ap (λ ks. ks ++ entry_keys others) (pair_keys-append first p)
    ∙ append_assoc (pair_keys first) _ _
    ∙ ap (λ k. pair_keys first ++ k ∷ entry_keys others) same ∙ sym (ap (λ xs. pair_keys first ++ entry_keys xs) is) ∙
    done

pair_key_by : (t : Bool) (key : List ℕ) (q p : ContextPair) → q.key ≡ key → (if t then Some q else None) ≡ Some p →
    p.key ≡ key
pair_key_by true key q p same is = ap (λ o. option_map_or (λ (x : ContextPair). x.key) o key) (sym is) ∙ same
pair_key_by false key q p same is = absurd (cc)

pub pair_key : (key : List ℕ) (o : Option (List ℕ)) (p : ContextPair) → pair_of key o ≡ Some p → p.key ≡ key
pair_key key None p is = absurd (cc)
pair_key key (Some value) p is = pair_key_by (nat_lt 0 (length key) && nat_le (length key) 255) key (record {
  key =
      key;
  value = value;
}) p refl is

above_keys : (k : String Global) (es : List (String Global × Value)) →
    AllByRecursion (λ y. string_cmp k y ≡ Less) (keys_of es) →
    AllByRecursion (λ y. slice_cmp nat_cmp (string_bytes k) y ≡ Less) (entry_keys es)
above_keys k [] h = tt
above_keys k (e ∷ es) h = (h.0, above_keys k es h.1)

pub sorted_keys : (es : List (String Global × Value)) → IsStrictlySortedBy string_cmp (keys_of es) →
    IsStrictlySortedBy (slice_cmp nat_cmp) (entry_keys es)
unfolding IsStrictlySortedBy
sorted_keys [] h = tt
sorted_keys (e ∷ es) h = (above_keys e.0 es h.0, sorted_keys es h.1)

-- all pairs are in the order of the map's keys
pub pairs_in_order : (pairs : List ContextPair) (left all : List (String Global × Value)) → left ≡ [] →
    pair_keys pairs ++ entry_keys left ≡ entry_keys all
    → IsStrictlySortedBy (slice_cmp nat_cmp) (entry_keys all) → AreInOrder pairs
pairs_in_order pairs left all none done order =
    let same : pair_keys pairs ≡ entry_keys all = sym (append-nil (pair_keys pairs)) ∙
    sym (ap (λ es. pair_keys pairs ++ entry_keys es) none) ∙ done in
    subst (λ (ks : List (List ℕ)). IsStrictlySortedBy (slice_cmp nat_cmp) ks) (sym same) order

pub none_in_order : (pairs : List ContextPair) → pairs ≡ [] → AreInOrder pairs
unfolding IsStrictlySortedBy
none_in_order pairs is =
    subst (λ (ps : List ContextPair). IsStrictlySortedBy (slice_cmp nat_cmp) (map (λ p. p.key) ps)) (sym is) tt
