-- The rings that a walk has seen.
use Rattle.std.proofs.Common.{◌≡◌, ◌<◌, ◌+◌, ◌∙◌, ℕ, Bool, true, false, not, List, [], ◌∷◌, ◌||◌, ◌&&◌, refl, ap, sym}
use Rattle.std.proofs.Common.{Some, None, length, drop, get_or, cond, Ordering, Less, Equal, Greater, nat_cmp}
use Rattle.std.specs.Borrow.{Bor}
use Rattle.std.specs.List.{list_any}
use Rattle.std.specs.Option.{option_map, option_cmp}
use Rattle.std.specs.Ordering.{ordering_then, is_eq}
use Rattle.std.specs.Cmp.Lexicographic.{slice_cmp}
use Rattle.std.specs.BTreeMap.{is_at}
use Rattle.std.specs.BTreeSet.{BTreeSet, contains, Updates}
use Rattle.std.specs.declared.option.Option.{Option}
use Rattle.std.proofs.lemmas.List.{drop_more}
use Rattle.std.proofs.lemmas.Option.{some_pair_parts}
use Rattle.std.proofs.lemmas.Map.Text.{is_eq-slice_cmp}
use Rattle.dbe_config.specs.declared.recipient.Recipient.{Recipient}
use Rattle.dbe_config.specs.declared.recipient.Recipient.TheVariants as recipient
use Rattle.dbe_config.specs.Rules.{ring_name, is_same_ring, has_ring_twice}

-- the names of rings in their order, as the set compares them
abbrev pub ring_cmp : Option (Bor (List ℕ) × Bor (List ℕ)) → Option (Bor (List ℕ) × Bor (List ℕ)) → Ordering
ring_cmp = option_cmp (λ x y. ordering_then (slice_cmp nat_cmp x.0.now y.0.now) (slice_cmp nat_cmp x.1.now y.1.now))

-- a name that is lent from nowhere
abbrev pub key_of : Recipient → Option (Bor (List ℕ) × Bor (List ℕ))
key_of (recipient.Raw namespace name key) = Some (
  record { ref_ptr = (0, 0); now = namespace },
  record { ref_ptr = (0, 0); now = name },
)
key_of (recipient.Branch branch) = None

-- whether a walk has seen a ring
abbrev pub is_seen : BTreeSet (Option (Bor (List ℕ) × Bor (List ℕ))) → Recipient → Bool
is_seen seen r = contains ring_cmp seen (key_of r)

is_eq-then : (o p : Ordering) → is_eq (ordering_then o p) ≡ (is_eq o && is_eq p)
is_eq-then Less p = refl
is_eq-then Equal p = refl
is_eq-then Greater p = refl

-- names are equal where the rings are the same
pub same_names : (k : Option (Bor (List ℕ) × Bor (List ℕ))) (r s : Recipient) →
    option_map (λ n. (n.0.now, n.1.now)) k ≡ ring_name r → is_at (ring_cmp k) (key_of s) ≡ is_same_ring r s
same_names None (recipient.Raw namespace name key) s is = absurd (cc)
same_names None (recipient.Branch branch) (recipient.Raw namespace name key) is = refl
same_names None (recipient.Branch branch) (recipient.Branch branch') is = refl
same_names (Some k) (recipient.Branch branch) s is = absurd (cc)
same_names (Some k) (recipient.Raw namespace name key) (recipient.Branch branch) is = refl
same_names (Some k) (recipient.Raw namespace name key) (recipient.Raw namespace' name' key') is =
    let parts = some_pair_parts k.0.now namespace k.1.now name is in
    is_eq-then (slice_cmp nat_cmp k.0.now namespace') (slice_cmp nat_cmp k.1.now name') ∙
    rw (parts.0, parts.1, is_eq-slice_cmp namespace namespace', is_eq-slice_cmp name name') refl

or_swap : (a b c d : Bool) → ((a || b) || (c || d)) ≡ ((a || c) || (b || d))
or_swap true b c d = refl
or_swap false true true d = refl
or_swap false true false d = refl
or_swap false false true d = refl
or_swap false false false d = refl

-- a test that holds of one ring more
any_more : (p q : Recipient → Bool) (r : Recipient) → ((s : Recipient) → q s ≡ (is_same_ring r s || p s)) →
    (rings : List Recipient) → list_any q rings ≡ (list_any (is_same_ring r) rings || list_any p rings)
any_more p q r more [] = refl
any_more p q r more (s ∷ rings) =
    rw (more s, any_more p q r more rings) (or_swap (is_same_ring r s) (p s) (list_any (is_same_ring r) rings)
    (list_any p rings))

or_turn : (a b t : Bool) → ((a || b) || t) ≡ (b || (a || t))
or_turn true true t = refl
or_turn true false t = refl
or_turn false true t = refl
or_turn false false t = refl

front : (rings : List Recipient) (i : ℕ) (r : Recipient) → i < length rings → r ≡ get_or rings i r →
    drop i rings ≡ r ∷ drop (i + 1) rings
front rings i r lt is = drop_more rings i r lt ∙ ap (λ y. y ∷ drop (i + 1) rings) (sym is)

-- one ring more that is new
pub ring_step : (rings : List Recipient) (i : ℕ) (r : Recipient) (p q : Recipient → Bool) (all : Bool)
    → i < length rings → r ≡ get_or rings i r → p r ≡ false → ((s : Recipient) → q s ≡ (is_same_ring r s || p s))
    → (list_any p (drop i rings) || has_ring_twice (drop i rings)) ≡ all
    → (list_any q (drop (i + 1) rings) || has_ring_twice (drop (i + 1) rings)) ≡ all
ring_step rings i r p q all lt is fresh more done =
    let others = drop (i + 1) rings in
    let known : (list_any p (drop i rings) || has_ring_twice (drop i rings)) ≡ (list_any p (r ∷ others) ||
    has_ring_twice (r ∷ others)) = ap (λ (rs : List Recipient). list_any p rs || has_ring_twice rs)
    (front rings i r lt is) in
    let opened : (list_any p (r ∷ others) || has_ring_twice (r ∷ others)) ≡
    (list_any p others || (list_any (is_same_ring r) others || has_ring_twice others)) = rw fresh refl in
    ap (λ b. b || has_ring_twice others) (any_more p q r more others) ∙
    or_turn (list_any (is_same_ring r) others) (list_any p others) (has_ring_twice others)
    ∙ sym opened ∙ sym known ∙ done

-- a ring that was seen before
pub ring_found : (rings : List Recipient) (i : ℕ) (r : Recipient) (p : Recipient → Bool) (all : Bool)
    → i < length rings → r ≡ get_or rings i r → p r ≡ true
    → (list_any p (drop i rings) || has_ring_twice (drop i rings)) ≡ all → true ≡ all
ring_found rings i r p all lt is seen done =
    let others = drop (i + 1) rings in
    let known : (list_any p (drop i rings) || has_ring_twice (drop i rings)) ≡ (list_any p (r ∷ others) ||
    has_ring_twice (r ∷ others)) = ap (λ (rs : List Recipient). list_any p rs || has_ring_twice rs)
    (front rings i r lt is) in
    let opened : (list_any p (r ∷ others) || has_ring_twice (r ∷ others)) ≡ true = rw seen refl in
    sym opened ∙ sym known ∙ done

-- nothing is seen at the start
pub none_seen : (p : Recipient → Bool) → ((s : Recipient) → p s ≡ false) → (rings : List Recipient) →
    list_any p rings ≡ false
none_seen p none [] = refl
none_seen p none (s ∷ rings) = rw (none s, none_seen p none rings) refl

cond_true : (t b : Bool) → cond t true b ≡ (t || b)
cond_true true b = refl
cond_true false b = refl

-- what a set that got one name more has seen
pub seen_more : (seen seen' : BTreeSet (Option (Bor (List ℕ) × Bor (List ℕ)))) (k : Option (Bor (List ℕ) ×
    Bor (List ℕ))) (r : Recipient)
    → Updates ring_cmp seen seen' k true → option_map (λ n. (n.0.now, n.1.now)) k ≡ ring_name r
    → (s : Recipient) → is_seen seen' s ≡ (is_same_ring r s || is_seen seen s)
seen_more seen seen' k r updates is s = updates.0 (key_of s) ∙
    cond_true (is_at (ring_cmp k) (key_of s)) (is_seen seen s) ∙ ap (λ t. t || is_seen seen s) (same_names k r s is)

list_any_same : {K : Type 0} (f g : K → Bool) → ((x : K) → f x ≡ g x) → (xs : List K) → list_any f xs ≡ list_any g xs
list_any_same f g same [] = refl
list_any_same f g same (x ∷ xs) = rw (same x, list_any_same f g same xs) refl

-- a name finds what the ring's own finds
finds_same : (k : Option (Bor (List ℕ) × Bor (List ℕ))) (r : Recipient) →
    option_map (λ n. (n.0.now, n.1.now)) k ≡ ring_name r → (x : Option (Bor (List ℕ) × Bor (List ℕ))) →
    is_at (ring_cmp k) x ≡ is_at (ring_cmp (key_of r)) x
finds_same None (recipient.Raw namespace name key) is x = absurd (cc)
finds_same None (recipient.Branch branch) is x = refl
finds_same (Some k) (recipient.Branch branch) is x = absurd (cc)
finds_same (Some k) (recipient.Raw namespace name key) is None = refl
finds_same (Some k) (recipient.Raw namespace name key) is (Some x) =
    let parts = some_pair_parts k.0.now namespace k.1.now name is in
    rw (parts.0, parts.1) refl

pub contains_same : (seen : BTreeSet (Option (Bor (List ℕ) × Bor (List ℕ)))) (k : Option (Bor (List ℕ) ×
    Bor (List ℕ))) (r : Recipient) → option_map (λ n. (n.0.now, n.1.now)) k ≡ ring_name r →
    contains ring_cmp seen k ≡ is_seen seen r
contains_same seen k r is = list_any_same (is_at (ring_cmp k)) (is_at (ring_cmp (key_of r))) (finds_same k r is)
    seen.keys

-- a name that was put in was not there
pub put_in : (added was : Bool) → added ≡ true → added ≡ not was → was ≡ false
put_in added true new is = absurd (cc)
put_in added false new is = refl
