-- The tests of pairs at their door.
use Rattle.std.proofs.Common.{◌≡◌, ℕ, suc, ◌+◌, ◌≤◌, ◌<◌, Bool, true, false, ◌&&◌, List, [], ◌∷◌, length, drop}
use Rattle.std.proofs.Common.{get_or, Option, Some, None, refl, sym, ap, ◌∙◌, arith}
use Rattle.std.specs.Prelude.{nat_le}
use Rattle.std.specs.List.{AllByRecursion}
use Rattle.std.proofs.Math.ListN.{drop_of_length-le}
use Rattle.std.proofs.Math.Seq.{drop-cons}
use Rattle.std.proofs.lemmas.List.Elements.{recursion_from_All}
use Rattle.dbe_frame.specs.Header.{IsShortPair, ArePairs, comes_after}
use Rattle.dbe_frame.specs.Reading.{takes_pair, takes_pairs}
use Rattle.dbe_frame.proofs.Headers.{pairs_rule}
use Rattle.dbe_frame.proofs.Spelled.{Rises, sorted_rises}

both : (a b : Bool) → a && b ≡ true → (a ≡ true) × (b ≡ true)
both true b e = (refl, e)
both false b e = absurd cc

short_from : (n : ℕ) → nat_le n 65535 ≡ true → n ≤ 65535
short_from n e = grind arith

from_short : (n : ℕ) → n ≤ 65535 → nat_le n 65535 ≡ true
from_short n le = grind arith

pair_taken : (before : Option (List ℕ)) (p : List ℕ × List ℕ) → takes_pair before p ≡ true → IsShortPair p ×
    (comes_after before p.0 ≡ true)
pair_taken before p e =
    let after = both (nat_le (length p.0) 65535 && nat_le (length p.1) 65535) (comes_after before p.0) e in
    let short = both (nat_le (length p.0) 65535) (nat_le (length p.1) 65535) after.0 in
    ((short_from (length p.0) short.0, short_from (length p.1) short.1), after.1)

takes_short : (before : Option (List ℕ)) (p : List ℕ × List ℕ) → IsShortPair p → comes_after before p.0 ≡ true →
    takes_pair before p ≡ true
takes_short before p short after = rw (from_short (length p.0) short.0, from_short (length p.1) short.1, after) refl

pairs_taken : (before : Option (List ℕ)) (ps : List (List ℕ × List ℕ)) → takes_pairs before ps ≡ true →
    AllByRecursion IsShortPair ps × Rises before ps
unfolding takes_pairs
pairs_taken before [] e = (tt, tt)
pairs_taken before (p ∷ ps) e =
    let b = both (takes_pair before p) (takes_pairs (Some p.0) ps) e in
    let first = pair_taken before p b.0 in
    let others = pairs_taken (Some p.0) ps b.1 in
    ((first.0, others.0), (first.1, others.1))

takes_rising : (before : Option (List ℕ)) (ps : List (List ℕ × List ℕ)) → AllByRecursion IsShortPair ps →
    Rises before ps → takes_pairs before ps ≡ true
unfolding takes_pairs
takes_rising before [] short rises = refl
takes_rising before (p ∷ ps) short rises = rw (
  takes_short before p short.0 rises.0,
  takes_rising (Some p.0) ps short.1 rises.1,
) refl

pub are_taken : (ps : List (List ℕ × List ℕ)) → length ps ≤ 65535 → takes_pairs None ps ≡ true → ArePairs ps
are_taken ps few e = let t = pairs_taken None ps e in pairs_rule (length ps) ps refl few t.0 t.1

pub taken_are : (ps : List (List ℕ × List ℕ)) → ArePairs ps → takes_pairs None ps ≡ true
taken_are ps h = takes_rising None ps (recursion_from_All IsShortPair ps h.short) (sorted_rises ps h.sorted)

-- ---- the loop

take_one : (before : Option (List ℕ)) (ps : List (List ℕ × List ℕ)) (i : ℕ) (p : List ℕ × List ℕ) → i < length ps →
    p ≡ get_or ps i p → takes_pairs before (drop i ps) ≡ takes_pair before p && takes_pairs (Some p.0) (drop (i + 1) ps)
unfolding takes_pairs
take_one before ps i p lt is =
    let next : i + 1 ≡ suc i = omega arith in
    let first : drop i ps ≡ p ∷ drop (i + 1) ps = drop-cons ps i p lt ∙ ap (λ q. q ∷ drop (suc i) ps) (sym is) ∙
    ap (λ k. p ∷ drop k ps) (sym next) in
    ap (λ qs. takes_pairs before qs) first

-- a pair whose test is answered, by its two parts
tested : (before : Option (List ℕ)) (ps : List (List ℕ × List ℕ)) (i : ℕ) (p : List ℕ × List ℕ) (key value : List ℕ)
    (b taken : Bool) → i < length ps → p ≡ get_or ps i p → key ≡ p.0 → value ≡ p.1 → b ≡ takes_pair before (key, value)
    → takes_pairs before (drop i ps) ≡ taken → b && takes_pairs (Some p.0) (drop (i + 1) ps) ≡ taken
tested before ps i p key value b taken lt is first second test so_far =
    let whole : takes_pair before (key, value) ≡ takes_pair before p = ap (λ k. takes_pair before (k, value)) first ∙
    ap (λ v. takes_pair before (p.0, v)) second in
    ap (λ t. t && takes_pairs (Some p.0) (drop (i + 1) ps)) (test ∙ whole) ∙ sym (take_one before ps i p lt is) ∙ so_far

pub take_next : (before : Option (List ℕ)) (ps : List (List ℕ × List ℕ)) (i : ℕ) (p : List ℕ ×
    List ℕ) (key value next : List ℕ) (b taken : Bool) → i < length ps → p ≡ get_or ps i p → key ≡ p.0 → value ≡ p.1 →
    b ≡ takes_pair before (key, value)
    → takes_pairs before (drop i ps) ≡ taken → b ≡ true → next ≡ p.0 → takes_pairs (Some next) (drop (i + 1) ps) ≡ taken
take_next before ps i p key value next b taken lt is first second test so_far passed same =
    ap (λ k. takes_pairs (Some k) (drop (i + 1) ps)) same ∙ ap (λ t. t && takes_pairs (Some p.0) (drop (i + 1) ps))
    (sym passed) ∙ tested before ps i p key value b taken lt is first second test so_far

pub take_none : (before : Option (List ℕ)) (ps : List (List ℕ × List ℕ)) (i : ℕ) (p : List ℕ ×
    List ℕ) (key value : List ℕ) (b taken : Bool) → i < length ps → p ≡ get_or ps i p → key ≡ p.0 → value ≡ p.1 →
    b ≡ takes_pair before (key, value)
    → takes_pairs before (drop i ps) ≡ taken → b ≡ false → false ≡ taken
take_none before ps i p key value b taken lt is first second test so_far failed =
    ap (λ t. t && takes_pairs (Some p.0) (drop (i + 1) ps)) (sym failed) ∙
    tested before ps i p key value b taken lt is first second test so_far

pub take_all : (before : Option (List ℕ)) (ps : List (List ℕ × List ℕ)) (i : ℕ) (taken : Bool) → length ps ≤ i →
    takes_pairs before (drop i ps) ≡ taken → true ≡ taken
unfolding takes_pairs
take_all before ps i taken past so_far = ap (λ qs. takes_pairs before qs) (sym (drop_of_length-le ps past)) ∙ so_far
