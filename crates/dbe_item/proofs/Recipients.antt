-- Recipients of which none is of a branch.
use Rattle.std.proofs.Common.{◌≡◌, ℕ, suc, ◌+◌, ◌*◌, ◌≤◌, false, List, [], ◌∷◌, length, take, drop, map, refl, ap, ◌∙◌}
use Rattle.std.proofs.Common.{arith}
use Rattle.std.specs.Prelude.{sum_by}
use Rattle.std.proofs.lemmas.List.Sums.{sum_by-cons}
use Rattle.std.specs.List.{All}
use Rattle.std.proofs.lemmas.List.{length-map}
use Rattle.dbe_rawring.specs.Edk.{EdkParts, IsEdk}
use Rattle.dbe_rawring.specs.Ring.{RawRingParts}
use Rattle.dbe_values.specs.declared.value.AttrValue.{AttrValue}
use Rattle.dbe_frame.specs.Header.{AreEdks}
use Rattle.dbe_config.specs.declared.recipient.Recipient.{Recipient}
use Rattle.dbe_config.specs.declared.recipient.Recipient.TheVariants as recipient
use Rattle.dbe_config.specs.Rules.{has_branch, is_not_built, is_empty_list}
use Rattle.dbe_config.specs.Setting.{Setting}
use Rattle.dbe_item.specs.Sealed.{Wrap, raw_ring, raw_rings, wraps, recipient_draws, draw_length, item_context}
use Rattle.dbe_item.specs.Sealed.{item_wraps}
use Rattle.dbe_item.specs.Sealing.{ring_wraps}
use Rattle.dbe_item.proofs.Pieces.{or_first, first_wrap}

pub no_branch : (c : Setting) → is_not_built c ≡ false → has_branch c.recipients ≡ false
no_branch c built = or_first (has_branch c.recipients) _ built

pub wraps_are : (rs : List Recipient) (context data_key drawn : List ℕ) → has_branch rs ≡ false →
    ring_wraps (raw_rings rs) context data_key drawn ≡ wraps rs context data_key drawn
wraps_are [] context data_key drawn none = refl
wraps_are (recipient.Raw namespace name key ∷ others) context data_key drawn none =
    ap (λ (ws : List Wrap). first_wrap (raw_ring namespace name key) context data_key (take 44 drawn) ∷ ws)
    (wraps_are others context data_key (drop 44 drawn) none)
wraps_are (recipient.Branch branch ∷ others) context data_key drawn none = absurd cc

pub draws_are : (rs : List Recipient) → has_branch rs ≡ false → sum_by recipient_draws rs ≡ 44 * length (raw_rings rs)
draws_are [] none = refl
draws_are (recipient.Raw namespace name key ∷ others) none =
    let one = sum_by-cons recipient_draws (recipient.Raw namespace name key) others in
    let rest = draws_are others none in
    omega (arith, one, rest)
draws_are (recipient.Branch branch ∷ others) none = absurd cc

pub some_rings : (rs : List Recipient) → has_branch rs ≡ false → is_empty_list rs ≡ false → 1 ≤ length (raw_rings rs)
some_rings [] none some = absurd cc
some_rings (recipient.Raw namespace name key ∷ others) none some = omega arith
some_rings (recipient.Branch branch ∷ others) none some = absurd cc

pub few_rings : (rs : List Recipient) → length (raw_rings rs) ≤ length rs
few_rings [] = omega arith
few_rings (recipient.Raw namespace name key ∷ others) = let rest = few_rings others in omega (arith, rest)
few_rings (recipient.Branch branch ∷ others) = let rest = few_rings others in omega (arith, rest)

pub wraps_count : (rs : List Recipient) (context data_key drawn : List ℕ) → has_branch rs ≡ false →
    length (wraps rs context data_key drawn) ≡ length (raw_rings rs)
wraps_count [] context data_key drawn none = refl
wraps_count (recipient.Raw namespace name key ∷ others) context data_key drawn none =
    ap suc (wraps_count others context data_key (drop 44 drawn) none)
wraps_count (recipient.Branch branch ∷ others) context data_key drawn none = absurd cc

-- the drawn bytes after the first 64 are 44 for each ring
pub drawn_are : (c : Setting) (raw : List RawRingParts) (whole left : ℕ) → is_not_built c ≡ false →
    raw ≡ raw_rings c.recipients → whole ≡ draw_length c → left + 64 ≡ whole → left ≡ 44 * length raw
drawn_are c raw whole left built is drawn split =
    let draws = draws_are c.recipients (no_branch c built) in
    let count : length raw ≡ length (raw_rings c.recipients) = ap (λ (rs : List RawRingParts). length rs) is in
    omega (arith, draws, count, drawn, split)

pub item_wraps_are : (c : Setting) (drawn : List ℕ) (item : List (List ℕ × AttrValue)) (raw : List RawRingParts) →
    (seen context data_key left : List ℕ) → is_not_built c ≡ false → raw ≡ raw_rings c.recipients → seen ≡ context →
    context ≡ item_context c item → data_key ≡ take 32 (drop 32 drawn) → left ≡ drop 64 drawn →
    ring_wraps raw seen data_key left ≡ item_wraps c drawn item
item_wraps_are c drawn item raw seen context data_key left built is_raw is_seen is_context is_key is_left =
    ap (λ (rs : List RawRingParts). ring_wraps rs seen data_key left) is_raw
    ∙ ap (λ (x : List ℕ). ring_wraps (raw_rings c.recipients) x data_key left) (is_seen ∙ is_context)
    ∙ ap (λ (x : List ℕ). ring_wraps (raw_rings c.recipients) (item_context c item) x left) is_key
    ∙ ap (λ (x : List ℕ). ring_wraps (raw_rings c.recipients) (item_context c item) (take 32 (drop 32 drawn)) x) is_left
    ∙ wraps_are c.recipients (item_context c item) (take 32 (drop 32 drawn)) (drop 64 drawn) (no_branch c built)

-- 1 to 8 encrypted data keys
pub edks_are : (c : Setting) (drawn : List ℕ) (item : List (List ℕ × AttrValue)) (edks : List EdkParts) →
    is_not_built c ≡ false → is_empty_list c.recipients ≡ false → length c.recipients ≤ 8 → All IsEdk edks →
    edks ≡ map (λ (x : Wrap). x.edk) (item_wraps c drawn item) → AreEdks edks
edks_are c drawn item edks built some few each is =
    let none : has_branch c.recipients ≡ false = no_branch c built in
    let count : length edks ≡ length (raw_rings c.recipients) = ap (λ (es : List EdkParts). length es) is ∙
    length-map (item_wraps c drawn item) (λ (x : Wrap). x.edk) ∙ wraps_count c.recipients _ _ _ none in
    let low = some_rings c.recipients none some in
    let high = few_rings c.recipients in
    record { some = omega (arith, count, low); few = omega (arith, count, high, few); each = each }
