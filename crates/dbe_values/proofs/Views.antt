-- The view of each kind of value.
use Rattle.std.proofs.Common.{◌≡◌, ℕ, List}
use Rattle.std.specs.Prelude.{map}
use denote.Hole.Carrier
use Rattle.dbe_values.specs.Val as v
use Rattle.dbe_values.specs.View.{view, view_step, entries_of, vals_of, entry_view}
use Rattle.dbe_values.specs.declared.value.AttrValue.{AttrValue, L, M, fold-roll-AttrValue, roll-AttrValue}
use Rattle.dbe_values.specs.declared.value.AttrValue.TheOpen.{AttrValue-F}

pub view-M : (es : List (List ℕ × AttrValue)) → view (M es) ≡ v.map (entries_of (map entry_view es))
unfolding roll-AttrValue denote.Hole.Carrier.roll
view-M es = fold-roll-AttrValue v.Val view_step (AttrValue-F.M es)

pub view-L : (vs : List AttrValue) → view (L vs) ≡ v.list (vals_of (map view vs))
unfolding roll-AttrValue denote.Hole.Carrier.roll
view-L vs = fold-roll-AttrValue v.Val view_step (AttrValue-F.L vs)
