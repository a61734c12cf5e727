-- The view of a text.
use Rattle.std.proofs.Common.{◌≡◌, ℕ, List}
use denote.Hole.Carrier
use Rattle.dbe_values.specs.Val as v
use Rattle.dbe_values.specs.View.{view, view_step}
use Rattle.dbe_values.specs.declared.value.AttrValue.{S, fold-roll-AttrValue, roll-AttrValue}
use Rattle.dbe_values.specs.declared.value.AttrValue.TheOpen.{AttrValue-F}

pub view-S : (x : List ℕ) → view (S x) ≡ v.text x
unfolding roll-AttrValue denote.Hole.Carrier.roll
view-S x = fold-roll-AttrValue v.Val view_step (AttrValue-F.S x)
