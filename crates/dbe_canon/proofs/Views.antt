-- The view of each kind of value.
use Rattle.std.proofs.Common.{◌≡◌, ℕ, List}
use denote.Hole.Carrier
use Rattle.dbe_values.specs.Val as v
use Rattle.dbe_values.specs.View.{view, view_step}
use Rattle.dbe_values.specs.declared.value.AttrValue.{Ss, Ns, Bs, fold-roll-AttrValue, roll-AttrValue}
use Rattle.dbe_values.specs.declared.value.AttrValue.TheOpen.{AttrValue-F}

pub view-Ss : (xs : List (List ℕ)) → view (Ss xs) ≡ v.texts xs
unfolding roll-AttrValue denote.Hole.Carrier.roll
view-Ss xs = fold-roll-AttrValue v.Val view_step (AttrValue-F.Ss xs)

pub view-Ns : (xs : List (List ℕ)) → view (Ns xs) ≡ v.numbers xs
unfolding roll-AttrValue denote.Hole.Carrier.roll
view-Ns xs = fold-roll-AttrValue v.Val view_step (AttrValue-F.Ns xs)

pub view-Bs : (xs : List (List ℕ)) → view (Bs xs) ≡ v.binaries xs
unfolding roll-AttrValue denote.Hole.Carrier.roll
view-Bs xs = fold-roll-AttrValue v.Val view_step (AttrValue-F.Bs xs)
