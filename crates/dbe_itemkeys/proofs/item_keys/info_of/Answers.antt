use Rattle.std.proofs.Common.{ℕ, List, ◌++◌, ap, ◌∙◌, refl, replicate}
use Rattle.dbe_itemkeys.proofs.Joins.{put_mid_joined}
use Rattle.dbe_itemkeys.proofs.item_keys.info_of.Goals as goal

pub returns : goal.returns
returns c =
    put_mid_joined 18 32 c.copy_from_slice.new.self c.copy_from_slice-2.new.self (replicate 32 0)
    c.copy_from_slice.ensures.len refl
    ∙ ap (λ (u : List ℕ). u ++ c.copy_from_slice-2.new.self) c.copy_from_slice.ensures.after
    ∙ ap (λ (m : List ℕ). c.args.usage.now ++ m) c.copy_from_slice-2.ensures.after
