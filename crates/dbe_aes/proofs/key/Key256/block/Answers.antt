use Rattle.std.proofs.Common.{refl, ◌∙◌}
use Rattle.dbe_aes.specs.Columns.{columns}
use Rattle.dbe_aes.proofs.key.Key256.block.Goals as goal

pub returns : goal.returns
unfolding columns
returns c = c.enciphered.ensures ∙ rw c.columns_of.ensures refl
