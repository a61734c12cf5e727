use Rattle.std.proofs.Common.{sym, ◌∙◌}
use Rattle.dbe_gcm.proofs.Hashes.{ghash-push}
use Rattle.dbe_gcm.proofs.hash.absorb_block.Goals as goal

pub returns : goal.returns
returns c = λ h xs table is. c.times.ensures h table ∙ rw is (sym (ghash-push h c.args.block xs table.small))
