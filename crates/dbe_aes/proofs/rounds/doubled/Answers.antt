use Rattle.std.proofs.Common.{◌∙◌}
use Rattle.dbe_aes.proofs.Entries.{double_is_product}
use Rattle.dbe_aes.proofs.rounds.doubled.Goals as goal

pub returns : goal.returns
returns c = c.times_x.ensures ∙ double_is_product c.args.a c.ranges.a.fits
