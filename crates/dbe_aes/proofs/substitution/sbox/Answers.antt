use Rattle.dbe_aes.proofs.Entries.{substitution_entry}
use Rattle.dbe_aes.proofs.substitution.sbox.Goals as goal

pub returns : goal.returns
returns c = substitution_entry c.args.x c.ranges.x.fits
