use Rattle.dbe_aes.proofs.Entries.{triple_is_product}
use Rattle.dbe_aes.proofs.rounds.tripled.Goals as goal

pub returns : goal.returns
returns c = rw c.doubled.ensures (triple_is_product c.args.a c.ranges.a.fits)
