use Rattle.std.proofs.Common.{subst, sym}
use Rattle.dbe_frame.specs.Header.{ArePairs}
use Rattle.dbe_item.proofs.Ringed.{pairs_are}
use Rattle.dbe_item.proofs.stored.stored_pairs.Goals as goal

pub unwrap-requires : goal.unwrap-requires
unwrap-requires c = c.new.ensures.some.1 (subst ArePairs (sym c.in_ok-pairs.ensures) (pairs_are c.args.context.now
    c.requires.count c.requires.pairs c.requires.order))
