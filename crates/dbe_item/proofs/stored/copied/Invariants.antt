use Rattle.std.proofs.Common.{◌≡◌, take}
use Rattle.dbe_item.specs.Sealed.{pairs_of}
use Rattle.dbe_item.proofs.stored.copied.Given as goal

abbrev pub invariant-loop-pair : goal.invariant-loop-pair
invariant-loop-pair l = l.pairs.items ≡ pairs_of (take l.pair-index l.context)
