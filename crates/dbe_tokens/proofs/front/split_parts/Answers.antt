use Rattle.std.proofs.Common.{arith}
use Rattle.std.proofs.lemmas.List.Sums.{prefix_len-le-length}
use Rattle.dbe_tokens.specs.Token.{is_part}
use Rattle.dbe_tokens.proofs.Fronts.{split_is}
use Rattle.dbe_tokens.proofs.front.split_parts.Goals as goal

pub split_at-requires : goal.split_at-requires
split_at-requires c = omega (arith, prefix_len-le-length is_part c.args.bytes.now)

pub returns-clause-split : goal.returns-clause-split
returns-clause-split c = split_is _ _ _ _ c.count_parts-count.ensures c.split_at.ensures.front c.split_at.ensures.back
