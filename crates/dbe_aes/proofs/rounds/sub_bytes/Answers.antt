use Rattle.std.proofs.Common.{rules, get_or}
use Rattle.std.proofs.lemmas.List.FromFn.{fill_by_all}
use Rattle.dbe_aes.specs.Bytes.{sbox}
use Rattle.dbe_aes.specs.States.{sub_bytes}
use Rattle.dbe_aes.proofs.rounds.sub_bytes.Goals as goal

pub returns : goal.returns
unfolding sub_bytes
returns c = fill_by_all (λ k. sbox (get_or c.args.s.now k 0)) c.loop-i.new 16 0 c.loop-i.invariant.0 (search rules)
