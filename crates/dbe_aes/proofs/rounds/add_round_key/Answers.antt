use Rattle.std.proofs.Common.{◌≡◌, ◌+◌, ◌*◌, refl, arith}
use Rattle.dbe_aes.specs.States.{add_round_key}
use Rattle.dbe_aes.proofs.rounds.add_round_key.Goals as goal

pub returns : goal.returns
unfolding add_round_key
returns c =
    let first : 4 * c.args.n + 0 ≡ 4 * c.args.n = omega arith in
    rw (c.to_be_bytes-p.ensures, c.to_be_bytes-q.ensures, c.to_be_bytes-t.ensures, c.to_be_bytes-u.ensures, first) refl
