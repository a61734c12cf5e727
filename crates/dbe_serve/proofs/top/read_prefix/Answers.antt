use Rattle.std.proofs.Common.{ℕ, arith}
use Rattle.std.proofs.lemmas.List.{length-take}
use Rattle.dbe_serve.proofs.Taken.{taken_more}
use Rattle.dbe_serve.proofs.top.read_prefix.Goals as goal

pub returns-then-is_err-clause-taken : goal.returns-then-is_err-clause-taken
returns-then-is_err-clause-taken g c = taken_more _ _ _ _ _ _ c.reads.invariant.prefix c.in-Ok.ensures.bytes.0
    (omega (arith, length-take {A = ℕ}))
