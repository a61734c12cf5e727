use Rattle.std.proofs.Common.{arith}
use Rattle.dbe_canon.proofs.Answered.{read_found, read_none}
use Rattle.dbe_canon.proofs.reading.read.Goals as goal

pub returns-clause-found : goal.returns-clause-found
returns-clause-found c = read_found c.value_in.result _ c.args.bytes.now (λ i. omega (arith, c.type_inv.bytes i))
    c.value_in.ensures

pub returns-clause-none : goal.returns-clause-none
returns-clause-none c = read_none c.value_in.result _ c.args.bytes.now c.value_in.ensures
