use Rattle.std.proofs.Common.{arith}
use Rattle.dbe_frame.proofs.Headers.{header_found, header_fault, left_within}
use Rattle.dbe_frame.proofs.reading.read.Goals as goal

pub overflow_sub-result : goal.overflow_sub-result
overflow_sub-result c = left_within c.args.bytes.now c.in-Err-Left.left (rw c.in-Err-Left.field-0-is at
    c.in-Err-Left.ensures)

pub returns-in-Ok-clause-header : goal.returns-in-Ok-clause-header
returns-in-Ok-clause-header c = header_found c.args.bytes.now c.in-Ok.header (λ i. omega (arith, c.type_inv.bytes i))
    c.in-Ok.ensures

pub returns-in-Err-Left-clause-fault : goal.returns-in-Err-Left-clause-fault
returns-in-Err-Left-clause-fault c = header_fault c.args.bytes.now c.in-Err-Left.left (rw c.in-Err-Left.field-0-is at
    c.in-Err-Left.ensures)
