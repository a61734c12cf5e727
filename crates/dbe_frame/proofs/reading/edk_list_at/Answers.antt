use Rattle.std.proofs.Common.{arith}
use Rattle.std.proofs.lemmas.Result.{err_from_is_err_and}
use Rattle.dbe_frame.specs.Reading.{edk_at}
use Rattle.dbe_frame.proofs.Loops.{goes_on, stops, ends}
use Rattle.dbe_frame.proofs.Headers.{edks_found}
use Rattle.dbe_frame.proofs.reading.edk_list_at.Goals as goal

pub returns-in_err-edk-clause-gives : goal.returns-in_err-edk-clause-gives
returns-in_err-edk-clause-gives c =
    let p = err_from_is_err_and c.from_residual-in_err-edk.result c.from_residual-in_err-edk.ensures.1 in
    rw (p.1, p.2) (stops edk_at c.loop.edks.items c.args.count c.loop.counter c.loop.rest.now _ c.loop.invariant
    c.in_err-edk.field-0.0 c.loop-test.true c.in_err-edk.ensures)

pub loop-preserved : goal.loop-preserved
loop-preserved c =
    goes_on edk_at c.loop.edks.items c.args.count c.loop.counter c.loop.rest.now _ c.loop.invariant
    c.push.new.self.items c.in_ok-edk.edk c.in_ok-edk.after.now c.loop-test.true c.in_ok-edk.ensures
    c.in_ok-push.ensures.items

pub returns-clause-gives : goal.returns-clause-gives
returns-clause-gives c = ends edk_at c.loop.edks.items c.args.count c.loop.counter c.loop.rest.now _ c.loop.invariant
    c.loop-test.false

pub returns-clause-edks : goal.returns-clause-edks
returns-clause-edks c = λ some few. edks_found c.args.count c.args.bytes.now c.loop.edks.items c.loop.rest.now
    (λ i. omega (arith, c.type_inv.bytes i)) (returns-clause-gives c) some few
