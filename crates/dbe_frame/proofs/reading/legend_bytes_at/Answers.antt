use Rattle.std.proofs.Common.{arith}
use Rattle.std.proofs.lemmas.Result.{err_from_is_err_and}
use Rattle.dbe_frame.specs.Header.{is_legend_byte}
use Rattle.dbe_frame.specs.Reading.{byte_at}
use Rattle.dbe_frame.proofs.Loops.{goes_on, stops, ends}
use Rattle.dbe_frame.proofs.Headers.{legend_found}
use Rattle.dbe_frame.proofs.reading.legend_bytes_at.Goals as goal

pub returns-in_err-b-clause-gives : goal.returns-in_err-b-clause-gives
returns-in_err-b-clause-gives c =
    let p = err_from_is_err_and c.from_residual-in_err-b.result c.from_residual-in_err-b.ensures.1 in
    rw (p.1, p.2) (stops (byte_at (is_legend_byte c.args.version)) c.loop.legend.items c.args.count c.loop.counter
    c.loop.rest.now _ c.loop.invariant c.in_err-b.field-0.0 c.loop-test.true c.in_err-b.ensures)

pub loop-preserved : goal.loop-preserved
loop-preserved c =
    goes_on (byte_at (is_legend_byte c.args.version)) c.loop.legend.items c.args.count c.loop.counter c.loop.rest.now
    _ c.loop.invariant c.push.new.self.items c.in_ok-b.b c.in_ok-b.after.now c.loop-test.true c.in_ok-b.ensures
    c.in_ok-push.ensures.items

pub returns-clause-gives : goal.returns-clause-gives
returns-clause-gives c = ends (byte_at (is_legend_byte c.args.version)) c.loop.legend.items c.args.count
    c.loop.counter c.loop.rest.now _ c.loop.invariant c.loop-test.false

pub returns-clause-legend : goal.returns-clause-legend
returns-clause-legend c = λ le. legend_found c.args.version c.args.count c.args.bytes.now c.loop.legend.items
    c.loop.rest.now (λ i. omega (arith, c.type_inv.bytes i)) (returns-clause-gives c) le
