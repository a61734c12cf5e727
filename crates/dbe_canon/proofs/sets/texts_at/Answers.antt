use Rattle.std.proofs.lemmas.Result.{err_from_is_err_and}
use Rattle.dbe_canon.specs.Reading.{element_at, text_in}
use Rattle.dbe_canon.proofs.Loops.{goes_on, stops, ends}
use Rattle.dbe_canon.proofs.sets.texts_at.Goals as goal

pub returns-in_err-text : goal.returns-in_err-text
returns-in_err-text c =
    let p = err_from_is_err_and c.from_residual.result c.from_residual.ensures.1 in
    rw (p.1, p.2) (stops (element_at text_in) c.loop.texts c.args.count c.loop.counter c.loop.rest.now _
    c.loop.invariant c.in_err-text.field-0.0 c.loop-test.true c.in_err-text.ensures)

pub loop-preserved : goal.loop-preserved
loop-preserved c =
    goes_on (element_at text_in) c.loop.texts c.args.count c.loop.counter c.loop.rest.now _ c.loop.invariant
    c.push.new.self c.in_ok-text.text c.in_ok-text.after.now c.loop-test.true c.in_ok-text.ensures
    c.in_ok-push.ensures.ok

pub returns : goal.returns
returns c = ends (element_at text_in) c.loop.texts c.args.count c.loop.counter c.loop.rest.now _ c.loop.invariant
    c.loop-test.false
