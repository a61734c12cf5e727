use Rattle.std.proofs.Common.{arith}
use Rattle.std.specs.Prelude.{option_map}
use Rattle.std.proofs.lemmas.Result.{err_from_is_err_and}
use Rattle.dbe_frame.proofs.Loops.{pairs_go_on, pairs_stop, pairs_end}
use Rattle.dbe_frame.proofs.Headers.{pairs_found}
use Rattle.dbe_frame.proofs.reading.pairs_at.Goals as goal

pub returns-in_err-key-clause-gives : goal.returns-in_err-key-clause-gives
returns-in_err-key-clause-gives c =
    let p = err_from_is_err_and c.from_residual-in_err-key.result c.from_residual-in_err-key.ensures.1 in
    rw (p.1, p.2) (pairs_stop (option_map (λ k. k.now) c.loop.before) c.loop.pairs.items c.args.count c.loop.counter
    c.loop.rest.now _ c.loop.invariant c.in_err-key.field-0.0 c.loop-test.true c.in_err-key.ensures)

pub loop-preserved : goal.loop-preserved
loop-preserved c =
    pairs_go_on (option_map (λ k. k.now) c.loop.before) c.loop.pairs.items c.args.count c.loop.counter c.loop.rest.now
    _ c.loop.invariant c.push.new.self.items c.in_ok-key.key.now c.in_ok-key.value.now c.in_ok-key.after.now
    c.loop-test.true c.in_ok-key.ensures (cc (
      c.in_ok-push.ensures.items,
      c.in_ok-copy_of.ensures,
      c.in_ok-copy_of-2.ensures,
    ))

pub returns-clause-gives : goal.returns-clause-gives
returns-clause-gives c = pairs_end (option_map (λ k. k.now) c.loop.before) c.loop.pairs.items c.args.count
    c.loop.counter c.loop.rest.now _ c.loop.invariant c.loop-test.false

pub returns-clause-pairs : goal.returns-clause-pairs
returns-clause-pairs c = λ le. pairs_found c.args.count c.args.bytes.now c.loop.pairs.items c.loop.rest.now
    (λ i. omega (arith, c.type_inv.bytes i)) (returns-clause-gives c) le
