use Rattle.std.specs.Prelude.{option_map}
use Rattle.dbe_frame.proofs.Door.{take_next, take_none, take_all}
use Rattle.dbe_frame.proofs.pairs.takes_pairs.Goals as goal

pub returns-then-not-takes_pair : goal.returns-then-not-takes_pair
returns-then-not-takes_pair c =
    take_none (option_map (λ k. k.now) c.loop-i.before) c.args.pairs.now c.loop-i.i c.index-pairs-i.result
    c.as_slice.result.now c.as_slice-in-loop-i.result.now c.takes_pair.result _ c.loop-i-test.true
    c.index-pairs-i.is c.as_slice.ensures c.as_slice-in-loop-i.ensures c.takes_pair.ensures c.loop-i.invariant
    c.if-not-takes_pair.true

pub loop-i-preserved : goal.loop-i-preserved
loop-i-preserved c =
    take_next (option_map (λ k. k.now) c.loop-i.before) c.args.pairs.now c.loop-i.i c.index-pairs-i.result
    c.as_slice.result.now c.as_slice-in-loop-i.result.now c.as_slice-in-loop-i-2.result.now c.takes_pair.result _
    c.loop-i-test.true c.index-pairs-i.is c.as_slice.ensures c.as_slice-in-loop-i.ensures c.takes_pair.ensures
    c.loop-i.invariant c.if-not-takes_pair.false c.as_slice-in-loop-i-2.ensures

pub returns : goal.returns
returns c = take_all (option_map (λ k. k.now) c.loop-i.before) c.args.pairs.now c.loop-i.i _ c.loop-i-test.false
    c.loop-i.invariant
