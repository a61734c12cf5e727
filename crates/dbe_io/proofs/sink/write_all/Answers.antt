use Rattle.std.proofs.Common.{refl, ◌∙◌, arith, rules, length-drop}
use Rattle.dbe_io.proofs.Fronts.{Appends-more, AppendsPrefix-more}
use Rattle.dbe_io.proofs.sink.write_all.Goals as goal

pub pieces-preserved : goal.pieces-preserved
pieces-preserved g c = record {
  within = omega (arith, length-drop c.pieces.at c.args.bytes.now, c.in-Ok.ensures.bound);
  front = Appends-more _ _ _ _ _ _ c.pieces.invariant.front c.in-Ok.ensures.bytes;
  faults = search rules;
  unfinished = λ _. c.in-Ok.ensures.unfinished;
  untouched = λ none. absurd (c.in-Ok.count-test.1 (omega arith));
  idle = c.in-Ok.ensures.idle.taken (omega (arith, c.in-Ok.count-test.1)) ∙ c.pieces.invariant.idle;
}

pub returns-in-Err-clause-prefix : goal.returns-in-Err-clause-prefix
returns-in-Err-clause-prefix g c = AppendsPrefix-more _ _ _ _ _ c.pieces.invariant.within c.pieces.invariant.front
    c.in-Err.ensures.bytes

pub returns-clause-unfinished : goal.returns-clause-unfinished
returns-clause-unfinished g c = λ some. c.pieces.invariant.unfinished (omega arith)

pub returns-clause-no_bytes : goal.returns-clause-no_bytes
returns-clause-no_bytes g c = λ none. (refl, c.pieces.invariant.untouched (omega arith))
