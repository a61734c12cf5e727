use Rattle.std.proofs.Common.{rules, inr, subst, sym}
use Rattle.dbe_io.specs.Steps.{IsOpen}
use Rattle.dbe_io.proofs.Steps.{Given-line, Given-last, Refused-here, Refused-kept, Took-open, Took-trans, IsCause-open}
use Rattle.dbe_io.proofs.lines.LineReader.seek.Goals as goal

pub returns-in-Some-clause-line : goal.returns-in-Some-clause-line
returns-in-Some-clause-line g c =
    let found = rw c.in-Some.is at c.in_ok-at.ensures.found in
    Given-line _ _ _ _ _ _ c.take_line.result c.requires.no_fault c.requires.not_ended c.pieces.invariant.took found
    c.in_ok-at.ensures.few c.take_line.ensures.some c.take_line.ensures.line c.take_line.ensures.first
    c.take_line.ensures.same

pub returns-in-Err-clause-refused : goal.returns-in-Err-clause-refused
returns-in-Err-clause-refused g c =
    let found = rw c.in_default.is at c.in_ok-at.ensures.found in
    let cause = IsCause-open c.pieces.self c.in-Err.fault found c.in-Err.ensures.causes in
    rw c.in-Err.ensures.same (Refused-kept _ _ _ _ _ _ (Refused-here _ _ _ _ _ c.pieces.invariant.took cause)
    c.in-Err.ensures.kept)

pub returns-in-Err-clause-unasked : goal.returns-in-Err-clause-unasked
returns-in-Err-clause-unasked g c =
    λ some. absurd (some (Took-open _ _ _ _ c.pieces.invariant.took (rw c.in_default.is at c.in_ok-at.ensures.found)))

pub returns-in-Ok-true-clause-line : goal.returns-in-Ok-true-clause-line
returns-in-Ok-true-clause-line g c =
    let found = rw c.in_default.is at c.in_ok-at.ensures.found in
    let end = c.in-Ok-true.ensures.end c.in-Ok-true.field-0-test in
    Given-last _ _ _ _ _ c.take_last.result c.requires.no_fault (Took-trans _ _ _ _ _ _ c.pieces.invariant.took
    c.in-Ok-true.ensures.took) (subst IsOpen (sym end.0) found) end.1 c.take_last.ensures.none
    c.take_last.ensures.some c.take_last.ensures.same

pub returns-in-Ok-true-clause-unasked : goal.returns-in-Ok-true-clause-unasked
returns-in-Ok-true-clause-unasked g c =
    λ some. absurd (some (Took-open _ _ _ _ c.pieces.invariant.took (rw c.in_default.is at c.in_ok-at.ensures.found)))

pub pieces-preserved : goal.pieces-preserved
pieces-preserved g c = record {
  took = Took-trans _ _ _ _ _ _ c.pieces.invariant.took c.in-Ok-false.ensures.took;
  faults = search rules;
  asked = inr (Took-open _ _ _ _ c.pieces.invariant.took (rw c.in_default.is at c.in_ok-at.ensures.found));
}
