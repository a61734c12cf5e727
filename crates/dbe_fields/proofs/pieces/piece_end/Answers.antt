use Rattle.std.proofs.Common.{length}
use Rattle.dbe_fields.proofs.Cutting.{front_of, after_of, few_of, found, none_left}
use Rattle.dbe_fields.proofs.pieces.piece_end.Goals as goal

pub returns-then-left-eq0-clause-front : goal.returns-then-left-eq0-clause-front
returns-then-left-eq0-clause-front c =
    front_of c.args.cut c.args.piece c.args.text.now c.loop-i.i (found c.args.cut c.loop-i.i _ c.args.text.now
    c.index-text-i.result c.loop-i.left c.loop-i-test.true c.index-text-i.is c.if-c-cut.true c.if-left-eq0.true
    c.loop-i.invariant)

pub returns-then-left-eq0-clause-rest : goal.returns-then-left-eq0-clause-rest
returns-then-left-eq0-clause-rest c =
    after_of c.args.cut c.args.piece c.args.text.now c.loop-i.i (found c.args.cut c.loop-i.i _ c.args.text.now
    c.index-text-i.result c.loop-i.left c.loop-i-test.true c.index-text-i.is c.if-c-cut.true c.if-left-eq0.true
    c.loop-i.invariant)

pub returns-clause-front : goal.returns-clause-front
returns-clause-front c = front_of c.args.cut c.args.piece c.args.text.now (length c.args.text.now)
    (none_left c.args.cut c.loop-i.i _ c.args.text.now c.loop-i.left c.loop-i-test.false c.loop-i.auto.i-end
    c.loop-i.invariant)

pub returns-clause-last : goal.returns-clause-last
returns-clause-last c = few_of c.args.cut c.args.piece c.args.text.now (length c.args.text.now)
    (none_left c.args.cut c.loop-i.i _ c.args.text.now c.loop-i.left c.loop-i-test.false c.loop-i.auto.i-end
    c.loop-i.invariant)
