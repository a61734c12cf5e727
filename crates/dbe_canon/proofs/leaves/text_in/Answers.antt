use Rattle.dbe_canon.proofs.ReadLeaves.{text_some, text_none}
use Rattle.dbe_canon.proofs.leaves.text_in.Goals as goal

pub returns-in_ok-copy_of-in-Ok : goal.returns-in_ok-copy_of-in-Ok
returns-in_ok-copy_of-in-Ok c = text_some c.args.bytes.now c.in-Ok.text.now _ c.in-Ok.ensures.cases.1
    c.in-Ok.ensures.cases.0 c.in_ok-copy_of-in-Ok.ensures

pub returns-in-Err : goal.returns-in-Err
returns-in-Err c = text_none c.args.bytes.now c.in-Err.ensures.cases.0
