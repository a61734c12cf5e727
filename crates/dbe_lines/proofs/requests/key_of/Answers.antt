use Rattle.dbe_lines.proofs.Known.{key_known}
use Rattle.dbe_lines.proofs.requests.key_of.Goals as goal

pub returns-in-Ok : goal.returns-in-Ok
returns-in-Ok c = λ make.
    key_known c.args.schema.now make c.args.item.now c.in-Ok.key c.in-Ok.ensures.gives
