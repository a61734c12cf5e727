use Rattle.std.proofs.Common.{sym}
use Rattle.dbe_item.proofs.Pieces.{no_number}
use Rattle.dbe_item.proofs.attributes.number_among.Goals as goal

pub returns-in-None-clause-number : goal.returns-in-None-clause-number
returns-in-None-clause-number c = no_number c.args.names.now c.args.name.now (sym c.in-None.ensures.some)
