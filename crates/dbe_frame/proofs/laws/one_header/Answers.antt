use Rattle.dbe_frame.proofs.Headers.{header_unique}
use Rattle.dbe_frame.proofs.laws.one_header.Goals as goal

pub returns : goal.returns
returns c = header_unique
