use Rattle.std.proofs.Common.{sym}
use Rattle.dbe_canon.proofs.laws.written_again.Goals as goal

pub returns : goal.returns
returns c = λ value id bytes h. (sym h.same_id, sym h.same_bytes)
