use Rattle.dbe_frame.proofs.Tags.{footer_unique}
use Rattle.dbe_frame.proofs.laws.one_footer.Goals as goal

pub returns : goal.returns
returns c = footer_unique
