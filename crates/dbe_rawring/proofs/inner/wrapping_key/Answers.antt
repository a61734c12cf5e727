use Rattle.std.proofs.Common.{◌∙◌}
use Rattle.dbe_rawring.proofs.Wraps.{wrapping_key_is}
use Rattle.dbe_rawring.proofs.inner.wrapping_key.Goals as goal

pub returns : goal.returns
returns c = λ intermediate e. wrapping_key_is c.args.prk.now intermediate _ e (c.new.ensures ∙ c.expand.ensures)
