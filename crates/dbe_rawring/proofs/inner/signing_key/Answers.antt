use Rattle.dbe_rawring.proofs.Wraps.{signing_key_is}
use Rattle.dbe_rawring.proofs.inner.signing_key.Goals as goal

pub returns : goal.returns
returns c = λ intermediate e. signing_key_is c.args.prk.now intermediate _ e c.expand.ensures
