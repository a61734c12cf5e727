use Rattle.std.proofs.Common.{refl}
use Rattle.dbe_rawring.specs.Wrap.{inner_wrap}
use Rattle.dbe_rawring.proofs.inner.wrap_under.Goals as goal

pub returns : goal.returns
unfolding inner_wrap
returns c = λ intermediate e. rw (c.wrap_key.ensures, c.wrapping_key.ensures intermediate e) refl
