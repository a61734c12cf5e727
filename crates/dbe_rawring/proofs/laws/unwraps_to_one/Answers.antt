use Rattle.std.proofs.Common.{sym, ◌∙◌}
use Rattle.dbe_rawring.proofs.Rings.{data_key_is, signing_is}
use Rattle.dbe_rawring.proofs.Wraps.{same_inner}
use Rattle.dbe_rawring.proofs.laws.unwraps_to_one.Goals as goal

pub returns : goal.returns
returns c = record {
  inner = same_inner;
  data_key = λ ring context edk a b s t u v.
      data_key_is ring context edk a s u ∙ sym (data_key_is ring context edk b t v);
  signing = λ ring context edk a b s t u v.
      signing_is ring context edk a s u ∙ sym (signing_is ring context edk b t v);
}
