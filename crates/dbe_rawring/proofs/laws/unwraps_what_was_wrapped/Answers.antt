use Rattle.std.proofs.Common.{refl}
use Rattle.dbe_rawring.specs.Ring.{intermediate_of, raw_edk}
use Rattle.dbe_rawring.specs.Wrap.{signing_key}
use Rattle.dbe_rawring.proofs.Rings.{is_mine, unwraps_raw_edk}
use Rattle.dbe_rawring.proofs.laws.unwraps_what_was_wrapped.Goals as goal

pub returns : goal.returns
returns c = record {
  inner = λ intermediate context data_key size. record { size = size; wraps = refl };
  unwraps = unwraps_raw_edk;
  mine = λ ring context data_key drawn size drawn_size.
      is_mine ring context (raw_edk ring context data_key drawn) data_key (signing_key (intermediate_of drawn))
      (unwraps_raw_edk ring context data_key drawn size drawn_size);
}
