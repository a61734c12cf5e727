use Rattle.std.proofs.Common.{◌≡◌, ◌+◌, ◌-◌, ◌^◌, ◌<◌, min, drop, length}
use Rattle.dbe_canon.specs.Canon.{long_strings}
use Rattle.dbe_canon.proofs.length.texts_len.Given as goal

abbrev pub invariant-loop-text : goal.invariant-loop-text
invariant-loop-text l = record {
  counted : min (l.total + length (long_strings (drop l.text-index l.texts))) (2 ^ 64 - 1) ≡ min
      (length (long_strings l.texts)) (2 ^ 64 - 1);
  fits : l.total < 2 ^ 64;
}
