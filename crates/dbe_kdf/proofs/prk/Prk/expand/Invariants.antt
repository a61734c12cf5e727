use Rattle.std.proofs.Common.{◌≡◌, ◌≤◌, ◌*◌, take, length}
use Rattle.dbe_kdf.specs.Hkdf.{hkdf_block, hkdf_blocks}
use Rattle.dbe_kdf.proofs.prk.Prk.expand.Given as goal

abbrev pub invariant-loop-i : goal.invariant-loop-i
invariant-loop-i l = record {
  fits : l.last_len ≤ 64;
  last : take l.last_len l.last ≡ hkdf_block l.fn.self l.info l.i;
  done : take (64 * l.i) l.out ≡ take (length l.out) (hkdf_blocks l.fn.self l.info l.i);
}
