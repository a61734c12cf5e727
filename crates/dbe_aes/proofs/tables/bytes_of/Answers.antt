use Rattle.std.proofs.Common.{ℕ, ◌+◌, ◌*◌, refl}
use Rattle.dbe_aes.specs.Columns.{columns}
use Rattle.dbe_aes.specs.Words.{word_bytes}
use Rattle.dbe_aes.proofs.Lanes.{byte_0, byte_1, byte_2, byte_3, next_word}
use Rattle.dbe_aes.proofs.tables.bytes_of.Goals as goal

pub returns : goal.returns
unfolding columns word_bytes
returns c =
    let t : ℕ = c.args.d + 4294967296 * 0 in
    let z : ℕ = c.args.c + 4294967296 * t in
    let y : ℕ = c.args.b + 4294967296 * z in
    rw (
      byte_0 c.args.a y,
      byte_1 c.args.a y,
      byte_2 c.args.a y,
      byte_3 c.args.a y,
      next_word c.args.a y c.ranges.a.fits,
      byte_0 c.args.b z,
      byte_1 c.args.b z,
      byte_2 c.args.b z,
      byte_3 c.args.b z,
      next_word c.args.b z c.ranges.b.fits,
      byte_0 c.args.c t,
      byte_1 c.args.c t,
      byte_2 c.args.c t,
      byte_3 c.args.c t,
      next_word c.args.c t c.ranges.c.fits,
      byte_0 c.args.d 0,
      byte_1 c.args.d 0,
      byte_2 c.args.d 0,
      byte_3 c.args.d 0,
    ) refl
