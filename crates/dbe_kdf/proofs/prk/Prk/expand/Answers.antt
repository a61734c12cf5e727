use Rattle.std.proofs.Common.{◌≡◌, ◌+◌, ◌*◌, ◌-◌, length, ◌∙◌, arith, rules}
use Rattle.std.proofs.lemmas.List.{take_all}
use Rattle.dbe_kdf.specs.Hkdf.{hkdf_block}
use Rattle.dbe_kdf.specs.Keyed.{IsKeyed512}
use Rattle.dbe_kdf.proofs.Filling.{hkdf_block_none, hkdf_blocks_none, hkdf_block_next, filled_more, filled_all}
use Rattle.dbe_kdf.proofs.prk.Prk.expand.Goals as goal

pub loop-i-init : goal.loop-i-init
loop-i-init c = record { fits = omega arith; last = rw hkdf_block_none; done = rw hkdf_blocks_none (search rules) }

pub loop-i-preserved : goal.loop-i-preserved
loop-i-preserved c =
    let key = c.args.self.now in
    let info = c.args.info.now in
    let i = c.loop-i.i in
    let keyed : IsKeyed512 c.self.inside.hashers key = rw c.self.view_is at c.self.invariant in
    let made = c.block-last.ensures key keyed in
    let block : c.block-last.result ≡ hkdf_block key info (i + 1) = rw (
      hkdf_block_next key info i,
      ← c.loop-i.invariant.last,
    ) made in
    record {
      fits = omega arith;
      last = take_all 64 c.block-last.result (omega arith) ∙ block;
      done = filled_more key info c.loop-i.out c.block-last.result c.copy_from_slice.new.self i
          (c.min-end.result - 64 * i) c.loop-i.invariant.done (omega arith) block (omega arith) (omega arith)
          c.copy_from_slice.ensures.after;
    }

pub returns : goal.returns
returns c = filled_all c.args.self.now c.args.info.now c.loop-i.out (length c.args.out.now) c.loop-i.i
    c.loop-i.invariant.done (omega arith) (omega arith)
