use Rattle.std.proofs.Common.{◌≡◌, ◌+◌, ◌*◌, arith, sym, ◌∙◌}
use Rattle.dbe_gcm.proofs.Nibbles.{entries_more, raised_four, raised-none}
use Rattle.dbe_gcm.proofs.table.fill_table.Goals as goal

pub loop-i-init : goal.loop-i-init
loop-i-init c = record { entries = λ k lt. absurd (omega arith); power = sym (raised-none c.args.h) }

pub loop-n-preserved : goal.loop-n-preserved
loop-n-preserved c =
    let next : 16 * c.loop-i.i + (c.loop-n.n + 1) ≡ 16 * c.loop-i.i + c.loop-n.n + 1 = omega arith in
    rw next (entries_more c.args.h c.loop-n.table c.row-row.result c.loop-i.power c.loop-i.i c.loop-n.n (omega arith)
    (omega arith) c.row-row.ensures c.loop-i.invariant.power c.loop-n.invariant)

pub loop-i-preserved : goal.loop-i-preserved
loop-i-preserved c =
    record {
      entries = λ k lt. c.loop-n.invariant k (omega arith);
      power = c.next_row-power.ensures ∙ raised_four c.args.h c.loop-i.power c.loop-i.i c.loop-i.invariant.power;
    }
