use Rattle.std.proofs.Common.{sym}
use Rattle.dbe_frame.proofs.Entries.{unsigned_more, signed_more}
use Rattle.dbe_frame.proofs.signed.signed_among.Goals as goal

pub loop-i-preserved-then-is_unsigned : goal.loop-i-preserved-then-is_unsigned
loop-i-preserved-then-is_unsigned c = unsigned_more c.args.config.now c.args.row.now c.loop-i.i _ c.loop-i.names.items
    c.at.ensures (sym c.if-is_unsigned.ensures) c.loop-i.invariant

pub loop-i-preserved : goal.loop-i-preserved
loop-i-preserved c = signed_more c.args.config.now c.args.row.now c.loop-i.i _ c.loop-i.names.items
    c.push.new.self.items _ c.at.ensures (sym c.if-is_unsigned.ensures) c.loop-i.invariant c.in_ok-copy.ensures
    c.in_ok-push.ensures.items
