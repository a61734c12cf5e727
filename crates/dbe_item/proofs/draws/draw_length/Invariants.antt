use Rattle.std.proofs.Common.{◌≡◌, ◌+◌, ◌*◌, ◌≤◌, take}
use Rattle.std.specs.Prelude.{sum_by}
use Rattle.dbe_item.specs.Sealed.{recipient_draws}
use Rattle.dbe_item.proofs.draws.draw_length.Given as goal

abbrev pub invariant-loop-recipient : goal.invariant-loop-recipient
invariant-loop-recipient l = record {
  sum : l.length ≡ 64 + sum_by recipient_draws (take l.recipient-index l.recipients);
  small : l.length ≤ 64 + 60 * l.recipient-index;
}
