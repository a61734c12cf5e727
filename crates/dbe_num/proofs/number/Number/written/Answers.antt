use Rattle.std.proofs.Common.{◌∙◌}
use Rattle.dbe_num.proofs.Written.{ascii_written}
use Rattle.dbe_num.proofs.number.Number.written.Goals as goal

pub returns-clause-ascii : goal.returns-clause-ascii
returns-clause-ascii c =
    ascii_written c.self.inside.digits c.saturating_sub-leading.result c.from-trailing.result _ _ c.deref.result.now _
    _ c.new-text.ensures.bytes c.in_ok-push_zeros.ensures (c.deref.ensures ∙ c.in_ok-digits.ensures.ok)
    c.in_ok-push_str.ensures.bytes c.in_ok-push_zeros-2.ensures c.self.invariant.1.few
