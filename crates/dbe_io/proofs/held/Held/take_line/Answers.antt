use Rattle.std.proofs.Common.{◌≡◌, ◌+◌, ◌-◌, length, slice_range, arith}
use Rattle.dbe_io.proofs.Blocks.{takes_line, after_partial}
use Rattle.dbe_io.proofs.held.Held.take_line.Goals as goal

pub overflow_sub-end : goal.overflow_sub-end
overflow_sub-end c =
    let ends = rw (← c.self.view_is) at c.requires in
    omega (
      arith,
      after_partial c.self.inside.partial.items (slice_range c.self.inside.block.items c.self.inside.start
          c.self.inside.end) _ c.self.invariant.searched ends,
      c.self.inside.partial.ok.0,
    )

pub returns-clause-ok : goal.returns-clause-ok
returns-clause-ok c =
    let ends = rw (← c.self.view_is) at c.requires in
    let place : c.self.inside.start + (c.args.at - c.len.result) ≡ c.self.inside.start +
    (c.args.at - length c.self.inside.partial.items) = omega (arith, c.self.inside.partial.ok.0) in
    let t = takes_line _ _ _ _ _ _ c.self.invariant.searched c.self.invariant.order c.self.invariant.within ends place
    in
    rw (c.in_ok-line.ensures.empty, c.in_ok-line.ensures.ok, ← c.self.view_is, c.deref.ensures.value) t.whole

pub returns-clause-line : goal.returns-clause-line
returns-clause-line c =
    let ends = rw (← c.self.view_is) at c.requires in
    let place : c.self.inside.start + (c.args.at - c.len.result) ≡ c.self.inside.start +
    (c.args.at - length c.self.inside.partial.items) = omega (arith, c.self.inside.partial.ok.0) in
    let t = takes_line _ _ _ _ _ _ c.self.invariant.searched c.self.invariant.order c.self.invariant.within ends place
    in
    rw (c.in_ok-line.ensures.ok, ← c.self.view_is, c.deref.ensures.value) t.line
