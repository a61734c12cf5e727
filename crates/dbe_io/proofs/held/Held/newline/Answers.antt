use Rattle.std.proofs.Common.{◌≡◌, ◌+◌, length, arith}
use Rattle.dbe_io.proofs.Blocks.{none_found, found_at}
use Rattle.dbe_io.proofs.held.Held.newline.Goals as goal

pub returns-in-None : goal.returns-in-None
returns-in-None c = rw (← c.self.view_is, ← c.deref.ensures.value) (none_found _ _ c.self.invariant.searched
    c.in-None.ensures)

pub returns-in-Some : goal.returns-in-Some
returns-in-Some c =
    let place : length c.self.inside.partial.items + c.in-Some.at ≡ c.len.result + c.in-Some.at =
    omega (arith, c.self.inside.partial.ok.0) in
    rw (← c.self.view_is, ← place, ← c.deref.ensures.value) (found_at _ _ _ c.self.invariant.searched
    c.in-Some.ensures.0 c.in-Some.ensures.1)
