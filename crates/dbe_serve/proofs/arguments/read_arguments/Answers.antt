use Rattle.dbe_serve.proofs.ArgumentsRead.{AreReadTo-more, AreReadTo-all}
use Rattle.dbe_serve.proofs.arguments.read_arguments.Goals as goal

pub returns-in-None-clause-ok : goal.returns-in-None-clause-ok
returns-in-None-clause-ok g c = λ told given. AreReadTo-all told _ _ (c.places.invariant told given)
    ((rw c.in-None.is at c.in_ok-argument.ensures.ok) told given)

pub places-preserved : goal.places-preserved
places-preserved g c = λ told given.
    AreReadTo-more told _ _ _ c.in-Some.argument (c.places.invariant told given)
    ((rw c.in-Some.is at c.in_ok-argument.ensures.ok) told given) (rw c.if-is_err.ensures.negation at
    c.push.ensures.items)
