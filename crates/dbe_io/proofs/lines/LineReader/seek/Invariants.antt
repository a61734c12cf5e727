use Rattle.std.proofs.Common.{◌≡◌, ◌⊎◌}
use Rattle.dbe_io.specs.Lines.{HasNone}
use Rattle.dbe_io.specs.Steps.{Took, reads_left}
use Rattle.dbe_io.proofs.lines.LineReader.seek.Given as goal

abbrev pub invariant-pieces : goal.invariant-pieces
invariant-pieces g l = record {
  took : Took l.fn.self l.self (g.S.Source.left l.fn.source) (g.S.Source.left l.source);
  faults : g.S.Source.faults l.source ≡ g.S.Source.faults l.fn.source;
  asked : (l.source ≡ l.fn.source) ⊎ HasNone 10 l.fn.self.held;
}

abbrev pub decreases-pieces : goal.decreases-pieces
decreases-pieces g l = reads_left l.self
