use Rattle.std.proofs.Common.{◌≤◌, ◌-◌, length}
use Rattle.dbe_tokens.specs.Text.{AreTokens}
use Rattle.dbe_tokens.proofs.cutting.cut.Given as goal

abbrev pub invariant-loop-first : goal.invariant-loop-first
invariant-loop-first l = record {
  so_far : AreTokens 0 l.text l.tokens.items l.starts.items (length l.text - length l.rest) l.rest;
  within : length l.rest ≤ length l.text;
}

abbrev pub decreases-loop-first : goal.decreases-loop-first
decreases-loop-first l = length l.rest
