use Rattle.std.proofs.Common.{◌≡◌, ℕ, ◌≤◌, take}
use Rattle.dbe_tokens.specs.Deep.{open_after}
use Rattle.dbe_tokens.proofs.deep.opens_too_many.Given as goal

abbrev pub invariant-loop-token : goal.invariant-loop-token
invariant-loop-token l = record {
  so_far : l.open ≡ open_after 0 (take l.token-index l.tokens);
  below : (k : ℕ) → k ≤ l.token-index → open_after 0 (take k l.tokens) ≤ 64;
}
