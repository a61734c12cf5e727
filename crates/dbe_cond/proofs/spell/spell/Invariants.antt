use Rattle.std.proofs.Common.{◌≡◌, ◌≤◌, ◌++◌, false, drop, string_bytes}
use Rattle.dbe_cond.specs.Printed.{tokens_text}
use Rattle.dbe_cond.proofs.spell.spell.Given as goal

abbrev pub invariant-loop-token : goal.invariant-loop-token
invariant-loop-token l = record {
  so_far : string_bytes l.text ++ tokens_text l.names l.values l.behind (drop l.token-index l.tokens) ≡ tokens_text 0
      0 false l.tokens;
  few_names : l.names ≤ l.token-index;
  few_values : l.values ≤ l.token-index;
}
