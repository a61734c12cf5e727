use Rattle.std.proofs.Common.{◌≡◌, drop}
use Rattle.dbe_cond.specs.Given.{not_given}
use Rattle.dbe_cond.specs.Placeholders.{value_placeholders}
use Rattle.dbe_cond.proofs.unknown.unknown_value.Given as goal

abbrev pub invariant-loop-token : goal.invariant-loop-token
invariant-loop-token l = not_given l.values (value_placeholders l.text (drop l.token-index l.tokens)) ≡ not_given
    l.values (value_placeholders l.text l.tokens)
