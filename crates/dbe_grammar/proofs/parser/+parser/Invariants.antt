use Rattle.std.proofs.Common.{◌<◌, length, ◌+◌, ◌*◌}
use Rattle.dbe_grammar.specs.Form.{members_of}
use Rattle.dbe_grammar.proofs.Chains.{AndsSoFar, OrsSoFar}
use Rattle.dbe_grammar.proofs.parser.+parser.Given as goal

abbrev pub decreases-and_list : goal.decreases-and_list
decreases-and_list l = 5 * length l.tokens.now + 1

abbrev pub decreases-group : goal.decreases-group
decreases-group l = 5 * length l.tokens.now + 3

abbrev pub decreases-negated : goal.decreases-negated
decreases-negated l = 5 * length l.tokens.now + 3

abbrev pub decreases-factor : goal.decreases-factor
decreases-factor l = 5 * length l.tokens.now

abbrev pub decreases-or_list : goal.decreases-or_list
decreases-or_list l = 5 * length l.tokens.now + 2

abbrev pub invariant-and_list-loop-found : goal.invariant-and_list-loop-found
invariant-and_list-loop-found l = record {
  so_far : AndsSoFar l.tokens (members_of l.members) l.rest;
  shorter : length l.rest < length l.tokens;
}

abbrev pub decreases-and_list-loop-found : goal.decreases-and_list-loop-found
decreases-and_list-loop-found l = length l.rest

abbrev pub invariant-or_list-loop-found : goal.invariant-or_list-loop-found
invariant-or_list-loop-found l = record {
  so_far : OrsSoFar l.tokens (members_of l.members) l.rest;
  shorter : length l.rest < length l.tokens;
}

abbrev pub decreases-or_list-loop-found : goal.decreases-or_list-loop-found
decreases-or_list-loop-found l = length l.rest
