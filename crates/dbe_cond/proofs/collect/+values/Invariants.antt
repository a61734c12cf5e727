use Rattle.std.proofs.Common.{◌≡◌, ◌++◌, ◌+◌, ◌*◌, drop}
use denote.Param.Weighed.{most}
use Rattle.dbe_cond.proofs.cond.Cond.TheLaws.{the_size}
use Rattle.dbe_cond.specs.Condition.{members_of}
use Rattle.dbe_cond.specs.Values.{values_of_all}
use Rattle.dbe_cond.proofs.collect.+values.Given as goal

abbrev pub invariant-push_members_values-loop-member : goal.invariant-push_members_values-loop-member
invariant-push_members_values-loop-member l =
    l.out.items ++ values_of_all (members_of (drop l.member-index l.members)) ≡ l.fn.out.items ++ values_of_all
    (members_of l.members)

abbrev pub decreases-push_values : goal.decreases-push_values
decreases-push_values l = 2 * the_size l.cond.now

abbrev pub decreases-push_members_values : goal.decreases-push_members_values
decreases-push_members_values l = 2 * most the_size l.members.now + 1
