use Rattle.std.proofs.Common.{◌≡◌, ◌++◌, drop}
use Rattle.dbe_cond.specs.Condition.{members_of}
use Rattle.dbe_cond.specs.Names.{names_of_all}
use Rattle.dbe_cond.proofs.collect.+names.Given as goal

abbrev pub invariant-push_members_names-loop-member : goal.invariant-push_members_names-loop-member
invariant-push_members_names-loop-member l = l.out.items ++ names_of_all (members_of (drop l.member-index l.members))
    ≡ l.fn.out.items ++ names_of_all (members_of l.members)
