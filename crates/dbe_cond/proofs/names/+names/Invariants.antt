use Rattle.std.proofs.Common.{◌≡◌, drop}
use Rattle.dbe_cond.specs.Condition.{members_of}
use Rattle.dbe_cond.specs.Names.{names_of_all, first_with}
use Rattle.dbe_cond.proofs.names.+names.Given as goal

abbrev pub invariant-in_members-loop-member : goal.invariant-in_members-loop-member
invariant-in_members-loop-member l =
    first_with l.prefix (names_of_all (members_of (drop l.member-index l.members))) ≡ first_with l.prefix
    (names_of_all (members_of l.members))
