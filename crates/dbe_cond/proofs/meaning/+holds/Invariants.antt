use Rattle.std.proofs.Common.{◌≡◌, drop}
use Rattle.dbe_cond.specs.Condition.{members_of}
use Rattle.dbe_cond.specs.Meaning.{all_hold, one_holds}
use Rattle.dbe_cond.proofs.meaning.+holds.Given as goal

abbrev pub invariant-all_hold-loop-member : goal.invariant-all_hold-loop-member
invariant-all_hold-loop-member l =
    all_hold (members_of (drop l.member-index l.members)) l.item ≡ all_hold (members_of l.members) l.item

abbrev pub invariant-one_holds-loop-member : goal.invariant-one_holds-loop-member
invariant-one_holds-loop-member l =
    one_holds (members_of (drop l.member-index l.members)) l.item ≡ one_holds (members_of l.members) l.item
