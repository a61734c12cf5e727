use Rattle.std.proofs.Common.{◌≡◌, drop}
use Rattle.std.specs.List.{list_any}
use Rattle.dbe_cond.specs.Condition.{members_of}
use Rattle.dbe_cond.specs.Names.{names_of_all}
use Rattle.dbe_fields.specs.Plain.{is_computed}
use Rattle.dbe_session.proofs.computing.+computed.Given as goal

abbrev pub invariant-has_one_computed-loop-member : goal.invariant-has_one_computed-loop-member
invariant-has_one_computed-loop-member l =
    list_any (is_computed l.config) (names_of_all (members_of (drop l.member-index l.members))) ≡ list_any
    (is_computed l.config) (names_of_all (members_of l.members))
