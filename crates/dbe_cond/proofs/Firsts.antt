-- The first name with a prefix among those of a condition and of the conditions after it.
use Rattle.std.proofs.Common.{◌≡◌, ℕ, List, ◌∷◌, Option, nat_eq, ap, sym, ◌∙◌}
use Rattle.std.specs.List.{starts_with}
use Rattle.std.specs.Option.{option_or}
use Rattle.std.proofs.lemmas.List.Folds.{find-append}
use Rattle.dbe_cond.specs.declared.cond.Cond.{Cond}
use Rattle.dbe_cond.specs.Condition.{Condition, Conditions, some, condition_of, members_of}
use Rattle.dbe_cond.specs.Names.{first_with, names_of, names_of_all}

pub first_of_members : (prefix : List ℕ) (c : Condition) (cs : Conditions) →
    first_with prefix (names_of_all (some c cs)) ≡ option_or (first_with prefix (names_of c))
    (first_with prefix (names_of_all cs))
first_of_members prefix c cs =
    find-append (λ name. starts_with nat_eq name prefix) (names_of c) (names_of_all cs)

-- with what the first of them has
pub first_after : (prefix : List ℕ) (c : Cond) (rest later : List Cond) (first whole : Option (List ℕ)) →
    later ≡ c ∷ rest → first ≡ first_with prefix (names_of (condition_of c)) →
    first_with prefix (names_of_all (members_of later)) ≡ whole →
    option_or first (first_with prefix (names_of_all (members_of rest))) ≡ whole
first_after prefix c rest later first whole split found kept =
    ap (λ o. option_or o (first_with prefix (names_of_all (members_of rest)))) found ∙
    sym (first_of_members prefix (condition_of c) (members_of rest)) ∙
    ap (λ cs. first_with prefix (names_of_all (members_of cs))) (sym split) ∙ kept
