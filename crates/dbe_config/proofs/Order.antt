-- The first of the rules that is broken.
use Rattle.std.proofs.Common.{◌≡◌, Bool, true, false, List, [], ◌∷◌, ◌++◌, Some, None, refl, ap, ◌∙◌, if◌then◌else◌}
use Rattle.dbe_config.specs.declared.fault.ConfigFault.{ConfigFault}
use Rattle.dbe_config.specs.Order.{first_of, AreKept, IsFirst}

later_first : (g : ConfigFault) (rules : List (Bool × ConfigFault)) (fault : ConfigFault) → IsFirst rules fault →
    IsFirst ((false, g) ∷ rules) fault
later_first g rules fault first = record {
  earlier = (false, g) ∷ first.earlier;
  later = first.later;
  place = ap (λ (rs : List (Bool × ConfigFault)). (false, g) ∷ rs) first.place;
  kept = (refl, first.kept);
}

head_first : (t : Bool) (g : ConfigFault) (rules : List (Bool × ConfigFault)) (fault : ConfigFault) →
    (first_of rules ≡ Some fault → IsFirst rules fault)
    → (if t then Some g else first_of rules) ≡ Some fault → IsFirst ((t, g) ∷ rules) fault
head_first true g rules fault others is = let same : g ≡ fault = (cc) in record {
  earlier = [];
  later = rules;
  place =
      ap (λ (f : ConfigFault). (true, f) ∷ rules) same;
  kept = tt;
}
head_first false g rules fault others is = later_first g rules fault (others is)

pub is_first : (rules : List (Bool × ConfigFault)) (fault : ConfigFault) → first_of rules ≡ Some fault →
    IsFirst rules fault
is_first [] fault is = absurd (cc)
is_first (b ∷ rules) fault is = head_first b.0 b.1 rules fault (is_first rules fault) is

first_at : (earlier later : List (Bool × ConfigFault)) (fault : ConfigFault) → AreKept earlier →
    first_of (earlier ++ (true, fault) ∷ later) ≡ Some fault
first_at [] later fault kept = refl
first_at (b ∷ earlier) later fault kept = rw kept.0 (first_at earlier later fault kept.1)

pub only_first : (rules : List (Bool × ConfigFault)) (fault : ConfigFault) → IsFirst rules fault →
    first_of rules ≡ Some fault
only_first rules fault first = ap first_of first.place ∙ first_at first.earlier first.later fault first.kept

head_kept : (t : Bool) (g : ConfigFault) (rules : List (Bool × ConfigFault)) → (first_of rules ≡ None → AreKept rules)
    → (if t then Some g else first_of rules) ≡ None → (t ≡ false) × AreKept rules
head_kept true g rules others is = absurd (cc)
head_kept false g rules others is = (refl, others is)

pub all_kept : (rules : List (Bool × ConfigFault)) → first_of rules ≡ None → AreKept rules
all_kept [] is = tt
all_kept (b ∷ rules) is = head_kept b.0 b.1 rules (all_kept rules) is

pub none_of_kept : (rules : List (Bool × ConfigFault)) → AreKept rules → first_of rules ≡ None
none_of_kept [] kept = refl
none_of_kept (b ∷ rules) kept = rw kept.0 (none_of_kept rules kept.1)
