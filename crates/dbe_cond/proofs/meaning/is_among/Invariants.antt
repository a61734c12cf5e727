use Rattle.std.proofs.Common.{◌≡◌, drop, option_map}
use Rattle.std.specs.List.{list_any}
use Rattle.dbe_tokens.specs.declared.token.Op.TheVariants.{Eq}
use Rattle.dbe_cond.specs.Meaning.{value_of, compares}
use Rattle.dbe_cond.proofs.meaning.is_among.Given as goal

abbrev pub invariant-loop-operand : goal.invariant-loop-operand
invariant-loop-operand l =
    list_any (λ a. compares Eq (option_map (λ v. v.now) l.value) (value_of a l.item)) (drop l.operand-index l.list) ≡
    list_any (λ a. compares Eq (option_map (λ v. v.now) l.value) (value_of a l.item)) l.list
