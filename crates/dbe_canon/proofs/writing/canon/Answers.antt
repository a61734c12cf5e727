use Rattle.std.proofs.Common.{◌≡◌, [], ◌++◌, ap, ◌∙◌, rules, arith}
use Rattle.dbe_values.specs.View.{view}
use Rattle.dbe_canon.specs.Canon.{canon_of}
use Rattle.dbe_canon.proofs.Answered.{written_canon}
use Rattle.dbe_canon.proofs.writing.canon.Goals as goal

pub returns-clause-canon : goal.returns-clause-canon
returns-clause-canon c =
    let none : c.new-out.result.items ≡ [] = search rules in
    λ h. written_canon 32 (view c.args.value.now) c.put_value.new.out.items (c.in_ok-put_value.ensures ∙
    ap (λ y. y ++ canon_of (view c.args.value.now)) none) (omega arith) h
