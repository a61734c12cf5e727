use Rattle.std.proofs.Common.{ap, sym, ◌∙◌}
use Rattle.std.specs.Str.{bytes_eq}
use Rattle.dbe_canon.proofs.ReadLeaves.{number_some, number_none}
use Rattle.dbe_canon.proofs.leaves.number_in.Goals as goal

pub returns-in_default : goal.returns-in_default
returns-in_default c = number_none c.args.bytes.now c.in_default.ensures.cases.0

pub returns-then-eq : goal.returns-then-eq
returns-then-eq c = number_some c.args.bytes.now c.in-Ok.text.now _ c.in-Ok-parse.number c.in-Ok.ensures.cases.1
    c.in-Ok.ensures.cases.0 c.in-Ok-parse.ensures c.in_ok-text-in-Ok-parse.ensures
    (ap (λ y. bytes_eq y c.args.bytes.now) (sym c.as_bytes-in-Ok-parse.ensures) ∙ sym c.eq.ensures ∙ c.if-eq.true)
