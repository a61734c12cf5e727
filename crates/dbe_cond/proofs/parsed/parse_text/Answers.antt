use Rattle.std.proofs.Common.{◌≡◌, length, get_or}
use Rattle.dbe_grammar.specs.Reading.{IsMisfit}
use Rattle.dbe_cond.proofs.Readings.{syntax_at}
use Rattle.dbe_cond.proofs.parsed.parse_text.Goals as goal

pub returns-clause-refused : goal.returns-clause-refused
returns-clause-refused c = λ names values.
    let misfit : IsMisfit c.deref-2.result.now c.in-Err-Syntax.at =
    rw c.in-Err-Syntax.field-0-is at c.in-Err-Syntax.ensures.misfit in
    let offset : c.start_of.result ≡ get_or c.deref-in-Err-Syntax.result.now c.in-Err-Syntax.at
    (length c.args.text.now) = c.start_of.ensures in
    syntax_at c.args.text.now c.in-Ok.found.tokens.items c.deref.result.now c.deref-2.result.now
    c.in-Ok.found.starts.items c.deref-in-Err-Syntax.result.now c.is_too_deep.result c.in-Err-Syntax.at
    c.start_of.result
    c.if-text-gt4096.false c.in-Ok.ensures.found c.deref.ensures.value c.if-is_too_deep.false c.is_too_deep.ensures
    c.deref-2.ensures.value misfit c.deref-in-Err-Syntax.ensures.value offset
