use Rattle.dbe_cond.proofs.Placed.{given_there, given_gap}
use Rattle.std.proofs.Common.{◌∙◌, sym, ap, Some}
use Rattle.dbe_cond.proofs.placeholders.given.Goals as goal

pub returns-in-Ok : goal.returns-in-Ok
returns-in-Ok g c = ap (λ x. Some x.1) (sym c.index-entries-i.is) ∙
    sym (given_there c.args.entries.now c.args.placeholder.now c.in-Ok.i c.index-entries-i.result c.requires
    c.in-Ok.ensures.there c.index-entries-i.is)

pub returns-in-Err : goal.returns-in-Err
returns-in-Err g c = sym (given_gap c.args.entries.now c.args.placeholder.now c.in-Err.field-0 c.in-Err.ensures.gap)
