use Rattle.std.proofs.Common.{rules, ◌∙◌, sym, ap, arith}
use Rattle.serde_json.specs.Data.{object}
use Rattle.serde_json.proofs.Views.{view-Object}
use Rattle.dbe_lines.proofs.Named.{with_names_put, with_names_end}
use Rattle.dbe_lines.proofs.conditions.names_value.Goals as goal

pub loop-i-preserved : goal.loop-i-preserved
loop-i-preserved c =
    with_names_put _ c.insert.new.self.entries c.args.names.now c.loop-i.i _ c.at.result.1.now _ _ c.at.ensures
    (search rules) (search rules) c.in_ok-insert.ensures.entries c.loop-i.invariant

pub returns : goal.returns
returns c = view-Object c.loop-i.map ∙ ap object (sym (with_names_end _ _ c.loop-i.i (omega arith)) ∙
    c.loop-i.invariant)
