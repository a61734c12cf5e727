use Rattle.std.proofs.Common.{◌≡◌, ◌∙◌, ap, subst, Some, IfSome}
use Rattle.dbe_values.specs.declared.key.KeySchema.{KeySchema}
use Rattle.dbe_config.specs.Setting.{Setting}
use Rattle.dbe_serve.proofs.Begun.{RanOver-begun, StoppedOver-begun}
use Rattle.dbe_serve.proofs.top.serve_table.Goals as goal

pub returns-in-Ok-clause-done : goal.returns-in-Ok-clause-done
returns-in-Ok-clause-done g c = λ is.
    let P : KeySchema → Type 0 = λ schema. IfSome (g.T.Table.coming c.args.table.now schema) (λ found. g.T.Table.rows
    c.begin.new.self ≡ Some found) in
    let begins = subst P (c.schema.ensures ∙ ap (λ (s : Setting). s.schema) c.config.ensures) c.in-Ok.ensures.rows in
    RanOver-begun c.args.session.now _ _ _ _ _ _ _ _ begins c.in-Ok.ensures.given (c.serve_lines.ensures.done is)

pub returns-in-Ok-clause-stopped : goal.returns-in-Ok-clause-stopped
returns-in-Ok-clause-stopped g c = λ ne _.
    let P : KeySchema → Type 0 = λ schema. IfSome (g.T.Table.coming c.args.table.now schema) (λ found. g.T.Table.rows
    c.begin.new.self ≡ Some found) in
    let begins = subst P (c.schema.ensures ∙ ap (λ (s : Setting). s.schema) c.config.ensures) c.in-Ok.ensures.rows in
    StoppedOver-begun c.args.session.now _ _ _ _ _ _ _ _ begins c.in-Ok.ensures.given c.serve_lines.result
    (c.serve_lines.ensures.stopped ne)
