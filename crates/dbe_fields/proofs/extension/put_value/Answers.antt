use Rattle.std.proofs.Common.{sym, ◌∙◌}
use Rattle.dbe_fields.proofs.Named.{computed_name}
use Rattle.dbe_fields.proofs.extension.put_value.Goals as goal

pub put_computed-requires-clause-named : goal.put_computed-requires-clause-named
put_computed-requires-clause-named c = computed_name c.args.config.now c.args.name.now c.keeps_bounds.ensures
    (sym c.is_computed.ensures ∙ c.if-is_computed.true)
