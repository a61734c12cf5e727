use Rattle.std.proofs.Common.{ap, sym, ◌∙◌, map, length}
use Rattle.dbe_config.specs.Rules.{is_not_built}
use Rattle.dbe_item.proofs.Recipients.{drawn_are, item_wraps_are}
use Rattle.dbe_item.proofs.wraps.item_wraps.Goals as goal

pub wrap_all-requires : goal.wrap_all-requires
wrap_all-requires c = drawn_are c.args.rings.now c.raw.result.now (length c.args.drawn.now)
    (length c.split_at.result.1.now) (ap is_not_built (sym c.config.ensures) ∙ c.keeps_built.ensures) c.raw.ensures
    c.requires.drawn c.split_at.ensures.back_len

pub returns-clause-edks : goal.returns-clause-edks
returns-clause-edks c = c.in_ok-wraps.ensures.edks ∙ ap (map (λ x. x.edk)) (item_wraps_are c.args.rings.now
    c.args.drawn.now c.args.item.now c.raw.result.now c.deref.result.now c.in_ok-context.context.items
    c.part-data_key.result
    c.split_at.result.1.now (ap is_not_built (sym c.config.ensures) ∙ c.keeps_built.ensures) c.raw.ensures
    c.deref.ensures.value c.in_ok-context.ensures c.part-data_key.ensures c.split_at.ensures.back)

pub returns-clause-signing : goal.returns-clause-signing
returns-clause-signing c = c.in_ok-wraps.ensures.signing ∙ ap (map (λ x. x.signing)) (item_wraps_are c.args.rings.now
    c.args.drawn.now c.args.item.now c.raw.result.now c.deref.result.now c.in_ok-context.context.items
    c.part-data_key.result c.split_at.result.1.now (ap is_not_built (sym c.config.ensures) ∙ c.keeps_built.ensures)
    c.raw.ensures c.deref.ensures.value c.in_ok-context.ensures c.part-data_key.ensures c.split_at.ensures.back)
