use Rattle.std.proofs.Common.{ap, subst, sym, ◌∙◌, ◌≤◌, length, []}
use Rattle.dbe_config.specs.Rules.{is_not_built}
use Rattle.dbe_item.proofs.Recipients.{edks_are}
use Rattle.dbe_item.proofs.SealedRow.{head_is, uncommitted_is}
use Rattle.dbe_item.proofs.head.sealed_head.Goals as goal

pub uncommitted-requires : goal.uncommitted-requires
uncommitted-requires c = record {
  legend = c.requires.rules;
  edks = edks_are c.args.rings.now c.args.drawn.now c.args.item.now c.in_ok-wraps.wraps.edks.items
      (ap is_not_built (sym c.config-config.ensures) ∙ c.keeps_built.ensures) c.requires.recipients
      (subst (λ s. length s.recipients ≤ 8) c.config-config.ensures c.keeps_few_recipients.ensures)
      c.in_ok-wraps.ensures.each c.in_ok-wraps.ensures.edks;
}

pub returns-clause-bytes : goal.returns-clause-bytes
returns-clause-bytes c = head_is c.args.rings.now c.args.drawn.now c.args.item.now c.in_ok-header.header
    c.args.keys.now c.in_ok-bytes.bytes.items (uncommitted_is c.args.rings.now c.config-config.result.now
    c.args.drawn.now c.args.item.now c.part.result c.args.legend.items c.in_ok-wraps.wraps.edks.items _
    c.config-config.ensures c.part.ensures c.requires.legend c.in_ok-wraps.ensures.edks c.in_ok-header.ensures)
    (c.commitment_last.ensures.apart c.in_ok-header.header []) c.requires.keys c.in_ok-bytes.ensures

pub returns-clause-legend : goal.returns-clause-legend
returns-clause-legend c = ap (λ x. x.legend) c.in_ok-header.ensures
