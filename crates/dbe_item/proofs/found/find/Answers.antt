use Rattle.std.proofs.Common.{◌≡◌, ◌∙◌, refl}
use Rattle.dbe_item.specs.Opens.{row_context}
use Rattle.dbe_item.proofs.Finding.{same_context, seeks_in, seeks_none}
use Rattle.dbe_item.proofs.found.find.Goals as goal

pub returns-in-Some-clause-found : goal.returns-in-Some-clause-found
returns-in-Some-clause-found c =
    let context : c.deref.result.now ≡ row_context c.args.rings.now c.args.row.now c.args.frame.now.header =
    c.deref.ensures.value ∙ same_context c.args.rings.now c.args.row.now c.args.frame.now.header c.config.result.now _
    c.context.result.now c.in_ok-context.context.items c.in_ok-context.ensures c.config.ensures c.requires.key
    c.context.ensures in
    seeks_in c.args.rings.now c.args.row.now c.args.frame.now.header c.raw.result.now c.deref.result.now
    c.edks.result.now c.raw.ensures context c.edks.ensures c.in-Some.sought.place c.in-Some.sought.data_key.key
    c.in-Some.sought.data_key.signing c.in-Some.ensures.found

pub returns-clause-fault : goal.returns-clause-fault
returns-clause-fault c =
    let context : c.deref.result.now ≡ row_context c.args.rings.now c.args.row.now c.args.frame.now.header =
    c.deref.ensures.value ∙ same_context c.args.rings.now c.args.row.now c.args.frame.now.header c.config.result.now _
    c.context.result.now c.in_ok-context.context.items c.in_ok-context.ensures c.config.ensures c.requires.key
    c.context.ensures in (
      c.args.frame.now.header,
      c.args.frame.now.tags.items,
      c.requires.framed,
      seeks_none c.args.rings.now
          c.args.row.now c.args.frame.now.header c.raw.result.now c.deref.result.now c.edks.result.now c.raw.ensures
          context c.edks.ensures (c.in-None.ensures.none refl),
    )
