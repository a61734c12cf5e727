use Rattle.std.proofs.Common.{refl}
use Rattle.dbe_item.proofs.Finding.{found_of, tagged, untagged, root_of}
use Rattle.dbe_item.proofs.found.verify.Goals as goal

pub returns-in_default-clause-fault : goal.returns-in_default-clause-fault
returns-in_default-clause-fault c =
    let f = found_of c.args.frame.now.header c.args.frame.now.tags.items c.in-Ok.sought.place
    c.in-Ok.sought.data_key.key c.in-Ok.sought.data_key.signing in
    (f, record { framed = c.requires.framed; seeks = c.in-Ok.ensures.found }, c.in_default.ensures.none refl)

pub returns-then-not-branch-clause-fault : goal.returns-then-not-branch-clause-fault
returns-then-not-branch-clause-fault c =
    let f = found_of c.args.frame.now.header c.args.frame.now.tags.items c.in-Ok.sought.place
    c.in-Ok.sought.data_key.key c.in-Ok.sought.data_key.signing in (
      f,
      record { framed = c.requires.framed; seeks = c.in-Ok.ensures.found },
      c.in-Some.ensures.some,
      untagged
          c.args.rings.now c.config.result.now c.args.row.now f c.in_ok-is_tagged.field-0 c.config.ensures
          c.in_ok-is_tagged.ensures c.if-not-branch.true,
    )

pub returns-clause-signed : goal.returns-clause-signed
returns-clause-signed c =
    let f = found_of c.args.frame.now.header c.args.frame.now.tags.items c.in-Ok.sought.place
    c.in-Ok.sought.data_key.key c.in-Ok.sought.data_key.signing in
    record {
      by = f;
      signed = record {
        found = record { framed = c.requires.framed; seeks = c.in-Ok.ensures.found };
        committed = c.in-Some.ensures.some;
        tagged = tagged c.args.rings.now c.config.result.now c.args.row.now f c.in_ok-is_tagged.field-0
            c.config.ensures c.in_ok-is_tagged.ensures c.if-not-branch.false;
      };
      header_found = refl;
      place_found = refl;
      root_found = root_of c.in-Ok.sought.data_key.key c.args.frame.now.header.message_id c.in-Some.keys
          c.in-Some.ensures.keys;
    }
