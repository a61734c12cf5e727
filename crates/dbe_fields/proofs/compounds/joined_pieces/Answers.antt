use Rattle.std.proofs.Common.{◌++◌, string_bytes, filter_map, drop, ap, ◌∙◌, ◌+◌}
use Rattle.dbe_fields.specs.Compounds.{present}
use Rattle.dbe_fields.proofs.Joining.{rest_of, entry_present, entry_absent}
use Rattle.dbe_fields.proofs.compounds.joined_pieces.Goals as goal
use Rattle.dbe_fields.proofs.compounds.joined_pieces.Goals.{in-Some+in_ok-push_piece-in-Some, in-None}

pub loop-entry-preserved : goal.loop-entry-preserved
loop-entry-preserved c =
    let f = present c.args.parts.now c.args.texts.now in
    let rest = filter_map f (drop (c.loop-entry.entry-index + 1) c.args.entries.now) in
    elim c.match-present.branch [
      | in-Some+in_ok-push_piece-in-Some w ↦
          ap (λ t. string_bytes t ++ rest_of c.args.split c.match-present.gap rest) w.text-is ∙
          ap (λ g. string_bytes w.push_piece.new.text ++ rest_of c.args.split g rest) w.gap-is
          ∙ entry_present c.args.split c.loop-entry.gap f c.args.entries.now c.loop-entry.entry-index
          c.entry-item.result c.loop-entry-test.true c.entry-item.is _ (string_bytes c.loop-entry.text)
          (string_bytes w.push_piece.new.text) _ w.in-Some.ensures w.in_ok-push_piece-in-Some.ensures
          c.loop-entry.invariant
      | in-None w ↦
          ap (λ t. string_bytes t ++ rest_of c.args.split c.match-present.gap rest) w.text-is ∙
          ap (λ g. string_bytes c.loop-entry.text ++ rest_of c.args.split g rest) w.gap-is
          ∙ entry_absent c.args.split c.loop-entry.gap f c.args.entries.now c.loop-entry.entry-index
          c.entry-item.result c.loop-entry-test.true c.entry-item.is _ (string_bytes c.loop-entry.text)
          w.in-None.ensures c.loop-entry.invariant
    ]
