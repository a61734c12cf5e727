use Rattle.std.proofs.Common.{string_bytes, sym, ◌∙◌}
use Rattle.dbe_fields.specs.Virtuals.{part_chars}
use Rattle.dbe_fields.proofs.Joining.{part_more}
use Rattle.dbe_fields.proofs.virtuals.virtual_text.Goals as goal

pub loop-part-preserved : goal.loop-part-preserved
loop-part-preserved c =
    part_more (part_chars c.args.item.now) c.args.parts.now c.loop-part.part-index c.part-item.result
    (string_bytes c.loop-part.text) (string_bytes c.push_onto.new.text) c.in-Some.characters _
    c.loop-part-test.true c.part-item.is
    (sym c.in-Some.is ∙ c.in_ok-characters.ensures) c.in_ok-push_onto-in-Some.ensures c.loop-part.invariant
