use Rattle.std.proofs.Common.{◌≡◌, take, map}
use Rattle.dbe_fields.specs.Compounds.{part_text}
use Rattle.dbe_fields.proofs.compounds.part_texts.Given as goal

abbrev pub invariant-loop-part : goal.invariant-loop-part
invariant-loop-part l = l.texts.items ≡ map (part_text l.config l.item) (take l.part-index l.parts)
