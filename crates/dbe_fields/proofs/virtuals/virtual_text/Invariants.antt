use Rattle.std.proofs.Common.{◌≡◌, ◌++◌, drop, map, option_map, string_bytes, encode_utf8_all}
use Rattle.dbe_fields.specs.Virtuals.{part_chars, joined, virtual_text}
use Rattle.dbe_fields.proofs.virtuals.virtual_text.Given as goal

abbrev pub invariant-loop-part : goal.invariant-loop-part
invariant-loop-part l = option_map (λ cs. string_bytes l.text ++ encode_utf8_all cs)
    (joined (map (part_chars l.item) (drop l.part-index l.parts))) ≡ virtual_text l.item l.parts
