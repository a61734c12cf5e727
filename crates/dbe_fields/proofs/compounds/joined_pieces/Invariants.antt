use Rattle.std.proofs.Common.{◌≡◌, ◌++◌, drop, filter_map, string_bytes}
use Rattle.dbe_fields.specs.Compounds.{present, joined_pieces}
use Rattle.dbe_fields.proofs.Joining.{rest_of}
use Rattle.dbe_fields.proofs.compounds.joined_pieces.Given as goal

abbrev pub invariant-loop-entry : goal.invariant-loop-entry
invariant-loop-entry l = string_bytes l.text ++ rest_of l.split l.gap (filter_map (present l.parts l.texts)
    (drop l.entry-index l.entries)) ≡ joined_pieces l.split (filter_map (present l.parts l.texts) l.entries)
