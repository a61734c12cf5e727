use Rattle.std.proofs.Common.{◌≡◌, ◌++◌, map, take, drop}
use Rattle.std.specs.Char.{to_ascii_lowercase}
use Rattle.dbe_fields.proofs.characters.make_lower.Given as goal

abbrev pub invariant-loop-c : goal.invariant-loop-c
invariant-loop-c l = l.text ≡ map to_ascii_lowercase (take l.c-index l.fn.text) ++ drop l.c-index l.fn.text
