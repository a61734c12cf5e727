use Rattle.std.proofs.Common.{◌≡◌, drop}
use Rattle.dbe_values.specs.Writing.{base64_texts}
use Rattle.dbe_values.proofs.Members.{items_onto}
use Rattle.dbe_values.proofs.write.base64_values.Given as goal

abbrev pub invariant-loop-bytes : goal.invariant-loop-bytes
invariant-loop-bytes l = items_onto l.out.items (base64_texts (drop l.bytes-index l.binaries)) ≡ base64_texts l.binaries
