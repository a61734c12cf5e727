use Rattle.std.proofs.Common.{◌≡◌, ◌++◌, drop, length}
use Rattle.dbe_canon.specs.Canon.{count_bytes, long_strings}
use Rattle.dbe_canon.proofs.writing.put_texts.Given as goal

abbrev pub invariant-loop-text : goal.invariant-loop-text
invariant-loop-text l = l.out.items ++ long_strings (drop l.text-index l.texts) ≡ l.fn.out.items ++
    (count_bytes (length l.texts) ++ long_strings l.texts)
