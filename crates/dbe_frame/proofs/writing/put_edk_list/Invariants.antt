use Rattle.std.proofs.Common.{◌≡◌, ◌++◌, take}
use Rattle.std.specs.List.{flat_map}
use Rattle.dbe_frame.specs.Writing.{edk_text}
use Rattle.dbe_frame.proofs.writing.put_edk_list.Given as goal

abbrev pub invariant-loop-edk : goal.invariant-loop-edk
invariant-loop-edk l = l.out.items ≡ l.initial.out.items ++ flat_map edk_text (take l.edk-index l.edks)
