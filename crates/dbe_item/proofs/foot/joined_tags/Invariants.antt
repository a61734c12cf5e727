use Rattle.std.proofs.Common.{◌≡◌, map, take}
use Rattle.sha2.specs.Sha512.{sha384}
use Rattle.dbe_kdf.specs.Hmac.{hmac}
use Rattle.dbe_frame.specs.Format.{joined}
use Rattle.dbe_item.proofs.foot.joined_tags.Given as goal

abbrev pub invariant-loop-i : goal.invariant-loop-i
invariant-loop-i l = l.tags.items ≡ joined (map (λ key. hmac sha384 key l.digest) (take l.i l.signing))
