use Rattle.sha2.specs.Sha512.{sha384}
use Rattle.dbe_kdf.specs.Hmac.{hmac}
use Rattle.dbe_item.proofs.Pieces.{tags_more}
use Rattle.dbe_item.proofs.foot.joined_tags.Goals as goal

pub loop-i-preserved : goal.loop-i-preserved
loop-i-preserved c = tags_more (λ key. hmac sha384 key c.args.digest.now) c.args.signing.now c.loop-i.i _
    c.loop-i.tags.items c.put_tag.new.tags.items c.loop-i-test.true c.loop-i.invariant c.in_ok-put_tag.ensures
