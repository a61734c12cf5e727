use Rattle.std.proofs.Common.{ap, ◌∙◌}
use Rattle.dbe_gcm.specs.Gcm.{gcm}
use Rattle.dbe_rawring.proofs.Wraps.{wrapped_key_is}
use Rattle.dbe_rawring.proofs.joined.wrap_key.Goals as goal

pub returns : goal.returns
returns c =
    let key = c.args.key.now in
    let iv = c.args.iv.now in
    let aad = c.args.aad.now in
    wrapped_key_is key iv aad c.args.text.now c.seal_in_place.new.bytes c.copy_from_slice-2.new.self
    (c.seal_in_place.ensures.ciphertext ∙ ap (λ t. (gcm key iv aad t).ciphertext) c.copy_from_slice.ensures.after)
    (c.copy_from_slice-2.ensures.after ∙ c.seal_in_place.ensures.tag ∙ ap (λ t. (gcm key iv aad t).tag)
    c.copy_from_slice.ensures.after)
