use Rattle.std.proofs.Common.{◌≡◌, drop, ap, ◌∙◌, arith, length-drop}
use Rattle.std.proofs.lemmas.List.{take_all}
use Rattle.dbe_rawring.proofs.Rings.{raw_ciphertext_is, same_edk}
use Rattle.dbe_rawring.proofs.wrapping.wrap.Goals as goal

pub returns-clause-edk : goal.returns-clause-edk
returns-clause-edk c =
    let ring = c.args.ring.now in
    let drawn = c.args.drawn.now in
    let made = raw_ciphertext_is ring.key c.args.context.now c.args.data_key.now drawn c.ring.inside.key
    c.part-intermediate.result c.part-iv.result c.wrap_key-outer.result c.wrap_inner_and_sign-inner.result.wrapped
    (ap (λ r. r.key) c.ring.view_is) c.part-intermediate.ensures
    (c.part-iv.ensures ∙ take_all 12 (drop 32 drawn) (omega (arith, length-drop 32 drawn)))
    c.wrap_key-outer.ensures c.wrap_inner_and_sign-inner.ensures.wrapped in
    let provider : c.in_ok-provider.provider ≡ ring.namespace =
    c.in_ok-provider.ensures ∙ c.as_bytes.ensures ∙ ap (λ r. r.namespace) c.ring.view_is in
    let info : c.in_ok-info.info ≡ ring.name =
    c.in_ok-info.ensures ∙ c.as_bytes-2.ensures ∙ ap (λ r. r.name) c.ring.view_is in
    c.new.ensures ∙ same_edk _ ring.namespace ring.name _ provider info
    (c.in_ok-ciphertext.ensures ∙ c.joined.ensures ∙ made)
