use Rattle.std.proofs.Common.{inl, inr, ◌≡◌, length, take, drop, ap, ◌∙◌, arith, length-drop}
use Rattle.std.proofs.lemmas.Bool.{false≢true}
use Rattle.std.proofs.lemmas.List.{length-take-le, take_all}
use Rattle.dbe_rawring.specs.Ring.{IsMine, deciphered, inner_part, iv_part, outer_part}
use Rattle.dbe_rawring.specs.declared.fault.RingFault.TheVariants.{NotMine, NotAuthentic}
use Rattle.dbe_rawring.proofs.Rings.{deciphered_by_parts, inner_differs, length-deciphered, no_fault, outer_by_parts}
use Rattle.dbe_rawring.proofs.Rings.{outer_differs, unwraps_parts}
use Rattle.dbe_rawring.proofs.wrapping.unwrap.Goals as goal

pub returns-then-not-is_mine-clause-none : goal.returns-then-not-is_mine-clause-none
returns-then-not-is_mine-clause-none c = λ data_key signing u.
    no_fault NotMine c.args.ring.now c.args.context.now c.args.edk.now data_key signing
    (λ h. false≢true (c.if-not-is_mine.ensures.1 h)) u

pub returns-in_default-clause-none : goal.returns-in_default-clause-none
returns-in_default-clause-none c = λ data_key signing u.
    let ring = c.args.ring.now in
    let context = c.args.context.now in
    let text = c.args.edk.now.ciphertext in
    let mine : IsMine ring c.args.edk.now = c.is_mine.ensures.0 c.if-not-is_mine.false in
    let key : c.ring.inside.key ≡ ring.key = ap (λ r. r.key) c.ring.view_is in
    let iv : c.part-iv.result ≡ iv_part text = c.part-iv.ensures ∙ ap iv_part c.ciphertext-ciphertext.ensures.bytes in
    let outer : c.part-outer.result ≡ outer_part text =
    c.part-outer.ensures ∙ ap outer_part c.ciphertext-ciphertext.ensures.bytes in
    let no = outer_differs ring.key context text _ _ _ key iv outer (λ h.
    false≢true (c.in_default.ensures.authentic.1 h)) in
    no_fault NotAuthentic ring context c.args.edk.now data_key signing (mine, inl no) u

pub returns-in-Some-unwrap_inner-clause-opened : goal.returns-in-Some-unwrap_inner-clause-opened
returns-in-Some-unwrap_inner-clause-opened c =
    let ring = c.args.ring.now in
    let context = c.args.context.now in
    let text = c.args.edk.now.ciphertext in
    let mine : IsMine ring c.args.edk.now = c.is_mine.ensures.0 c.if-not-is_mine.false in
    let key : c.ring.inside.key ≡ ring.key = ap (λ r. r.key) c.ring.view_is in
    let iv : c.part-iv.result ≡ iv_part text = c.part-iv.ensures ∙ ap iv_part c.ciphertext-ciphertext.ensures.bytes in
    let outer : c.part-outer.result ≡ outer_part text =
    c.part-outer.ensures ∙ ap outer_part c.ciphertext-ciphertext.ensures.bytes in
    let inner : c.part-inner.result ≡ inner_part text =
    c.part-inner.ensures ∙ ap (λ t. take 48 (drop 60 t)) c.ciphertext-ciphertext.ensures.bytes
    ∙ take_all 48 (inner_part text) (omega (arith, length-drop 60 text, mine.size)) in
    let opened : c.in-Some.intermediate ≡ deciphered ring.key (iv_part text) (outer_part text) =
    deciphered_by_parts ring.key context text _ _ _ _ key iv outer c.in-Some.ensures.deciphered in
    let size : length c.in-Some.intermediate ≡ 32 = ap length opened ∙ length-deciphered ring.key _ (outer_part text)
    (length-take-le 48 (drop 12 text) (omega (arith, length-drop 12 text, mine.size))) in
    let wrapped = outer_by_parts ring.key context text _ _ _ _ key iv outer c.in-Some.ensures.wrapped in
    unwraps_parts ring context c.args.edk.now c.in-Some.intermediate c.in-Some-unwrap_inner.data_key.key
    c.in-Some-unwrap_inner.data_key.signing mine size wrapped (rw inner at c.in-Some-unwrap_inner.ensures.opened)
    c.in-Some-unwrap_inner.ensures.signing

pub returns-in-None-clause-fault : goal.returns-in-None-clause-fault
returns-in-None-clause-fault c =
    let ring = c.args.ring.now in
    let context = c.args.context.now in
    let text = c.args.edk.now.ciphertext in
    let mine : IsMine ring c.args.edk.now = c.is_mine.ensures.0 c.if-not-is_mine.false in
    let key : c.ring.inside.key ≡ ring.key = ap (λ r. r.key) c.ring.view_is in
    let iv : c.part-iv.result ≡ iv_part text = c.part-iv.ensures ∙ ap iv_part c.ciphertext-ciphertext.ensures.bytes in
    let outer : c.part-outer.result ≡ outer_part text =
    c.part-outer.ensures ∙ ap outer_part c.ciphertext-ciphertext.ensures.bytes in
    let inner : c.part-inner.result ≡ inner_part text =
    c.part-inner.ensures ∙ ap (λ t. take 48 (drop 60 t)) c.ciphertext-ciphertext.ensures.bytes
    ∙ take_all 48 (inner_part text) (omega (arith, length-drop 60 text, mine.size)) in
    let opened : c.in-Some.intermediate ≡ deciphered ring.key (iv_part text) (outer_part text) =
    deciphered_by_parts ring.key context text _ _ _ _ key iv outer c.in-Some.ensures.deciphered in
    let no = inner_differs ring.key context text _ _ opened inner (λ h. false≢true (c.in-None.ensures.tag.1 h)) in
    (mine, inr no)

pub returns-in-None-clause-none : goal.returns-in-None-clause-none
returns-in-None-clause-none c = λ data_key signing u.
    let ring = c.args.ring.now in
    let context = c.args.context.now in
    let text = c.args.edk.now.ciphertext in
    let mine : IsMine ring c.args.edk.now = c.is_mine.ensures.0 c.if-not-is_mine.false in
    let key : c.ring.inside.key ≡ ring.key = ap (λ r. r.key) c.ring.view_is in
    let iv : c.part-iv.result ≡ iv_part text = c.part-iv.ensures ∙ ap iv_part c.ciphertext-ciphertext.ensures.bytes in
    let outer : c.part-outer.result ≡ outer_part text =
    c.part-outer.ensures ∙ ap outer_part c.ciphertext-ciphertext.ensures.bytes in
    let inner : c.part-inner.result ≡ inner_part text =
    c.part-inner.ensures ∙ ap (λ t. take 48 (drop 60 t)) c.ciphertext-ciphertext.ensures.bytes
    ∙ take_all 48 (inner_part text) (omega (arith, length-drop 60 text, mine.size)) in
    let opened : c.in-Some.intermediate ≡ deciphered ring.key (iv_part text) (outer_part text) =
    deciphered_by_parts ring.key context text _ _ _ _ key iv outer c.in-Some.ensures.deciphered in
    let no = inner_differs ring.key context text _ _ opened inner (λ h. false≢true (c.in-None.ensures.tag.1 h)) in
    no_fault NotAuthentic ring context c.args.edk.now data_key signing (mine, inr no) u
