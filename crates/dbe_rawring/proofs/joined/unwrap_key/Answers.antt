use Rattle.std.proofs.Common.{◌≡◌, drop, refl, sym, ap, ◌∙◌, arith, length-drop}
use Rattle.std.proofs.lemmas.List.{take_all}
use Rattle.dbe_gcm.specs.Gcm.{tag_of}
use Rattle.dbe_rawring.proofs.Wraps.{wrapped_key-authentic}
use Rattle.dbe_rawring.proofs.joined.unwrap_key.Goals as goal

pub returns-then-open_in_place-clause-authentic : goal.returns-then-open_in_place-clause-authentic
returns-then-open_in_place-clause-authentic c =
    let w = c.args.wrapped.now in
    let tag : c.part-tag.result ≡ drop 32 w =
    c.part-tag.ensures ∙ take_all 16 (drop 32 w) (omega (arith, length-drop 32 w)) in
    let same = c.open_in_place.ensures.authentic.0 c.if-open_in_place.true in
    (λ e. sym tag ∙ same ∙ ap (tag_of c.args.key.now c.args.iv.now c.args.aad.now) c.part-text.ensures, λ h. refl)

pub returns-then-open_in_place-clause-wrapped : goal.returns-then-open_in_place-clause-wrapped
returns-then-open_in_place-clause-wrapped c =
    let w = c.args.wrapped.now in
    let tag : c.part-tag.result ≡ drop 32 w =
    c.part-tag.ensures ∙ take_all 16 (drop 32 w) (omega (arith, length-drop 32 w)) in
    wrapped_key-authentic c.args.key.now c.args.iv.now c.args.aad.now w c.open_in_place.new.bytes c.part-text.result
    c.part-tag.result c.part-text.ensures tag (c.open_in_place.ensures.sealed c.if-open_in_place.true)

pub returns-else-open_in_place-clause-authentic : goal.returns-else-open_in_place-clause-authentic
returns-else-open_in_place-clause-authentic c =
    let w = c.args.wrapped.now in
    let tag : c.part-tag.result ≡ drop 32 w =
    c.part-tag.ensures ∙ take_all 16 (drop 32 w) (omega (arith, length-drop 32 w)) in (
      λ e. cc,
      λ h. sym c.if-open_in_place.false ∙ c.open_in_place.ensures.authentic.1
          (tag ∙ h ∙ ap (tag_of c.args.key.now c.args.iv.now c.args.aad.now) (sym c.part-text.ensures)),
    )
