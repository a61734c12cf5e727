use Rattle.std.proofs.Common.{arith, ap, subst, sym, ◌∙◌, ◌∷◌, ◌++◌, []}
use Rattle.std.specs.List.{All}
use Rattle.std.proofs.lemmas.List.Elements.{All-push}
use Rattle.dbe_rawring.specs.Edk.{IsEdk}
use Rattle.dbe_rawring.specs.Ring.{raw_edk, intermediate_of}
use Rattle.dbe_rawring.specs.Wrap.{signing_key}
use Rattle.dbe_item.proofs.Pieces.{wraps_more}
use Rattle.dbe_item.proofs.wraps.wrap_all.Goals as goal

pub loop-ring-preserved : goal.loop-ring-preserved
loop-ring-preserved c = record {
  left = omega (arith, c.loop-ring.invariant.left, c.split_at.ensures.back_len);
  edks = wraps_more (λ x. x.edk) c.args.rings.now c.loop-ring.ring-index c.ring-item.result c.args.context.now
      c.args.data_key.now c.loop-ring.rest.now c.split_at.result.1.now c.loop-ring.edks.items c.push.new.self.items _
      c.loop-ring-test.true c.ring-item.is c.split_at.ensures.back c.loop-ring.invariant.edks
      (c.in_ok-push.ensures.items ∙ ap (λ e. c.loop-ring.edks.items ++ e ∷ []) (c.in_ok-wrapped.ensures.edk ∙
      ap (λ d. raw_edk c.ring-item.result c.args.context.now c.args.data_key.now d) c.part.ensures));
  signing = wraps_more (λ x. x.signing) c.args.rings.now c.loop-ring.ring-index c.ring-item.result c.args.context.now
      c.args.data_key.now c.loop-ring.rest.now c.split_at.result.1.now c.loop-ring.signing.items
      c.push-in-loop-ring.new.self.items _ c.loop-ring-test.true c.ring-item.is c.split_at.ensures.back
      c.loop-ring.invariant.signing (c.in_ok-push-2.ensures.items ∙ ap (λ e. c.loop-ring.signing.items ++ e ∷ [])
      (c.in_ok-wrapped.ensures.signing ∙ ap (λ d. signing_key (intermediate_of d)) c.part.ensures));
  each = subst (All IsEdk) (sym c.in_ok-push.ensures.items) (All-push IsEdk c.loop-ring.edks.items
      c.in_ok-wrapped.wrapped.edk c.loop-ring.invariant.each c.is_edk.ensures);
}
