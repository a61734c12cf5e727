use Rattle.std.proofs.Common.{List, refl, subst}
use Rattle.dbe_rawring.specs.Edk.{EdkParts}
use Rattle.dbe_item.specs.Opening.{SeeksRing}
use Rattle.dbe_item.proofs.Seeking.{edk_found, edks_next}
use Rattle.dbe_item.proofs.seek.seek.Goals as goal

pub loop-i-preserved : goal.loop-i-preserved
loop-i-preserved c =
    edks_next c.args.rings.now c.args.context.now c.as_slice-edks.result.now c.loop-i.i c.index-edks-i.result
    c.loop-i-test.true c.index-edks-i.is c.loop-i.invariant (c.in_default.ensures.none refl)

pub returns-in-Some-clause-found : goal.returns-in-Some-clause-found
returns-in-Some-clause-found c =
    subst (λ (es : List EdkParts). SeeksRing c.args.rings.now c.args.context.now es c.loop-i.i c.in-Some.data_key.key
    c.in-Some.data_key.signing) c.as_slice-edks.ensures.edks (edk_found c.args.rings.now c.args.context.now
    c.as_slice-edks.result.now c.loop-i.i c.index-edks-i.result c.in-Some.data_key.key c.in-Some.data_key.signing
    c.loop-i-test.true c.index-edks-i.is c.loop-i.invariant c.in-Some.ensures.found)
