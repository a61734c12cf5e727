use Rattle.std.proofs.Common.{map, vec_items, arith}
use Rattle.dbe_values.specs.Lawful.{AreBytes}
use Rattle.dbe_values.specs.Reading.{binary_in}
use Rattle.dbe_values.proofs.Elements.{element_more}
use Rattle.dbe_values.proofs.LawfulReads.{put_each}
use Rattle.dbe_values.proofs.read.binaries_of.Goals as goal

pub loop-item-preserved : goal.loop-item-preserved
loop-item-preserved c = record {
  so_far = element_more binary_in (map vec_items c.loop-item.binaries.keys) c.args.items.now c.loop-item.item-index
      c.item-item.result c.loop-item-test.true c.item-item.is _ c.loop-item.invariant.so_far _ _
      c.in_ok-binary_in.ensures.gives c.in_ok-put_binary.ensures.gives;
  each = put_each AreBytes _ _ (map vec_items c.loop-item.binaries.keys) _ c.in_ok-put_binary.ensures.gives
      c.in_ok-binary_in.ensures.lawful c.loop-item.invariant.each;
  some = omega (arith, c.in_ok-put_binary.ensures.longer);
}
