use Rattle.std.proofs.Common.{map, string_bytes, arith}
use Rattle.dbe_values.specs.Sets.{IsNumberText}
use Rattle.dbe_values.specs.Reading.{number_text_in}
use Rattle.dbe_values.proofs.Elements.{element_more}
use Rattle.dbe_values.proofs.LawfulReads.{put_each}
use Rattle.dbe_values.proofs.read.numbers_of.Goals as goal

pub loop-item-preserved : goal.loop-item-preserved
loop-item-preserved c = record {
  so_far = element_more number_text_in (map string_bytes c.loop-item.texts.keys) c.args.items.now
      c.loop-item.item-index c.item-item.result c.loop-item-test.true c.item-item.is _ c.loop-item.invariant.so_far _
      _ c.in_ok-number_text_in.ensures.gives c.in_ok-put_text.ensures.gives;
  each = put_each IsNumberText _ _ (map string_bytes c.loop-item.texts.keys) _ c.in_ok-put_text.ensures.gives
      c.in_ok-number_text_in.ensures.lawful c.loop-item.invariant.each;
  some = omega (arith, c.in_ok-put_text.ensures.longer);
}
