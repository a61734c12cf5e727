use Rattle.std.proofs.Common.{◌≡◌, true, false, eqb, get_or, arith}
use Rattle.std.proofs.lemmas.Bool.Decides.{nat_tests}
use Rattle.dbe_frame.specs.Sizes.{encrypted}
use Rattle.dbe_item.proofs.Marks.{marked_kept, marked_more}
use Rattle.dbe_item.proofs.marked.marked_names.Goals as goal

pub loop-i-preserved : goal.loop-i-preserved
loop-i-preserved c =
    let e : eqb (get_or c.args.legend.now c.loop-i.i 0) encrypted ≡ true = grind (
      arith,
      nat_tests,
      c.if-legend-i-ne-ENCRYPTED.false,
    ) in
    marked_more c.loop-i.i c.args.names.now c.args.legend.now c.loop-i-test.true c.requires c.loop-i.encrypted.items
    c.loop-i.invariant c.index-names-i.result c.in_ok-copy.field-0 c.push.new.self.items e c.index-names-i.is
    c.in_ok-copy.ensures c.in_ok-push.ensures.items

pub loop-i-preserved-then-legend-i-ne-ENCRYPTED : goal.loop-i-preserved-then-legend-i-ne-ENCRYPTED
loop-i-preserved-then-legend-i-ne-ENCRYPTED c =
    let e : eqb (get_or c.args.legend.now c.loop-i.i 0) encrypted ≡ false = grind (
      arith,
      nat_tests,
      c.if-legend-i-ne-ENCRYPTED.true,
    ) in
    marked_kept c.loop-i.i c.args.names.now c.args.legend.now c.loop-i-test.true c.requires c.loop-i.encrypted.items
    c.loop-i.invariant e
