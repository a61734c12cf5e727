use Rattle.std.proofs.Common.{◌*◌, ◌^◌, arith, ap, ◌∙◌}
use Rattle.std.specs.Ordering.{ordering_reverse}
use Rattle.dbe_num.proofs.Compared.{sizes_compared, cmp_reversed}
use Rattle.dbe_num.proofs.number.Number.compare_sizes.Goals as goal

pub returns-then-place-other_place : goal.returns-then-place-other_place
returns-then-place-other_place c =
    sizes_compared c.args.self.now c.args.other.now _ _ _ _ c.compare_raised.result
    (ap (λ d. d.digits) c.self.view_is) (ap (λ d. d.digits) c.other.view_is) c.place-place.ensures
    c.place-other_place.ensures c.if-place-other_place.true c.compare_raised.ensures

pub returns-else-place-other_place : goal.returns-else-place-other_place
returns-else-place-other_place c =
    let a = c.args.self.now in
    let b = c.args.other.now in
    let turned = sizes_compared b a _ _ _ _ c.compare_raised-else-place-other_place.result
    (ap (λ d. d.digits) c.other.view_is) (ap (λ d. d.digits) c.self.view_is) c.place-other_place.ensures
    c.place-place.ensures (omega arith) c.compare_raised-else-place-other_place.ensures in
    c.reverse.ensures
    ∙ ap ordering_reverse turned
    ∙ cmp_reversed (b.digits * 10 ^ b.place) (a.digits * 10 ^ a.place)
