use Rattle.std.proofs.Common.{refl, sym, ap, ◌∙◌}
use Rattle.std.specs.List.{IsDistinct}
use Rattle.std.proofs.lemmas.Cmp.{nat_list_eq_equiv}
use Rattle.std.proofs.lemmas.Map.Keys.{IsDistinct-push}
use Rattle.dbe_config.specs.Rules.{is_among}
use Rattle.dbe_session.proofs.Distinct.{with_one, without_one}
use Rattle.dbe_session.proofs.names.distinct.Goals.{then-not-is_among+in_ok-copy+in_ok-push, else-not-is_among}
use Rattle.dbe_session.proofs.names.distinct.Goals as goal

pub loop-name-init : goal.loop-name-init
unfolding IsDistinct
loop-name-init c = rw c.new-found.ensures.items (record { same = λ n. refl; once = tt })

pub loop-name-preserved : goal.loop-name-preserved
loop-name-preserved c =
    let before = c.loop-name.invariant in
    elim c.if-not-is_among.branch [
      | then-not-is_among+in_ok-copy+in_ok-push w ↦ rw (
        w.found-is,
        w.in_ok-push.ensures.items,
        w.in_ok-copy.ensures,
      ) (record {
        same = with_one c.args.names.now c.loop-name.found.items c.loop-name.name-index c.name-item.result
            c.loop-name-test.true c.name-item.is before.same;
        once = IsDistinct-push nat_list_eq_equiv c.loop-name.found.items c.name-item.result before.once
            (sym (w.if-not-is_among.ensures ∙ ap (is_among c.name-item.result) c.deref.ensures.value));
      })
      | else-not-is_among w ↦ rw w.found-is (record {
        same = without_one c.args.names.now c.loop-name.found.items c.loop-name.name-index c.name-item.result
            c.loop-name-test.true c.name-item.is before.same (sym (w.if-not-is_among.ensures ∙
            ap (is_among c.name-item.result) c.deref.ensures.value));
        once = before.once;
      })
    ]
