use Rattle.std.proofs.Common.{arith, sym, ap, length, ◌<◌}
use Rattle.dbe_tokens.proofs.Cuts.{space_step, token_step, bad_at, whole_cut, tokens_starts, cut_unique, place_unique}
use Rattle.dbe_tokens.proofs.Cuts.{cut_not_bad}
use Rattle.dbe_tokens.proofs.cutting.cut.Goals as goal

pub loop-first-preserved-then-is_space : goal.loop-first-preserved-then-is_space
loop-first-preserved-then-is_space c = record {
  so_far = space_step _ _ _ _ _ _ c.loop-first.invariant.so_far c.loop-first.invariant.within
      c.in-Some.ensures.cases.0 (sym c.if-is_space.ensures);
  within = omega (arith, ap length c.in-Some.ensures.cases.0, c.loop-first.invariant.within);
}

pub returns-in_default-front-clause-only : goal.returns-in_default-front-clause-only
returns-in_default-front-clause-only c = λ tokens starts is.
    cut_not_bad _ tokens starts _ is (bad_at _ _ _ _ _ _ _ c.loop-first.invariant.so_far c.in-Some.ensures.cases.0
    (sym c.if-is_space.ensures) c.in_default-front.ensures.none)

pub returns-in_default-front-clause-bad : goal.returns-in_default-front-clause-bad
returns-in_default-front-clause-bad c = λ at is.
    place_unique _ _ at (bad_at _ _ _ _ _ _ _ c.loop-first.invariant.so_far c.in-Some.ensures.cases.0
    (sym c.if-is_space.ensures) c.in_default-front.ensures.none) is

pub loop-first-preserved : goal.loop-first-preserved
loop-first-preserved c = record {
  so_far = token_step _ _ _ _ _ _ _ _ c.loop-first.invariant.so_far c.loop-first.invariant.within
      c.in-Some-front.ensures.some c.in_ok-push.ensures.items c.in_ok-push-2.ensures.items;
  within = let less : length c.in-Some-front.back.now < length c.loop-first.rest.now =
      c.in-Some-front.ensures.shorter in omega (arith, c.loop-first.invariant.within);
}

pub returns-clause-only : goal.returns-clause-only
returns-clause-only c = λ tokens starts is. cut_unique _ _ _ _ _ (whole_cut _ _ _ _ c.loop-first.invariant.so_far
    c.in_default.ensures.cases) is

pub returns-clause-bad : goal.returns-clause-bad
returns-clause-bad c = λ at is. cut_not_bad _ _ _ at (whole_cut _ _ _ _ c.loop-first.invariant.so_far
    c.in_default.ensures.cases) is

pub returns-clause-starts : goal.returns-clause-starts
returns-clause-starts c = tokens_starts _ _ _ _ _ _ c.loop-first.invariant.so_far
