use Rattle.std.proofs.Common.{◌≡◌, ◌-◌, ◌+◌, suc, refl, arith, rules, sym, ◌∙◌, take_all}
use Rattle.std.proofs.lemmas.List.{length-set}
use Rattle.dbe_aes.specs.Words.{key_schedule}
use Rattle.dbe_aes.proofs.Expansion.{words_none, words_more}
use Rattle.dbe_aes.proofs.schedule.key_schedule.Goals as goal

pub loop-next-init : goal.loop-next-init
loop-next-init c = (c.loop-i.invariant.0, words_none c.args.key.now c.loop-i.words c.loop-i.invariant.0 (search rules))

pub loop-next-preserved : goal.loop-next-preserved
loop-next-preserved c =
    let next : c.loop-next.next + 1 - 8 ≡ suc (c.loop-next.next - 8) = omega arith in (
      length-set _ _ _ ∙ c.loop-next.invariant.0,
      rw (next, c.addend.ensures) (words_more c.args.key.now c.loop-next.words c.loop-next.next (c.loop-next.next - 8)
          _ (omega arith) (omega arith) c.loop-next.invariant.1 refl),
    )

pub returns : goal.returns
unfolding key_schedule
returns c =
    let done : c.loop-next.next ≡ 60 = omega arith in
    let more : c.loop-next.next - 8 ≡ 52 = omega arith in
    sym (take_all 60 c.loop-next.words (omega arith)) ∙ rw (done) at c.loop-next.invariant.1
