use Rattle.std.proofs.Common.{◌≡◌, ◌+◌, ◌*◌, ◌-◌, ◌/◌, ℕ, length, get_or, arith, sym, ap, ◌∙◌, [], ◌∷◌}
use Rattle.dbe_aes.specs.Columns.{columns}
use Rattle.dbe_aes.specs.Counters.{counter_block, inc32}
use Rattle.dbe_aes.proofs.Counters.{added_none, added_more, mode_all, inc32-columns, counter_block-more}
use Rattle.dbe_aes.proofs.key.Key256.ctr.Goals as goal

pub loop-j-init : goal.loop-j-init
unfolding counter_block columns
loop-j-init c = record { added = added_none _ _ _; counter = c.columns_of.ensures }

pub loop-j-preserved : goal.loop-j-preserved
loop-j-preserved c =
    let key = c.args.self.now in
    let w : ℕ → ℕ = λ k. get_or c.columns_of.result k 0 in
    let first = c.args.first.now in
    let old = c.args.bytes.now in
    let next : 16 * (c.loop-j.j + 1) ≡ 16 * c.loop-j.j + 16 = omega arith in
    let done = added_more key first old c.loop-j.bytes c.add_block.new.bytes
    (columns (w 0 ∷ w 1 ∷ w 2 ∷ c.loop-j.count ∷ [])) c.loop-j.j 16 c.loop-j.invariant.counter (omega arith)
    c.loop-j.invariant.added c.add_block.ensures.before (rw c.enciphered.ensures at c.add_block.ensures.added) in
    record {
      added = rw next (record {
        done = done;
        left = λ k le. c.add_block.ensures.after k le ∙
            c.loop-j.invariant.added.left k (omega arith);
      });
      counter = sym (inc32-columns (w 0) (w 1) (w 2) c.loop-j.count (omega arith)) ∙
          ap inc32 c.loop-j.invariant.counter ∙ counter_block-more first c.loop-j.j;
    }

pub returns-then-bytes-ne0 : goal.returns-then-bytes-ne0
returns-then-bytes-ne0 c =
    let key = c.args.self.now in
    let w : ℕ → ℕ = λ k. get_or c.columns_of.result k 0 in
    let first = c.args.first.now in
    let old = c.args.bytes.now in
    let blocks : c.loop-j.j ≡ length c.args.bytes.now / 16 = omega arith in
    let rest = length old - 16 * c.loop-j.j in
    let done = added_more key first old c.loop-j.bytes c.add_rest.new.bytes
    (columns (w 0 ∷ w 1 ∷ w 2 ∷ c.loop-j.count ∷ [])) c.loop-j.j rest c.loop-j.invariant.counter (omega arith)
    c.loop-j.invariant.added (rw blocks c.add_rest.ensures.before) (λ i lt. rw (
      blocks,
      ← c.enciphered-then-bytes-ne0.ensures,
    ) (c.add_rest.ensures.added i (omega arith))) in
    mode_all key first old c.add_rest.new.bytes (omega arith) (λ k lt. done k (omega arith))

pub returns-else-bytes-ne0 : goal.returns-else-bytes-ne0
returns-else-bytes-ne0 c =
    mode_all c.args.self.now c.args.first.now c.args.bytes.now c.loop-j.bytes (omega arith)
    (λ k lt. c.loop-j.invariant.added.done k (omega arith))
