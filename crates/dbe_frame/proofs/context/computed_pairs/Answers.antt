use Rattle.std.proofs.Common.{rules}
use Rattle.std.proofs.lemmas.List.Sorted.{All-permutation, answers_always}
use Rattle.dbe_values.specs.KeyValues.{key_view}
use Rattle.dbe_frame.specs.Context.{pair_below}
use Rattle.dbe_frame.specs.Header.{IsShortPair}
use Rattle.dbe_frame.proofs.Computed.{pairs_weak, pairs_sorted}
use Rattle.dbe_frame.proofs.context.computed_pairs.Goals as goal

pub returns-clause-pairs : goal.returns-clause-pairs
returns-clause-pairs c =
    let sorted = c.in_ok-sort_by.ensures.sorted pair_below pairs_weak
    (answers_always _ _ _ (λ f a r f' k. search rules)) in
    let stable = c.in_ok-sort_by.ensures.stable pair_below pairs_weak
    (answers_always _ _ _ (λ f a r f' k. search rules)) in
    pairs_sorted c.args.schema.now c.args.table.now (key_view c.args.key.now) c.in_ok-pairs.pairs.items
    c.sort_by.new.self.items c.in_ok-pairs.ensures.pairs sorted stable

pub returns-clause-short : goal.returns-clause-short
returns-clause-short c = All-permutation IsShortPair c.in_ok-pairs.pairs.items c.sort_by.new.self.items
    c.in_ok-sort_by.ensures.permutation c.in_ok-pairs.ensures.short
