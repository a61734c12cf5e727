use Rattle.std.proofs.Common.{rules}
use Rattle.std.proofs.lemmas.List.Sorted.{answers_always}
use Rattle.dbe_frame.specs.Signed.{name_below}
use Rattle.dbe_frame.proofs.Names.{names_weak, names_sorted}
use Rattle.dbe_frame.proofs.signed.signed_names.Goals as goal

pub returns : goal.returns
returns c =
    let sorted = c.in_ok-sort_by.ensures.sorted name_below names_weak
    (answers_always _ _ _ (λ f a r f' k. search rules)) in
    let stable = c.in_ok-sort_by.ensures.stable name_below names_weak
    (answers_always _ _ _ (λ f a r f' k. search rules)) in
    names_sorted c.args.config.now c.args.row.now c.in_ok-names.names.items c.sort_by.new.self.items
    c.in_ok-names.ensures sorted stable
